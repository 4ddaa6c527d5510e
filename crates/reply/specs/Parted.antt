-- The part of the bytes that a leaf's text is.
use Rattle.std.specs.Prelude.{ℕ, suc, ◌+◌, ◌-◌, ◌^◌, min, Bool, true, false, cond, ◌||◌, List, [], ◌∷◌, length, ℤ, Some, None, Option, ◌==◌}
use Rattle.resp.specs.declared.case.Case.{Case}
use Rattle.resp.specs.declared.case.Case.TheVariants as case
use Rattle.resp.specs.Reply.{Leaf, Nil, Int, BulkString, SimpleString, Okay, Double, Boolean, VerbatimString, BigNumber, ServerError}
use Rattle.resp.specs.Node.{Node, OneAt, ArrayAt, SetAt, PushAt, MapAt, AttributeAt, PairAt}
use Rattle.reply.specs.declared.part.Part.{Part}

-- how many bytes stand up to the first LF, and with it
abbrev pub after_lf : List ℕ → ℕ
after_lf [] = 0
after_lf (b ∷ bs) = cond (b == 10) 1 (suc (after_lf bs))

-- how far from a leaf's first byte its text begins: after the first line of a body, and after a verbatim string's format
abbrev pub text_start : List ℕ → ℕ
text_start [] = 1
text_start (b ∷ bs) = cond (b == 36 || b == 33) (after_lf (b ∷ bs)) (cond (b == 61) (min (after_lf (b ∷ bs) + 4) (2 ^ 64 - 1)) 1)

-- so many bytes that end two before e
abbrev pub before : ℕ → List ℕ → Part
before e c = record { start = e - 2 - length c; len = length c }

-- the text of a leaf that begins at p and ends before e; of an integer its line; of what has no text no bytes
abbrev pub part_in : ℕ → ℕ → Leaf → Part
part_in p e Nil = record { start = p; len = 0 }
part_in p e (Int z) = record { start = p + 1; len = e - 2 - (p + 1) }
part_in p e (BulkString s) = before e s
part_in p e (SimpleString c) = before e c
part_in p e Okay = record { start = p + 1; len = 2 }
part_in p e (Double c) = before e c
part_in p e (Boolean v) = record { start = p + 1; len = 1 }
part_in p e (VerbatimString f t) = before e t
part_in p e (BigNumber c) = before e c
part_in p e (ServerError c) = before e c

abbrev pub part_of : Node → Part
part_of (OneAt p e l) = part_in p e l
part_of (ArrayAt p e ns) = record { start = p; len = 0 }
part_of (SetAt p e ns) = record { start = p; len = 0 }
part_of (PushAt p e ns) = record { start = p; len = 0 }
part_of (MapAt p e ps) = record { start = p; len = 0 }
part_of (AttributeAt p e ps n) = record { start = p; len = 0 }
part_of (PairAt p e k v) = record { start = p; len = 0 }

-- whether a reply of a case has a text
abbrev pub textual : Case → Bool
textual case.Nil = false
textual case.Array = false
textual case.Set = false
textual case.Push = false
textual case.Map = false
textual case.Attribute = false
textual case.Int = true
textual case.BulkString = true
textual case.SimpleString = true
textual case.Okay = true
textual case.Double = true
textual case.Boolean = true
textual case.VerbatimString = true
textual case.BigNumber = true
textual case.ServerError = true

-- the value of an integer
abbrev pub integer_in : Node → Option ℤ
integer_in (OneAt p e Nil) = None
integer_in (OneAt p e (Int z)) = Some z
integer_in (OneAt p e (BulkString s)) = None
integer_in (OneAt p e (SimpleString c)) = None
integer_in (OneAt p e Okay) = None
integer_in (OneAt p e (Double c)) = None
integer_in (OneAt p e (Boolean v)) = None
integer_in (OneAt p e (VerbatimString f t)) = None
integer_in (OneAt p e (BigNumber c)) = None
integer_in (OneAt p e (ServerError c)) = None
integer_in (ArrayAt p e ns) = None
integer_in (SetAt p e ns) = None
integer_in (PushAt p e ns) = None
integer_in (MapAt p e ps) = None
integer_in (AttributeAt p e ps n) = None
integer_in (PairAt p e k v) = None

-- the three bytes of a verbatim string's format
abbrev pub format_in : Leaf → List ℕ
format_in Nil = []
format_in (Int z) = []
format_in (BulkString s) = []
format_in (SimpleString c) = []
format_in Okay = []
format_in (Double c) = []
format_in (Boolean v) = []
format_in (VerbatimString f t) = f
format_in (BigNumber c) = []
format_in (ServerError c) = []

abbrev pub format_of : Node → List ℕ
format_of (OneAt p e l) = format_in l
format_of (ArrayAt p e ns) = []
format_of (SetAt p e ns) = []
format_of (PushAt p e ns) = []
format_of (MapAt p e ps) = []
format_of (AttributeAt p e ps n) = []
format_of (PairAt p e k v) = []

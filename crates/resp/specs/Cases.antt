-- The case of a reply, and how the first bytes of its wire form tell it.
use Rattle.std.specs.Prelude.{◌≡◌, ℕ, Bool, true, false, cond, ◌&&◌, List, [], ◌∷◌, Some, None, Option, ◌==◌}
use Rattle.resp.specs.declared.kind.Kind.{Kind}
use Rattle.resp.specs.declared.kind.Kind.TheVariants as kind
use Rattle.resp.specs.declared.case.Case.{Case}
use Rattle.resp.specs.declared.case.Case.TheVariants as case
use Rattle.resp.specs.Out.{ok}
use Rattle.resp.specs.Reply.{Leaf, Nil, Int, BulkString, SimpleString, Okay, Double, Boolean, VerbatimString, BigNumber, ServerError, Reply, One, Array, Set, Push, Map, Attribute}
use Rattle.resp.specs.Reading.{kind_of}
use Rattle.resp.specs.Node.{Node, erase}
use Rattle.resp.specs.Answer.{located}

abbrev pub case_of_leaf : Leaf → Case
case_of_leaf Nil = case.Nil
case_of_leaf (Int z) = case.Int
case_of_leaf (BulkString s) = case.BulkString
case_of_leaf (SimpleString c) = case.SimpleString
case_of_leaf Okay = case.Okay
case_of_leaf (Double c) = case.Double
case_of_leaf (Boolean v) = case.Boolean
case_of_leaf (VerbatimString f t) = case.VerbatimString
case_of_leaf (BigNumber c) = case.BigNumber
case_of_leaf (ServerError c) = case.ServerError

abbrev pub case_of : Reply → Case
case_of (One l) = case_of_leaf l
case_of (Array rs) = case.Array
case_of (Set rs) = case.Set
case_of (Push rs) = case.Push
case_of (Map ps) = case.Map
case_of (Attribute ps r) = case.Attribute

-- whether the bytes begin with these
abbrev pub begins : List ℕ → List ℕ → Bool
begins [] bs = true
begins (x ∷ xs) [] = false
begins (x ∷ xs) (b ∷ bs) = b == x && begins xs bs

-- by its kind and the line after the first byte: `+OK` is Okay, and -1 for a bulk string's length or an array's count is Nil
abbrev pub case_by : Option Kind → List ℕ → Option Case
case_by None bs = None
case_by (Some kind.SimpleString) bs = Some (cond (begins (79 ∷ 75 ∷ 13 ∷ 10 ∷ []) bs) case.Okay case.SimpleString)
case_by (Some kind.BulkString) bs = Some (cond (begins (45 ∷ []) bs) case.Nil case.BulkString)
case_by (Some kind.Array) bs = Some (cond (begins (45 ∷ []) bs) case.Nil case.Array)
case_by (Some kind.SimpleError) bs = Some case.ServerError
case_by (Some kind.Integer) bs = Some case.Int
case_by (Some kind.Null) bs = Some case.Nil
case_by (Some kind.Boolean) bs = Some case.Boolean
case_by (Some kind.Double) bs = Some case.Double
case_by (Some kind.BigNumber) bs = Some case.BigNumber
case_by (Some kind.BulkError) bs = Some case.ServerError
case_by (Some kind.VerbatimString) bs = Some case.VerbatimString
case_by (Some kind.Map) bs = Some case.Map
case_by (Some kind.Attribute) bs = Some case.Attribute
case_by (Some kind.Set) bs = Some case.Set
case_by (Some kind.Push) bs = Some case.Push

abbrev pub case_in : List ℕ → Option Case
case_in [] = None
case_in (b ∷ bs) = case_by (kind_of b) bs

-- of a whole reply it is the case of its tree
abbrev pub Cased : List ℕ → Option Case → Type 0
Cased bs r = (t : Node) (rest : List ℕ) → located bs ≡ ok t rest → r ≡ Some (case_of (erase t))

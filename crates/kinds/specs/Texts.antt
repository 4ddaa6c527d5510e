-- What a reply says, as kinds see it: its case, and what its text is.
use Rattle.std.specs.Prelude.{ℕ, true, false, List, [], ◌∷◌}
use Rattle.resp.specs.declared.case.Case.{Case}
use Rattle.resp.specs.Cases.{case_of}
use Rattle.resp.specs.Reply.{Leaf, Nil, Int, BulkString, SimpleString, Okay, Double, Boolean, VerbatimString, BigNumber, ServerError}
use Rattle.resp.specs.Node.{Node, OneAt, ArrayAt, SetAt, PushAt, MapAt, AttributeAt, PairAt, erase}

abbrev pub case_at : Node → Case
case_at n = case_of (erase n)

-- the text of a leaf other than an integer; the letter of a boolean
abbrev pub leaf_text : Leaf → List ℕ
leaf_text Nil = []
leaf_text (Int z) = []
leaf_text (BulkString s) = s
leaf_text (SimpleString c) = c
leaf_text Okay = 79 ∷ 75 ∷ []
leaf_text (Double c) = c
leaf_text (Boolean true) = 116 ∷ []
leaf_text (Boolean false) = 102 ∷ []
leaf_text (VerbatimString f t) = t
leaf_text (BigNumber c) = c
leaf_text (ServerError c) = c

abbrev pub text_in : Node → List ℕ
text_in (OneAt p e l) = leaf_text l
text_in (ArrayAt p e ns) = []
text_in (SetAt p e ns) = []
text_in (PushAt p e ns) = []
text_in (MapAt p e ps) = []
text_in (AttributeAt p e ps n) = []
text_in (PairAt p e k v) = []

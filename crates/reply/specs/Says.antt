-- What the text of a reply says.
use Rattle.std.specs.Prelude.{◌≡◌, ℕ, Bool, true, false, List, [], ◌∷◌, Some}
use Rattle.numerals.specs.Integer.{integer}
use Rattle.resp.specs.Reply.{Leaf, Nil, Int, BulkString, SimpleString, Okay, Double, Boolean, VerbatimString, BigNumber, ServerError}
use Rattle.resp.specs.Node.{Node, OneAt, ArrayAt, SetAt, PushAt, MapAt, AttributeAt, PairAt}

-- the letter of a boolean
abbrev pub letter : Bool → ℕ
letter true = 116
letter false = 102

-- the bytes are the leaf's text
abbrev pub SaysLeaf : Leaf → List ℕ → Type 0
SaysLeaf Nil x = x ≡ []
SaysLeaf (Int z) x = integer x ≡ Some z
SaysLeaf (BulkString s) x = x ≡ s
SaysLeaf (SimpleString c) x = x ≡ c
SaysLeaf Okay x = x ≡ 79 ∷ 75 ∷ []
SaysLeaf (Double c) x = x ≡ c
SaysLeaf (Boolean v) x = x ≡ letter v ∷ []
SaysLeaf (VerbatimString f t) x = x ≡ t
SaysLeaf (BigNumber c) x = x ≡ c
SaysLeaf (ServerError c) x = x ≡ c

-- the bytes are the reply's text; a collection has none
abbrev pub Says : Node → List ℕ → Type 0
Says (OneAt p e l) x = SaysLeaf l x
Says (ArrayAt p e ns) x = x ≡ []
Says (SetAt p e ns) x = x ≡ []
Says (PushAt p e ns) x = x ≡ []
Says (MapAt p e ps) x = x ≡ []
Says (AttributeAt p e ps n) x = x ≡ []
Says (PairAt p e k v) x = x ≡ []

-- Replies: the trees that the wire carries.
use Rattle.std.specs.Prelude.{ℕ, Bool, true, false, List, [], ◌∷◌, ℤ}

-- A reply that holds no other. A double and a big number are kept as their lines, a verbatim string as its format and its text.
pub data Leaf : Type 0 where
  Nil : Leaf
  Int : ℤ → Leaf
  BulkString : List ℕ → Leaf
  SimpleString : List ℕ → Leaf
  Okay : Leaf
  Double : List ℕ → Leaf
  Boolean : Bool → Leaf
  VerbatimString : List ℕ → List ℕ → Leaf
  BigNumber : List ℕ → Leaf
  ServerError : List ℕ → Leaf

-- A reply: a leaf, or a collection of replies.
mutual
  pub data Reply : Type 0 where
    One : Leaf → Reply
    Array : Replies → Reply
    Set : Replies → Reply
    Push : Replies → Reply
    Map : Pairs → Reply
    Attribute : Pairs → Reply → Reply

  pub data Replies : Type 0 where
    no_more : Replies
    then : Reply → Replies → Replies

  pub data Pairs : Type 0 where
    no_pair : Pairs
    pair_then : Reply → Reply → Pairs → Pairs

-- a list of replies, and of pairs of them, as a collection holds it
abbrev pub replies : List Reply → Replies
replies [] = no_more
replies (r ∷ rs) = then r (replies rs)

abbrev pub pairs : List (Reply × Reply) → Pairs
pairs [] = no_pair
pairs (p ∷ ps) = pair_then p.0 p.1 (pairs ps)

-- a simple or bulk string, as a push names its kind by; `+OK` is a simple string here
abbrev pub is_string : Leaf → Bool
is_string Nil = false
is_string (Int z) = false
is_string (BulkString s) = true
is_string (SimpleString c) = true
is_string Okay = true
is_string (Double c) = false
is_string (Boolean v) = false
is_string (VerbatimString f t) = false
is_string (BigNumber c) = false
is_string (ServerError c) = false

abbrev pub is_string_reply : Reply → Bool
is_string_reply (One l) = is_string l
is_string_reply (Array rs) = false
is_string_reply (Set rs) = false
is_string_reply (Push rs) = false
is_string_reply (Map ps) = false
is_string_reply (Attribute ps r) = false

-- What the rows of lists, sets and maps are.
use Rattle.std.specs.Prelude.{◌≡◌, ℕ, suc, ◌≤◌, Bool, true, false, ◌⊎◌, List, [], ◌∷◌, ◌++◌, length, Some, None, Ok, Option, Result}
use Rattle.resp.specs.declared.case.Case.TheVariants as case
use Rattle.resp.specs.Node.{Node}
use Rattle.reply.specs.declared.spot.Spot.{Spot}
use Rattle.reply.specs.Parts.{parts_of, spot_of}
use Rattle.kinds.specs.declared.fault.Fault.{Fault}
use Rattle.kinds.specs.Rows.{cuts, first_node, many_by, mapped}
use Rattle.kinds.specs.Same.{Equality}
use Rattle.kinds.specs.Texts.{case_at, text_in}
use Rattle.collections.specs.Maps.{entries, entry_one, merged}
use Rattle.collections.specs.Sets.{firsts}
use Rattle.collections.specs.Steps.{nth}

-- x is one of some
abbrev pub OneOf : {A : Type 0} → A → List A → Type 0
OneOf x [] = ⊥
OneOf x (y ∷ ys) = (x ≡ y) ⊎ OneOf x ys

-- some of a list, in its order
pub data InOrder {A : Type 0} : List A → List A → Type 0 where
  none : InOrder [] []
  taken : {x : A} {xs ys : List A} → InOrder xs ys → InOrder (x ∷ xs) (x ∷ ys)
  passed : {y : A} {xs ys : List A} → InOrder xs ys → InOrder xs (y ∷ ys)

-- n is one of ns, and like none before it
pub record First (alike : Node → Node → Bool) (n : Node) (ns : List Node) : Type 0 where
  pub before : List Node
  pub after : List Node
  pub stands : ns ≡ before ++ (n ∷ after)
  pub new : (m : Node) → OneOf m before → alike m n ≡ false

-- the first of each class of ns are kept, in their order: no two of them are alike, and none is missing
pub record DistinctFirsts (alike : Node → Node → Bool) (ns kept : List Node) : Type 0 where
  pub order : InOrder kept ns
  pub apart : (i j : ℕ) (n m : Node) → nth i kept ≡ Some n → nth j kept ≡ Some m → alike n m ≡ true → i ≡ j
  pub initial : (n : Node) → OneOf n kept → First alike n ns
  pub all : (n : Node) → OneOf n ns → (m : Node) × (OneOf m kept × (alike m n ≡ true))

-- v is the value of the last entry whose key is like k
pub record Last (alike : Node → Node → Bool) (k v : Node) (es : List (Node × Node)) : Type 0 where
  pub key : Node
  pub before : List (Node × Node)
  pub after : List (Node × Node)
  pub stands : es ≡ before ++ ((key, v) ∷ after)
  pub like : alike k key ≡ true
  pub last : (j w : Node) → OneOf (j, w) after → alike k j ≡ false

-- the key of an entry
abbrev pub key_in : Node × Node → Node
key_in e = e.0

-- the first of each class of keys is kept, with the last value of that class
pub record LastValues (alike : Node → Node → Bool) (es kept : List (Node × Node)) : Type 0 where
  pub keys : DistinctFirsts alike (mapped key_in es) (mapped key_in kept)
  pub values : (k v : Node) → OneOf (k, v) kept → Last alike k v es

-- lists one after another, as one
abbrev pub joined_up : {A : Type 0} → List (List A) → List A
joined_up [] = []
joined_up (c ∷ cs) = c ++ joined_up cs

-- each has suc m, but the last, which has from one to suc m
abbrev pub Sized : {A : Type 0} → ℕ → List (List A) → Type 0
Sized m [] = Unit {0}
Sized m (c ∷ []) = (1 ≤ length c) × (length c ≤ suc m)
Sized m (c ∷ d ∷ cs) = (length c ≡ suc m) × Sized m (d ∷ cs)

-- a list cut into parts of suc m
pub record CutUp {A : Type 0} (m : ℕ) (ns : List A) (cs : List (List A)) : Type 0 where
  pub joined : joined_up cs ≡ ns
  pub sized : Sized m cs

-- The rows of a set: every member is read, and the rows are the values of the first of each class.
pub record SetRows {V : Type 0} (one : Node → Result V Fault) (alike : Node → Node → Bool) (members : List Node) (rows : List V) : Type 0 where
  pub kept : List Node
  pub distinct : DistinctFirsts alike members kept
  pub read : (n : Node) → OneOf n members → (v : V) × (one n ≡ Ok v)
  pub values : many_by one kept ≡ Ok rows

-- The rows of a map: every entry is read, and the rows are the first key of each class with its last value.
pub record MapRows {A B : Type 0} (key : Node → Result A Fault) (value : Node → Result B Fault) (alike : Node → Node → Bool) (es : List (Node × Node)) (rows : List (A × B))
    : Type 0 where
  pub kept : List (Node × Node)
  pub distinct : LastValues alike es kept
  pub read : (e : Node × Node) → OneOf e es → (x : A × B) × (entry_one key value e ≡ Ok x)
  pub values : many_by (entry_one key value) kept ≡ Ok rows

-- The rows of a list: of a nil none; of a byte string its bytes, or itself as one; of a map its pairs; of an array or a set each item
-- by itself, or each cut of them.
pub data ListRows {V : Type 0} (one : Node → Result V Fault) (flat : List Node → Bool) (more : ℕ) (joined : Spot → List Node → Result V Fault) (bytewise : Option (ℕ → V)) (n : Node) (rows : List V)
    : Type 0 where
  of_nil : case_at n ≡ case.Nil → rows ≡ [] → ListRows one flat more joined bytewise n rows
  of_bytes : (f : ℕ → V) → case_at n ≡ case.BulkString → bytewise ≡ Some f → rows ≡ mapped f (text_in n) → ListRows one flat more joined bytewise n rows
  of_one : case_at n ≡ case.BulkString → bytewise ≡ None → many_by one (n ∷ []) ≡ Ok rows → ListRows one flat more joined bytewise n rows
  of_pairs : case_at n ≡ case.Map → many_by one (parts_of n) ≡ Ok rows → ListRows one flat more joined bytewise n rows
  of_each : (case_at n ≡ case.Array) ⊎ (case_at n ≡ case.Set) → flat (parts_of n) ≡ false → many_by one (parts_of n) ≡ Ok rows → ListRows one flat more joined bytewise n rows
  of_cuts : (case_at n ≡ case.Array) ⊎ (case_at n ≡ case.Set) → flat (parts_of n) ≡ true → (cs : List (List Node)) → CutUp more (parts_of n) cs → many_by (joined (spot_of (first_node (parts_of n)))) cs ≡ Ok rows
      → ListRows one flat more joined bytewise n rows

-- what a set keeps are the first of each class, whichever the equality is
abbrev pub SetsAreDistinct : Type 0
SetsAreDistinct = (alike : Node → Node → Bool) → Equality alike → (ns : List Node) → DistinctFirsts alike ns (firsts alike ns)

-- what a map keeps are the first keys of each class with the last values
abbrev pub MapsAreDistinct : Type 0
MapsAreDistinct = (alike : Node → Node → Bool) → Equality alike → (ns : List Node) → LastValues alike (entries ns) (merged alike ns)

-- the cuts are the list, in parts of one size
abbrev pub CutsAreWhole : Type 0
CutsAreWhole = (m : ℕ) (ns : List Node) → CutUp m ns (cuts m ns)

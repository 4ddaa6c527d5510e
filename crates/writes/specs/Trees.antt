-- Located trees by the reply that they are.
use Rattle.std.specs.Prelude.{◌≡◌, ℕ, List, [], ◌∷◌, refl}
use Rattle.std.proofs.Common.{sym, ap, ◌∙◌, subst}
use Rattle.resp.specs.declared.case.Case.TheVariants as case
use Rattle.resp.specs.Reply.{Leaf, Reply, One, Array, Set, Map, replies, pairs}
use Rattle.resp.specs.Node.{Node, OneAt, ArrayAt, SetAt, PushAt, MapAt, AttributeAt, PairAt, Nodes, no_node, node_then, NodePairs, no_nodes, nodes_then, erase, erase_all, erase_pairs}
use Rattle.reply.specs.Parts.{flat_of, flattened, inner_of, listed, paired, parts_of, pair_node, unwrapped}
use Rattle.reply.specs.Inside.{Among, first, later, Inside, itself, below}
use Rattle.kinds.specs.Rows.{mapped}
use Rattle.kinds.specs.Texts.{case_at}
use Rattle.writes.specs.Writing.{All}

-- a tree of a leaf
pub record IsLeaf (n : Node) (l : Leaf) : Type 0 where
  pub from : ℕ
  pub to : ℕ
  pub is : n ≡ OneAt from to l

pub leaf_of_lem : (n : Node) (l : Leaf) → erase n ≡ One l → IsLeaf n l
leaf_of_lem (OneAt p e k) l h = let same : k ≡ l = cc in record { from = p; to = e; is = ap (OneAt p e) same }
leaf_of_lem (ArrayAt p e ns) l h = absurd cc
leaf_of_lem (SetAt p e ns) l h = absurd cc
leaf_of_lem (PushAt p e ns) l h = absurd cc
leaf_of_lem (MapAt p e ps) l h = absurd cc
leaf_of_lem (AttributeAt p e ps d) l h = absurd cc
leaf_of_lem (PairAt p e k v) l h = absurd cc

all_listed : (ns : Nodes) (rs : List Reply) → erase_all ns ≡ replies rs → mapped erase (listed ns) ≡ rs
all_listed no_node [] e = refl
all_listed no_node (r ∷ rs) e = absurd cc
all_listed (node_then n ns) [] e = absurd cc
all_listed (node_then n ns) (r ∷ rs) e =
    let p : erase n ≡ r = cc in
    let q : erase_all ns ≡ replies rs = cc in
    ap (λ x. x ∷ mapped erase (listed ns)) p ∙ ap (λ xs. r ∷ xs) (all_listed ns rs q)

-- a tree of a collection of some replies
pub record Holds (n : Node) (rs : List Reply) : Type 0 where
  pub bare : unwrapped n ≡ n
  pub items : mapped erase (flat_of n) ≡ rs
  pub parts : parts_of n ≡ flat_of n
  pub inner : All (λ m. Inside m n) (flat_of n)

all_of : (P : Node → Type 0) (ms : List Node) → ((m : Node) → Among m ms → P m) → All P ms
all_of P [] f = tt
all_of P (m ∷ ms) f = (f m first, all_of P ms (λ x a. f x (later a)))

listed_inside : (n : Node) (ns : List Node) → inner_of n ≡ ns → All (λ m. Inside m n) ns
listed_inside n ns e = all_of (λ m. Inside m n) ns (λ m a. below (subst (Among m) (sym e) a) itself)

pub array_of : (n : Node) (rs : List Reply) → erase n ≡ Array (replies rs) → (case_at n ≡ case.Array) × Holds n rs
array_of (OneAt p e l) rs h = absurd cc
array_of (ArrayAt p e ns) rs h = (refl, record { bare = refl; items = all_listed ns rs (let same : erase_all ns ≡ replies rs = cc in same); parts = refl; inner = listed_inside (ArrayAt p e ns) (listed ns) refl })
array_of (SetAt p e ns) rs h = absurd cc
array_of (PushAt p e ns) rs h = absurd cc
array_of (MapAt p e ps) rs h = absurd cc
array_of (AttributeAt p e ps d) rs h = absurd cc
array_of (PairAt p e k v) rs h = absurd cc

pub set_of_lem : (n : Node) (rs : List Reply) → erase n ≡ Set (replies rs) → (case_at n ≡ case.Set) × Holds n rs
set_of_lem (OneAt p e l) rs h = absurd cc
set_of_lem (ArrayAt p e ns) rs h = absurd cc
set_of_lem (SetAt p e ns) rs h = (refl, record { bare = refl; items = all_listed ns rs (let same : erase_all ns ≡ replies rs = cc in same); parts = refl; inner = listed_inside (SetAt p e ns) (listed ns) refl })
set_of_lem (PushAt p e ns) rs h = absurd cc
set_of_lem (MapAt p e ps) rs h = absurd cc
set_of_lem (AttributeAt p e ps d) rs h = absurd cc
set_of_lem (PairAt p e k v) rs h = absurd cc

-- keys and values, one after another
abbrev pub alternated : List (Reply × Reply) → List Reply
alternated [] = []
alternated (p ∷ ps) = p.0 ∷ p.1 ∷ alternated ps

all_paired : (ps : NodePairs) (rs : List (Reply × Reply)) → erase_pairs ps ≡ pairs rs → mapped erase (flattened ps) ≡ alternated rs
all_paired no_nodes [] e = refl
all_paired no_nodes (r ∷ rs) e = absurd cc
all_paired (nodes_then k v ps) [] e = absurd cc
all_paired (nodes_then k v ps) (r ∷ rs) e =
    let p : erase k ≡ r.0 = cc in
    let q : erase v ≡ r.1 = cc in
    let s : erase_pairs ps ≡ pairs rs = cc in
    ap (λ x. x ∷ erase v ∷ mapped erase (flattened ps)) p ∙ ap (λ x. r.0 ∷ x ∷ mapped erase (flattened ps)) q ∙ ap (λ xs. r.0 ∷ r.1 ∷ xs) (all_paired ps rs s)

all_flat : (P : Node → Type 0) (ps : NodePairs) → ((q m : Node) → Among q (paired ps) → Inside m q → P m) → All P (flattened ps)
all_flat P no_nodes f = tt
all_flat P (nodes_then k v ps) f =
    (f (pair_node (k, v)) k first (below first itself), (f (pair_node (k, v)) v first (below (later first) itself), all_flat P ps (λ q m a i. f q m (later a) i)))

-- a tree of a map: many pairs, or one taken by itself
pub record Maps (n : Node) (rs : List (Reply × Reply)) : Type 0 where
  pub bare : unwrapped n ≡ n
  pub items : mapped erase (flat_of n) ≡ alternated rs
  pub inner : All (λ m. Inside m n) (flat_of n)

pub map_of_lem : (n : Node) (rs : List (Reply × Reply)) → erase n ≡ Map (pairs rs) → (case_at n ≡ case.Map) × Maps n rs
map_of_lem (OneAt p e l) rs h = absurd cc
map_of_lem (ArrayAt p e ns) rs h = absurd cc
map_of_lem (SetAt p e ns) rs h = absurd cc
map_of_lem (PushAt p e ns) rs h = absurd cc
map_of_lem (MapAt p e ps) rs h =
    (refl, record { bare = refl; items = all_paired ps rs (let same : erase_pairs ps ≡ pairs rs = cc in same); inner = all_flat (λ m. Inside m (MapAt p e ps)) ps (λ q m a i. below a i) })
map_of_lem (AttributeAt p e ps d) rs h = absurd cc
map_of_lem (PairAt p e k v) [] h = absurd cc
map_of_lem (PairAt p e k v) (r ∷ s ∷ rs) h = absurd cc
map_of_lem (PairAt p e k v) (r ∷ []) h =
    let a : erase k ≡ r.0 = cc in
    let b : erase v ≡ r.1 = cc in
    (refl, record { bare = refl; items = ap (λ x. x ∷ erase v ∷ []) a ∙ ap (λ x. r.0 ∷ x ∷ []) b; inner = (below first itself, (below (later first) itself, tt)) })

-- a part of a part
pub inside_trans : (m n t : Node) → Inside m n → Inside n t → Inside m t
inside_trans m _ _ i (itself {n = n}) = i
inside_trans m _ _ i (below {part = n} {m = k} {n = t} a j) = below a (inside_trans m n k i j)

pub all_inside : (n t : Node) (ms : List Node) → Inside n t → All (λ m. Inside m n) ms → All (λ m. Inside m t) ms
all_inside n t [] i a = tt
all_inside n t (m ∷ ms) i a = (inside_trans m n t a.0 i, all_inside n t ms i a.1)

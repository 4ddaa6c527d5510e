-- The notes of a reply: itself, then what it holds, in the order of the wire.
use Rattle.std.specs.Prelude.{◌≡◌, ℕ, zero, suc, ◌+◌, ◌-◌, ◌*◌, ◌≤◌, List, [], ◌∷◌, ◌++◌, length, drop, Ok, Err, Result}
use Rattle.resp.specs.Limits.{deepest}
use Rattle.resp.specs.Out.{Out, ok}
use Rattle.resp.specs.Node.{Node, OneAt, ArrayAt, SetAt, PushAt, MapAt, AttributeAt, PairAt, Nodes, no_node, node_then, NodePairs, no_nodes, nodes_then, reading, offset}
use Rattle.resp.specs.Cases.{case_of_leaf}
use Rattle.resp.specs.declared.case.Case.TheVariants as case
use Rattle.station.specs.declared.listing.Note.{Note}
use Rattle.station.specs.declared.listing.Stop.{Stop}
use Rattle.station.specs.declared.listing.Stop.TheVariants.{Memory}

abbrev pub count : Nodes → ℕ
count no_node = 0
count (node_then n ns) = suc (count ns)

abbrev pub count_pairs : NodePairs → ℕ
count_pairs no_nodes = 0
count_pairs (nodes_then k v ps) = suc (count_pairs ps)

-- at a level: what a reply holds is a level below it, a key before its value; an attribute's data comes after its pairs
abbrev mutual
  pub noted : ℕ → Node → List Note
  noted d (OneAt p e l) = record { at = p; end = e; level = d; items = 0; case = case_of_leaf l } ∷ []
  noted d (ArrayAt p e ns) = record { at = p; end = e; level = d; items = count ns; case = case.Array } ∷ noted_each (suc d) ns
  noted d (SetAt p e ns) = record { at = p; end = e; level = d; items = count ns; case = case.Set } ∷ noted_each (suc d) ns
  noted d (PushAt p e ns) = record { at = p; end = e; level = d; items = count ns; case = case.Push } ∷ noted_each (suc d) ns
  noted d (MapAt p e ps) = record { at = p; end = e; level = d; items = 2 * count_pairs ps; case = case.Map } ∷ noted_pairs (suc d) ps
  noted d (AttributeAt p e ps n) = record { at = p; end = e; level = d; items = 2 * count_pairs ps + 1; case = case.Attribute } ∷ (noted_pairs (suc d) ps ++ noted (suc d) n)
  noted d (PairAt p e k v) = record { at = p; end = e; level = d; items = 2; case = case.Map } ∷ (noted (suc d) k ++ noted (suc d) v)

  pub noted_each : ℕ → Nodes → List Note
  noted_each d no_node = []
  noted_each d (node_then n ns) = noted d n ++ noted_each d ns

  pub noted_pairs : ℕ → NodePairs → List Note
  noted_pairs d no_nodes = []
  noted_pairs d (nodes_then k v ps) = noted d k ++ (noted d v ++ noted_pairs d ps)

-- the tree at a place, of a reply at a level; shut, since it computes through all levels
unfoldable pub tree_at : List ℕ → ℕ → ℕ → Out Node
tree_at bs p level = reading (offset (length bs)) (deepest - level) (drop p bs)

-- what is answered where the tree t is read, and `rest` is left: all of it is noted after the old notes, and the answer is where
-- it ends; or there was no memory
abbrev pub Noted : List ℕ → ℕ → Node → List ℕ → List Note → List Note → Result ℕ Stop → Type 0
Noted bs level t rest old new (Ok end) = (end ≤ length bs) × (rest ≡ drop end bs) × (new ≡ old ++ noted level t)
Noted bs level t rest old new (Err why) = why ≡ Memory

-- the notes of the whole reply at a place that has n bytes
pub record Listed (bs : List ℕ) (p n : ℕ) (notes : List Note) : Type 0 where
  pub tree : Node
  pub reads : tree_at bs p 0 ≡ ok tree (drop (p + n) bs)
  pub all : notes ≡ noted 0 tree

-- an entry's end is set
abbrev pub end_at : ℕ → ℕ → List Note → List Note
end_at i e [] = []
end_at zero e (n ∷ ns) = record n { end = e } ∷ ns
end_at (suc i) e (n ∷ ns) = n ∷ end_at i e ns

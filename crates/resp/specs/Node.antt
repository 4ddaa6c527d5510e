-- Located trees: a reply with the places of its first byte and of the first byte after it, and so each of its parts.
use Rattle.std.specs.Prelude.{ℕ, zero, suc, ◌-◌, Bool, false, List, [], ◌∷◌, length}
use Rattle.resp.specs.declared.fault.WireReason.TheVariants.{NotWhole, Limit}
use Rattle.resp.specs.Out.{Out, ok, fault}
use Rattle.resp.specs.Reply.{Leaf, Reply, One, Array, Set, Push, Map, Attribute, Replies, no_more, then, Pairs, no_pair, pair_then, is_string}
use Rattle.resp.specs.Reading.{Form, leaf, array, set, push, map, attribute, form}

-- The last is no reply of the wire: one pair of a map, taken by itself, which counts as a map of that pair alone.
mutual
  pub data Node : Type 0 where
    OneAt : ℕ → ℕ → Leaf → Node
    ArrayAt : ℕ → ℕ → Nodes → Node
    SetAt : ℕ → ℕ → Nodes → Node
    PushAt : ℕ → ℕ → Nodes → Node
    MapAt : ℕ → ℕ → NodePairs → Node
    AttributeAt : ℕ → ℕ → NodePairs → Node → Node
    PairAt : ℕ → ℕ → Node → Node → Node

  pub data Nodes : Type 0 where
    no_node : Nodes
    node_then : Node → Nodes → Nodes

  pub data NodePairs : Type 0 where
    no_nodes : NodePairs
    nodes_then : Node → Node → NodePairs → NodePairs

abbrev pub nodes : List Node → Nodes
nodes [] = no_node
nodes (n ∷ ns) = node_then n (nodes ns)

abbrev pub node_pairs : List (Node × Node) → NodePairs
node_pairs [] = no_nodes
node_pairs (p ∷ ps) = nodes_then p.0 p.1 (node_pairs ps)

-- the reply alone
abbrev mutual
  pub erase : Node → Reply
  erase (OneAt p e l) = One l
  erase (ArrayAt p e ns) = Array (erase_all ns)
  erase (SetAt p e ns) = Set (erase_all ns)
  erase (PushAt p e ns) = Push (erase_all ns)
  erase (MapAt p e ps) = Map (erase_pairs ps)
  erase (AttributeAt p e ps n) = Attribute (erase_pairs ps) (erase n)
  erase (PairAt p e k v) = Map (pair_then (erase k) (erase v) no_pair)

  pub erase_all : Nodes → Replies
  erase_all no_node = no_more
  erase_all (node_then n ns) = then (erase n) (erase_all ns)

  pub erase_pairs : NodePairs → Pairs
  erase_pairs no_nodes = no_pair
  erase_pairs (nodes_then k v ps) = pair_then (erase k) (erase v) (erase_pairs ps)

abbrev pub is_string_node : Node → Bool
is_string_node (OneAt p e l) = is_string l
is_string_node (ArrayAt p e ns) = false
is_string_node (SetAt p e ns) = false
is_string_node (PushAt p e ns) = false
is_string_node (MapAt p e ps) = false
is_string_node (AttributeAt p e ps n) = false
is_string_node (PairAt p e k v) = false

-- one level that begins at p and ends before e
abbrev pub knit : ℕ → ℕ → Form Node → Node
knit p e (leaf l) = OneAt p e l
knit p e (array ns) = ArrayAt p e (nodes ns)
knit p e (set ns) = SetAt p e (nodes ns)
knit p e (push ns) = PushAt p e (nodes ns)
knit p e (map ps) = MapAt p e (node_pairs ps)
knit p e (attribute ps n) = AttributeAt p e (node_pairs ps) n

-- what was read, with where its bytes end
abbrev pub ended : {A B : Type 0} → (A → List ℕ → B) → Out A → Out B
ended g (ok a rest) = ok (g a rest) rest
ended g (fault k at) = fault k at

-- The reading of a reply of at most d levels. `at` tells the place of the bytes from there on.
abbrev pub reading : (List ℕ → ℕ) → ℕ → List ℕ → Out Node
reading at zero [] = fault NotWhole []
reading at zero (b ∷ bs) = fault Limit (b ∷ bs)
reading at (suc d) bs = ended (λ f rest. knit (at bs) (at rest) f) (form (reading at d) is_string_node bs)

-- how far the bytes l are from the start of n bytes
abbrev pub offset : ℕ → List ℕ → ℕ
offset n l = n - length l

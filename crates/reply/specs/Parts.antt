-- The parts of located trees.
use Rattle.std.specs.Prelude.{ℕ, Bool, true, false, List, [], ◌∷◌, ◌++◌}
use Rattle.resp.specs.Node.{Node, OneAt, ArrayAt, SetAt, PushAt, MapAt, AttributeAt, PairAt, Nodes, no_node, node_then, NodePairs, no_nodes, nodes_then}
use Rattle.reply.specs.declared.spot.Spot.{Spot}

-- the place of its first byte, and of the first byte after it
abbrev pub start_of : Node → ℕ
start_of (OneAt p e l) = p
start_of (ArrayAt p e ns) = p
start_of (SetAt p e ns) = p
start_of (PushAt p e ns) = p
start_of (MapAt p e ps) = p
start_of (AttributeAt p e ps n) = p
start_of (PairAt p e k v) = p

abbrev pub end_of : Node → ℕ
end_of (OneAt p e l) = e
end_of (ArrayAt p e ns) = e
end_of (SetAt p e ns) = e
end_of (PushAt p e ns) = e
end_of (MapAt p e ps) = e
end_of (AttributeAt p e ps n) = e
end_of (PairAt p e k v) = e

abbrev pub is_pair : Node → Bool
is_pair (OneAt p e l) = false
is_pair (ArrayAt p e ns) = false
is_pair (SetAt p e ns) = false
is_pair (PushAt p e ns) = false
is_pair (MapAt p e ps) = false
is_pair (AttributeAt p e ps n) = false
is_pair (PairAt p e k v) = true

abbrev pub spot_of : Node → Spot
spot_of n = record { at = start_of n; pair = is_pair n }

-- a pair of a map, taken by itself
abbrev pub pair_node : Node × Node → Node
pair_node p = PairAt (start_of p.0) (end_of p.1) p.0 p.1

abbrev pub listed : Nodes → List Node
listed no_node = []
listed (node_then n ns) = n ∷ listed ns

abbrev pub paired : NodePairs → List Node
paired no_nodes = []
paired (nodes_then k v ps) = pair_node (k, v) ∷ paired ps

-- the items of an array, a set or a push; the pairs of a map or an attribute; of a pair itself alone
abbrev pub parts_of : Node → List Node
parts_of (OneAt p e l) = []
parts_of (ArrayAt p e ns) = listed ns
parts_of (SetAt p e ns) = listed ns
parts_of (PushAt p e ns) = listed ns
parts_of (MapAt p e ps) = paired ps
parts_of (AttributeAt p e ps n) = paired ps
parts_of (PairAt p e k v) = PairAt p e k v ∷ []

-- keys and values one after another
abbrev pub flattened : NodePairs → List Node
flattened no_nodes = []
flattened (nodes_then k v ps) = k ∷ v ∷ flattened ps

-- the same with no pair taken by itself: keys and values one after another; of a pair its key and its value
abbrev pub flat_of : Node → List Node
flat_of (OneAt p e l) = []
flat_of (ArrayAt p e ns) = listed ns
flat_of (SetAt p e ns) = listed ns
flat_of (PushAt p e ns) = listed ns
flat_of (MapAt p e ps) = flattened ps
flat_of (AttributeAt p e ps n) = flattened ps
flat_of (PairAt p e k v) = k ∷ v ∷ []

-- all that stands right below: a map has pairs, an attribute keys and values, and then its data
abbrev pub inner_of : Node → List Node
inner_of (OneAt p e l) = []
inner_of (ArrayAt p e ns) = listed ns
inner_of (SetAt p e ns) = listed ns
inner_of (PushAt p e ns) = listed ns
inner_of (MapAt p e ps) = paired ps
inner_of (AttributeAt p e ps n) = flattened ps ++ (n ∷ [])
inner_of (PairAt p e k v) = k ∷ v ∷ []

-- one attribute replaced by its data
abbrev pub unwrapped : Node → Node
unwrapped (OneAt p e l) = OneAt p e l
unwrapped (ArrayAt p e ns) = ArrayAt p e ns
unwrapped (SetAt p e ns) = SetAt p e ns
unwrapped (PushAt p e ns) = PushAt p e ns
unwrapped (MapAt p e ps) = MapAt p e ps
unwrapped (AttributeAt p e ps n) = n
unwrapped (PairAt p e k v) = PairAt p e k v

abbrev pub is_attribute : Node → Bool
is_attribute (OneAt p e l) = false
is_attribute (ArrayAt p e ns) = false
is_attribute (SetAt p e ns) = false
is_attribute (PushAt p e ns) = false
is_attribute (MapAt p e ps) = false
is_attribute (AttributeAt p e ps n) = true
is_attribute (PairAt p e k v) = false

-- the key and the value of a pair
abbrev pub key_of : Node → Node
key_of (OneAt p e l) = OneAt p e l
key_of (ArrayAt p e ns) = ArrayAt p e ns
key_of (SetAt p e ns) = SetAt p e ns
key_of (PushAt p e ns) = PushAt p e ns
key_of (MapAt p e ps) = MapAt p e ps
key_of (AttributeAt p e ps n) = AttributeAt p e ps n
key_of (PairAt p e k v) = k

abbrev pub value_of : Node → Node
value_of (OneAt p e l) = OneAt p e l
value_of (ArrayAt p e ns) = ArrayAt p e ns
value_of (SetAt p e ns) = SetAt p e ns
value_of (PushAt p e ns) = PushAt p e ns
value_of (MapAt p e ps) = MapAt p e ps
value_of (AttributeAt p e ps n) = AttributeAt p e ps n
value_of (PairAt p e k v) = v

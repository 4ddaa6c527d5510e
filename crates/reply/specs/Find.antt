-- What begins at a place of a reply.
use Rattle.std.specs.Prelude.{◌≡◌, Bool, cond, not, ◌&&◌, List, [], ◌∷◌, Some, None, Option, ◌==◌}
use Rattle.resp.specs.Node.{Node, OneAt, ArrayAt, SetAt, PushAt, MapAt, AttributeAt, PairAt, Nodes, no_node, node_then, NodePairs, no_nodes, nodes_then}
use Rattle.reply.specs.declared.spot.Spot.{Spot}
use Rattle.reply.specs.declared.view.Reply.{Reply}
use Rattle.reply.specs.declared.view.Items.{Items}
use Rattle.reply.specs.Parts.{spot_of, pair_node}
use Rattle.reply.specs.Inside.{Among, Inside}
use Rattle.reply.specs.View.{node_of, nodes_of}

abbrev pub same_spot : Spot → Spot → Bool
same_spot a b = a.at == b.at && cond a.pair b.pair (not b.pair)

abbrev pub or_else : Option Node → Option Node → Option Node
or_else (Some n) o = Some n
or_else None o = o

-- the tree itself, if it begins there
abbrev pub hit : Spot → Node → Option Node
hit s n = cond (same_spot (spot_of n) s) (Some n) None

-- the first tree that begins there: itself, then its parts in their order; a map has pairs, an attribute has none
abbrev mutual
  pub find : Spot → Node → Option Node
  find s (OneAt p e l) = hit s (OneAt p e l)
  find s (ArrayAt p e ns) = or_else (hit s (ArrayAt p e ns)) (find_each s ns)
  find s (SetAt p e ns) = or_else (hit s (SetAt p e ns)) (find_each s ns)
  find s (PushAt p e ns) = or_else (hit s (PushAt p e ns)) (find_each s ns)
  find s (MapAt p e ps) = or_else (hit s (MapAt p e ps)) (find_pairs s ps)
  find s (AttributeAt p e ps n) = or_else (hit s (AttributeAt p e ps n)) (or_else (find_halves s ps) (find s n))
  find s (PairAt p e k v) = or_else (hit s (PairAt p e k v)) (or_else (find s k) (find s v))

  pub find_each : Spot → Nodes → Option Node
  find_each s no_node = None
  find_each s (node_then n ns) = or_else (find s n) (find_each s ns)

  pub find_pairs : Spot → NodePairs → Option Node
  find_pairs s no_nodes = None
  find_pairs s (nodes_then k v ps) = or_else (or_else (hit s (pair_node (k, v))) (or_else (find s k) (find s v))) (find_pairs s ps)

  pub find_halves : Spot → NodePairs → Option Node
  find_halves s no_nodes = None
  find_halves s (nodes_then k v ps) = or_else (find s k) (or_else (find s v) (find_halves s ps))

-- the first among some trees
abbrev pub find_among : Spot → List Node → Option Node
find_among s [] = None
find_among s (n ∷ ns) = or_else (find s n) (find_among s ns)

-- what an answer says
abbrev pub told : Option Reply → Option Node
told (Some r) = Some (node_of r)
told None = None

-- the reply is one of the row, and what begins at the place in the row begins there in that reply
pub record Narrows (s : Spot) (row : Items) (reply : Reply) : Type 0 where
  pub among : Among (node_of reply) (nodes_of row)
  pub holds : find_among s (nodes_of row) ≡ find s (node_of reply)
  pub bytes : reply.bytes ≡ row.bytes

-- n is a part of the tree, and begins there
pub record Begins (s : Spot) (tree n : Node) : Type 0 where
  pub part : Inside n tree
  pub spot : spot_of n ≡ s

-- no part of the tree begins there
abbrev pub NoneBegins : Spot → Node → Type 0
NoneBegins s tree = (n : Node) → Begins s tree n → ⊥

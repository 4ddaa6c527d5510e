-- What a view shows. These stay shut outside this crate: what holds of them is what the contracts say.
use Rattle.std.specs.Prelude.{List}
use Rattle.resp.specs.Reply.{Nil}
use Rattle.resp.specs.Node.{Node, OneAt}
use Rattle.reply.specs.Tree.{node_at, nodes_at}
use Rattle.reply.specs.declared.view.Reply.{Reply}
use Rattle.reply.specs.declared.view.Items.{Items}

-- the located tree of a view, and the trees of a row
unfoldable pub node_of : Reply → Node
node_of r = node_at r.bytes.now r.pair r.at

unfoldable pub nodes_of : Items → List Node
nodes_of i = nodes_at i.bytes.now i.pairs i.at i.left

-- a nil of three bytes
abbrev pub nil_node : Node
nil_node = OneAt 0 3 Nil

-- What begins at a place of a view.
use Rattle.std.specs.Prelude.{◌≡◌, Some}
use Rattle.resp.specs.Node.{Node}
use Rattle.reply.specs.declared.view.Reply.{Reply}
use Rattle.reply.specs.Parts.{is_pair, spot_of, start_of}
use Rattle.reply.specs.Tree.{node_at}
use Rattle.reply.specs.View.{node_of}
use Rattle.reply.specs.Inside.{Inside}
use Rattle.reply.specs.Find.{find}
use Rattle.reply.specs.Held.{Held}

-- each part of a view is what begins at its place of the bytes
abbrev pub PartsAreViews : Type 0
PartsAreViews = (r : Reply) (n : Node) → Inside n (node_of r) → n ≡ node_at r.bytes.now (is_pair n) (start_of n)

-- no two parts begin at one place
abbrev pub OnlyOne : Type 0
OnlyOne = (r : Reply) (n m : Node) → Inside n (node_of r) → Inside m (node_of r) → spot_of n ≡ spot_of m → n ≡ m

-- each part is found by its place
abbrev pub FindsEach : Type 0
FindsEach = (r : Reply) (n : Node) → Inside n (node_of r) → find (spot_of n) (node_of r) ≡ Some n

-- the tree of a view is held by its bytes
abbrev pub ViewsHold : Type 0
ViewsHold = (r : Reply) → Held r.bytes.now (node_of r)

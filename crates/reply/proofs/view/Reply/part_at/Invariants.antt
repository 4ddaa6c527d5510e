use Rattle.std.proofs.Common.{◌≡◌}
use Rattle.reply.specs.Find.{find}
use Rattle.reply.specs.View.{node_of}
use Rattle.reply.proofs.Finds.{size}
use Rattle.reply.proofs.view.Reply.part_at.Given as goal

abbrev pub invariant-loop-spot : goal.invariant-loop-spot
invariant-loop-spot l = (find l.spot (node_of l.self) ≡ find l.spot (node_of l.here)) × (l.here.bytes ≡ l.self.bytes)

abbrev pub decreases-loop-spot : goal.decreases-loop-spot
decreases-loop-spot l = size (node_of l.here)

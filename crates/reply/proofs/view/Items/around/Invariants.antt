use Rattle.reply.proofs.Arounds.{Searching}
use Rattle.reply.proofs.view.Items.around.Given as goal

abbrev pub invariant-loop-here : goal.invariant-loop-here
invariant-loop-here l = Searching l.spot l.self l.here

abbrev pub decreases-loop-here : goal.decreases-loop-here
decreases-loop-here l = l.here.left

use Rattle.std.proofs.Common.{◌≡◌, ◌≤◌}
use Rattle.reply.specs.View.{nodes_of}
use Rattle.collections.specs.Sets.{firsts_in}
use Rattle.collections.proofs.set_steps.next_first.Given as goal

abbrev pub invariant-loop-reply : goal.invariant-loop-reply
invariant-loop-reply g l =
    (firsts_in (g.K.Same.alike l.kind) (nodes_of l.initial.classes.all) (nodes_of l.initial.classes.rest) ≡ firsts_in (g.K.Same.alike l.kind) (nodes_of l.classes.all) (nodes_of l.classes.rest))
    × (l.classes.rest.left ≤ l.initial.classes.rest.left)
    × (l.classes.all ≡ l.initial.classes.all)

abbrev pub decreases-loop-reply : goal.decreases-loop-reply
decreases-loop-reply g l = l.classes.rest.left

use Rattle.std.proofs.Common.{◌≡◌, ◌≤◌}
use Rattle.reply.specs.View.{nodes_of}
use Rattle.collections.specs.Maps.{merged_in}
use Rattle.collections.proofs.map.MapOf.next_key.Given as goal

abbrev pub invariant-loop-entry : goal.invariant-loop-entry
invariant-loop-entry g l =
    let alike = g.K.Same.alike l.self.0 in
    (merged_in alike (nodes_of l.initial.classes.all) (nodes_of l.initial.classes.rest) ≡ merged_in alike (nodes_of l.classes.all) (nodes_of l.entries.rest))
    × (l.entries.rest.left ≤ l.initial.classes.rest.left)
    × (l.classes.rest ≡ l.entries.rest)
    × (l.classes.all ≡ l.initial.classes.all)

abbrev pub decreases-loop-entry : goal.decreases-loop-entry
decreases-loop-entry g l = l.entries.rest.left

use Rattle.std.proofs.Common.{◌≡◌}
use Rattle.collections.specs.Steps.{nth_in}
use Rattle.collections.proofs.TableSteps.{Finding}
use Rattle.collections.proofs.table.nth_left.Given as goal

abbrev pub invariant-loop-row : goal.invariant-loop-row
invariant-loop-row g l =
    Finding (g.C.Collection.left l.shape) (nth_in l.i (g.C.Collection.left l.shape l.cursor)) l.found l.skip l.row-iterator.cursor × (l.row-iterator.shape.now ≡ l.shape)

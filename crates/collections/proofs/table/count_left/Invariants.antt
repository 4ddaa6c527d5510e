use Rattle.std.proofs.Common.{◌≡◌}
use Rattle.kinds.specs.Rows.{counted}
use Rattle.collections.proofs.TableSteps.{Counting}
use Rattle.collections.proofs.table.count_left.Given as goal

abbrev pub invariant-loop-row : goal.invariant-loop-row
invariant-loop-row g l =
    Counting (g.C.Collection.left l.shape) (counted (g.C.Collection.left l.shape l.cursor)) l.count l.most l.row-iterator.cursor × (l.row-iterator.shape.now ≡ l.shape)

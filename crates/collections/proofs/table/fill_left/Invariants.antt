use Rattle.std.proofs.Common.{length}
use Rattle.collections.specs.Steps.{Room}
use Rattle.collections.proofs.TableSteps.{Laid}
use Rattle.collections.proofs.table.fill_left.Given as goal

abbrev pub invariant-loop-slot : goal.invariant-loop-slot
invariant-loop-slot g l =
    Room (g.C.Collection.left l.shape l.cursor) (length l.initial.table)
    → Laid (g.C.Collection.left l.shape l.cursor) (g.C.Collection.left l.shape l.rest) l.initial.table l.table l.slot-index

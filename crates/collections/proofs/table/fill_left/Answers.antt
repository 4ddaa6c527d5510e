use Rattle.std.proofs.Common.{arith}
use Rattle.collections.proofs.TableSteps.{laid_full}
use Rattle.collections.proofs.table.fill_left.Goals as goal

pub returns : goal.returns
returns g c room =
    let left = g.C.Collection.left c.args.shape.now in
    laid_full (left c.args.cursor) (left c.loop-slot.rest) c.args.table.now c.loop-slot.table c.loop-slot.slot-index (omega (arith, c.loop-slot.auto.table)) (c.loop-slot.invariant room)

use Rattle.std.proofs.Common.{◌≡◌, ◌-◌, ◌≤◌, true, false, length}
use Rattle.reply.specs.Tree.{wholly_row}
use Rattle.reply.proofs.Passes.{Passing}
use Rattle.reply.proofs.ends.replies_end.Given as goal

abbrev pub invariant-loop-left : goal.invariant-loop-left
invariant-loop-left l = l.«at» ≤ length l.bytes → wholly_row l.bytes false l.«at» l.replies ≡ true → Passing l.bytes l.«at» l.replies l.end l.left

abbrev pub decreases-loop-left : goal.decreases-loop-left
decreases-loop-left l = length l.bytes - l.end

use Rattle.std.proofs.Common.{◌≤◌}
use Rattle.resp.proofs.LineSteps.{Left}
use Rattle.resp.proofs.item.Item.line.Given as goal

abbrev pub invariant-loop-n : goal.invariant-loop-n
invariant-loop-n l = (l.n ≤ 1024) × Left l.self.bytes.now l.self.«at» l.n

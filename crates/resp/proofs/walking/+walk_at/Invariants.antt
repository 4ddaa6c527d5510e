use Rattle.resp.proofs.Walks.{Rest}
use Rattle.resp.proofs.walking.+walk_at.Given as goal

abbrev pub decreases-walk_at : goal.decreases-walk_at
decreases-walk_at l = l.depth_left

abbrev pub invariant-loop-item : goal.invariant-loop-item
invariant-loop-item l = Rest l.bytes l.«at» l.depth_left l.left l._item l.end

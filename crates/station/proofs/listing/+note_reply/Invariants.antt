use Rattle.std.proofs.Common.{◌≡◌, ◌-◌, List, ℕ, length}
use Rattle.resp.specs.Node.{Node}
use Rattle.resp.specs.Out.{ok}
use Rattle.station.specs.Listing.{tree_at}
use Rattle.station.proofs.Steps.{Going}
use Rattle.station.proofs.listing.+note_reply.Given as goal

abbrev pub decreases-note_reply : goal.decreases-note_reply
decreases-note_reply l = 32 - l.level

abbrev pub invariant-loop-item : goal.invariant-loop-item
invariant-loop-item l =
    (t : Node) (rest : List ℕ) → tree_at l.bytes l.«at» l.level ≡ ok t rest → (l.index ≡ length l.fn.notes.items) × Going l.bytes l.«at» l.level t rest l.fn.notes.items l.notes.items l.items l._item l.end

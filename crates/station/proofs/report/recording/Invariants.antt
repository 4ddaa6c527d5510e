use Rattle.std.proofs.Common.{◌-◌, length}
use Rattle.station.proofs.Walked.{Walked}
use Rattle.station.proofs.report.recording.Given as goal

abbrev pub invariant-loop-at : goal.invariant-loop-at
invariant-loop-at l = Walked l.bytes l.replies l.«at»

abbrev pub decreases-loop-at : goal.decreases-loop-at
decreases-loop-at l = length l.bytes - l.«at»

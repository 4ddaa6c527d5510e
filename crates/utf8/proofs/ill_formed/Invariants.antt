use Rattle.utf8.proofs.Turns.{ReadsAt}
use Rattle.utf8.proofs.ill_formed.Given as goal

abbrev pub invariant-loop-i : goal.invariant-loop-i
invariant-loop-i l = ReadsAt l.text l.state l.i

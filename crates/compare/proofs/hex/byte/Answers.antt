-- No value is written where one of the two characters is no digit.
use Rattle.compare.proofs.hex.byte.Goals as goal

pub returns-in_err-digit : goal.returns-in_err-digit
returns-in_err-digit c = rw c.from_residual.ensures (λ b s. c.in_err-digit.ensures s.0 s.2)

pub returns-in_err-digit-2 : goal.returns-in_err-digit-2
returns-in_err-digit-2 c = rw c.from_residual-in_err-digit-2.ensures (λ b s. c.in_err-digit-2.ensures s.1 s.3)

use Rattle.decimals.proofs.FloatSteps.{sign_off}
use Rattle.decimals.proofs.floats.is_below_zero.Goals as goal

pub returns : goal.returns
returns c = sign_off c.args.x

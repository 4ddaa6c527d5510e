use Rattle.std.proofs.Common.{arith}
use Rattle.decimals.proofs.Powers.{power_value}
use Rattle.decimals.proofs.tens.power_of_ten.Goals as goal

pub returns : goal.returns
returns c = power_value c.args.k (omega arith)

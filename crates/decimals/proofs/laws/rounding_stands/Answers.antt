use Rattle.decimals.proofs.Nearness.{rounds_once}
use Rattle.decimals.proofs.laws.rounding_stands.Goals as goal

pub returns : goal.returns
returns c = rounds_once

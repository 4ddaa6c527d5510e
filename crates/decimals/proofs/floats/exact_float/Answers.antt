use Rattle.std.proofs.Common.{◌≡◌, rules}
use Rattle.decimals.specs.Floats.{exact_float}
use Rattle.decimals.proofs.FloatValues.{exact_value}
use Rattle.decimals.proofs.floats.exact_float.Goals as goal

pub returns-clause-value : goal.returns-clause-value
returns-clause-value c =
    let same : c.then.result ≡ exact_float c.args.z = search rules in
    exact_value c.args.z _ same

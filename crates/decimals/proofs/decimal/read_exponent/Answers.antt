use Rattle.std.proofs.Common.{◌≡◌, ◌-◌, ◌^◌, min, cond, Some, None, rules}
use Rattle.numerals.specs.Plain.{value}
use Rattle.numerals.specs.Double.{digits_then, is_empty}
use Rattle.decimals.specs.Whole.{with_sign}
use Rattle.decimals.proofs.ScaledSteps.{exponent_is}
use Rattle.decimals.proofs.decimal.read_exponent.Goals as goal

pub returns : goal.returns
returns c =
    let s = c.split_sign-negative.result.0 in
    let d = c.split_sign-negative.result.1.now in
    let e : c.then.result ≡ cond (digits_then is_empty d) (Some (with_sign s (min (value d) (2 ^ 64 - 1)))) None = search rules in
    exponent_is c.args.text.now d s _ c.split_sign-negative.ensures.minus c.split_sign-negative.ensures.magnitude e

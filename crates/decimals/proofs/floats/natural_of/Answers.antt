use Rattle.std.proofs.Common.{◌^◌, ◌≤◌, T, arith, le→leb, rules}
use lib.Ieee.{fits, binary64, in_float}
use Rattle.decimals.proofs.FloatSteps.{cast_le, low_case, high_case}
use Rattle.decimals.proofs.floats.natural_of.Goals as goal

pub int_to_float-n : goal.int_to_float-n
unfolding in_float
int_to_float-n c =
    let n = c.saturating_f64_to_u64-n.result in
    let le : n ≤ 2 ^ 53 = omega (arith, cast_le c.args.x c.if-x.true) in
    le→leb n (2 ^ 53) le

pub returns-then-x : goal.returns-then-x
returns-then-x c = low_case c.args.x _ _ c.saturating_f64_to_u64-n.ensures c.if-x.true c.then_some.ensures

pub returns-else-x : goal.returns-else-x
returns-else-x c =
    let held : T (fits binary64 c.args.x) = search rules in
    high_case c.args.x _ _ held c.saturating_f64_to_u64-n.ensures c.if-x.false c.then_some-else-x.ensures

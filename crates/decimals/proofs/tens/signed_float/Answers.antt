use Rattle.std.proofs.Common.{Bool, false, pos, sym, subst}
use lib.Ieee.{neg, of_int, binary64}
use lib.Ieee.Exact.{HasValue}
use Rattle.decimals.proofs.FloatValues.{neg_value, natural_value}
use Rattle.decimals.proofs.tens.signed_float.Goals as goal

pub returns-then-negative : goal.returns-then-negative
returns-then-negative c =
    let x = of_int binary64 (pos c.args.digits) in
    subst (λ (s : Bool). HasValue (neg x) s c.args.digits 1) (sym c.if-negative.true)
    (neg_value x false c.args.digits 1 (natural_value c.args.digits c.requires))

pub returns-else-negative : goal.returns-else-negative
returns-else-negative c =
    let x = of_int binary64 (pos c.args.digits) in
    subst (λ (s : Bool). HasValue x s c.args.digits 1) (sym c.if-negative.false) (natural_value c.args.digits c.requires)

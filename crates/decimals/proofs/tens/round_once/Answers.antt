use Rattle.std.proofs.Common.{◌≡◌, true, false, pos, nat_abs, arith}
use lib.Signed.{lt_z}
use Rattle.std.proofs.lemmas.Int.{ints}
use Rattle.decimals.proofs.Powers.{once_product, once_quotient}
use Rattle.decimals.proofs.tens.round_once.Goals as goal

pub returns-then-power-lt0 : goal.returns-then-power-lt0
returns-then-power-lt0 c =
    let q = c.args.power in
    let t : lt_z q (pos 0) ≡ true = grind (arith, ints) in
    let e : c.unsigned_abs-size.result ≡ nat_abs q = omega (arith, ints, c.unsigned_abs-size.ensures.value) in
    once_quotient _ _ q _ _ _ (omega arith) (omega arith) t e c.signed_float-x.ensures c.power_of_ten-ten.ensures

pub returns-else-power-lt0 : goal.returns-else-power-lt0
returns-else-power-lt0 c =
    let q = c.args.power in
    let t : lt_z q (pos 0) ≡ false = grind (arith, ints) in
    let e : c.unsigned_abs-size.result ≡ nat_abs q = omega (arith, ints, c.unsigned_abs-size.ensures.value) in
    once_product _ _ q _ _ _ (omega arith) (omega arith) t e c.signed_float-x.ensures c.power_of_ten-ten.ensures

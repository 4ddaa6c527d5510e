use Rattle.std.proofs.Common.{◌≡◌, ◌^◌, ◌<◌, false, ◌&&◌, length, pos, Some, ◌-ℤ◌, sym, arith, to_z, of_z, rules}
use mir.Syntax.{w128}
use Rattle.std.proofs.lemmas.Int.{ints}
use Rattle.std.proofs.lemmas.Bool.{and_left, and_right}
use Rattle.numerals.specs.Double.{is_empty}
use Rattle.decimals.specs.Decimal.{power_in, some_clamped}
use Rattle.decimals.proofs.DigitSteps.{add_both}
use Rattle.decimals.proofs.ScaledSteps.{scaled_same, not_empty, clamped_small}
use Rattle.decimals.proofs.decimal.read_scaled.Goals as goal
use Rattle.decimals.proofs.decimal.read_scaled.Goals.{else-is_empty-via-then-is_empty+else-is_empty-2, else-is_empty-via-else-is_empty}

pub returns : goal.returns
returns c =
    let w = c.args.whole.now in
    let f = c.args.fraction.now in
    let some : (is_empty w && is_empty f) ≡ false =
    elim c.else-is_empty.branch [
      | else-is_empty-via-then-is_empty+else-is_empty-2 x ↦ and_right _ _ (not_empty f (sym x.if-is_empty-2.ensures))
      | else-is_empty-via-else-is_empty x ↦ and_left _ _ (not_empty w (sym x.if-is_empty.ensures))
    ] in
    let short : length f < 2 ^ 63 = search rules in
    let p = c.in_ok-power.power in
    let q = to_z w128 (of_z w128 (to_z w128 (of_z w128 p) -ℤ to_z w128 (length f))) in
    let read : Some p ≡ some_clamped (power_in c.args.tail.now) = search rules in
    let small = clamped_small (power_in c.args.tail.now) p read in
    let is : q ≡ p -ℤ pos (length f) = omega (arith, ints) in
    scaled_same c.args.negative w f c.args.tail.now p q c.add_digits-digits.result _ c.round_once.ensures some short
    read (add_both _ _ w f c.add_digits.ensures c.add_digits-digits.ensures) is

-- The cap on whole numbers is beyond every range that is tested.
use Rattle.std.proofs.Common.{◌≡◌, ◌^◌, ◌<◌, ◌≤◌, false, cond, ◌&&◌, ℤ, nat_abs, Some, None, sym, refl, ap, ◌∙◌, ⊎_elim, arith}
use lib.Signed.{le_z}
use Rattle.std.proofs.lemmas.Int.{ints}
use Rattle.std.proofs.lemmas.Bool.{cases_lt, lt-ltb, le-ltb}
use Rattle.decimals.specs.Whole.{in_range}
use Rattle.decimals.specs.Theorems.{RangesAgree}

outside : (least most z : ℤ) → nat_abs least < 2 ^ 64 → nat_abs most < 2 ^ 64 → 2 ^ 64 ≤ nat_abs z → (le_z least z && le_z z most) ≡ false
outside least most z a b big = grind (arith, ints)

pub ranges_agree : RangesAgree
ranges_agree least most a b None = refl
ranges_agree least most a b (Some z) =
    ⊎_elim
    (λ lt. ap (λ t. in_range least most (cond t (Some z) None)) (lt-ltb (nat_abs z) (2 ^ 64) lt))
    (λ ge.
    ap (λ t. in_range least most (cond t (Some z) None)) (le-ltb (nat_abs z) (2 ^ 64) ge)
    ∙ ap (λ t. cond t (Some z) None) (sym (outside least most z a b ge)))
    (cases_lt (nat_abs z) (2 ^ 64))

-- The function on floats tells exactly the whole numbers that floats are.
use Rattle.std.proofs.Common.{◌≡◌, ℕ, ◌*◌, ◌/◌, ◌%◌, Bool, true, false, cond, eqb, ℤ, Some, None, sym, refl, ap, ◌∙◌, div-add-mod', mul-one, arith}
use lib.Ieee.{Float, nan, inf, fin, up, down}
use lib.Ieee.Fits.{down_pos}
use Rattle.std.proofs.lemmas.Bool.{eqb-true}
use Rattle.decimals.specs.Whole.{with_sign}
use Rattle.decimals.specs.Floats.{IsWhole, whole_float}
use Rattle.decimals.specs.Theorems.{WholeFloatsAgree}
use Rattle.decimals.proofs.FloatValues.{whole_parts}

sound : (x : Float) (z : ℤ) → whole_float x ≡ Some z → IsWhole x z
sound nan z e = let n : ◌≡◌ {A = ℕ} 0 1 = cc in absurd (omega arith)
sound (inf s) z e = let n : ◌≡◌ {A = ℕ} 0 1 = cc in absurd (omega arith)
sound (fin s m e) z is = by (eqb (m * up e % down e) 0) (eqb-true (m * up e % down e) 0) is
  where
    by : (t : Bool) → (t ≡ true → m * up e % down e ≡ 0) → cond t (Some (with_sign s (m * up e / down e))) None ≡ Some z → IsWhole (fin s m e) z
    by true f is =
        let none = f refl in
        record { negative = s; n = m * up e / down e; value = (refl, omega (arith, div-add-mod' (m * up e) (down e))); is = cc }
    by false f is = let n : ◌≡◌ {A = ℕ} 0 1 = cc in absurd (omega arith)

complete : (x : Float) (z : ℤ) → IsWhole x z → whole_float x ≡ Some z
complete nan z w = absurd w.value
complete (inf s) z w = absurd w.value
complete (fin s m e) z w =
    let p = whole_parts (m * up e) w.n (down e) (down_pos e) (sym (mul-one (m * up e)) ∙ w.value.1) in
    rw (p.0, p.1) (ap (λ t. Some (with_sign t w.n)) w.value.0 ∙ ap Some (sym w.is))

pub whole_floats_agree : WholeFloatsAgree
whole_floats_agree x z = (sound x z, complete x z)

-- What the caps on digits and exponents leave unchanged.
use Rattle.std.proofs.Common.{◌≡◌, ℕ, zero, suc, ◌-◌, ◌^◌, ◌<◌, ◌≤◌, min, Bool, true, false, cond, ◌&&◌, eqb, leb, List, [], ◌∷◌, ◌++◌, length, ℤ, pos, negsuc, ◌-ℤ◌, neg_ℤ, nat_abs, Some, None, Err, Option, Result, sym, refl, ap, ◌∙◌, ⊎_elim, arith}
use lib.Ieee.{Float}
use Rattle.std.specs.Char.{is_ascii_digit}
use Rattle.std.specs.Str.{all_ascii_digits}
use Rattle.std.proofs.lemmas.Int.{ints}
use Rattle.std.proofs.lemmas.Bool.{cases_Bool, cases_lt, lt-leb, and_right, false≢true}
use Rattle.numerals.specs.Plain.{value}
use Rattle.numerals.specs.Double.{after_digits, digits_then, is_empty}
use Rattle.decimals.specs.declared.fault.FloatFault.{FloatFault}
use Rattle.decimals.specs.declared.fault.FloatFault.TheVariants.{Inexact}
use Rattle.decimals.specs.Whole.{is_digits, is_minus, magnitude_in, natural_in, some_signed, whole_in, with_sign}
use Rattle.decimals.specs.Decimal.{answer, clamped, power_in, rounded_once, said, scaled, shifted, some_clamped}

-- The exponent.

all_after : (c : List ℕ) → is_empty (after_digits c) ≡ all_ascii_digits c
all_after [] = refl
all_after (b ∷ c) = ⊎_elim (λ t. rw t (all_after c)) (λ t. rw t) (cases_Bool (is_ascii_digit b))

pub digits_test : (c : List ℕ) → digits_then is_empty c ≡ is_digits c
digits_test [] = refl
digits_test (b ∷ c) = ⊎_elim (λ t. rw t (all_after c)) (λ t. rw t) (cases_Bool (is_ascii_digit b))

clamp_sign : (s : Bool) (n : ℕ) → clamped (with_sign s n) ≡ with_sign s (min n (2 ^ 64 - 1))
clamp_sign true zero = refl
clamp_sign true (suc n) = refl
clamp_sign false n = refl

capped_digits : (s t : Bool) (c : List ℕ) → cond t (Some (with_sign s (min (value c) (2 ^ 64 - 1)))) None ≡ some_clamped (some_signed s (cond t (Some (value c)) None))
capped_digits s true c = ap Some (sym (clamp_sign s (value c)))
capped_digits s false c = refl

pub exponent_is : (c d : List ℕ) (s : Bool) (r : Option ℤ) → s ≡ is_minus true c → d ≡ magnitude_in true c
    → r ≡ cond (digits_then is_empty d) (Some (with_sign s (min (value d) (2 ^ 64 - 1)))) None → r ≡ some_clamped (whole_in true c)
exponent_is c d s r sign e is =
    is ∙ ap (λ t. cond t (Some (with_sign s (min (value d) (2 ^ 64 - 1)))) None) (digits_test d)
    ∙ capped_digits s (is_digits d) d
    ∙ (λ i. some_clamped (some_signed (sign i) (natural_in (e i))))

-- The caps are far beyond what one rounding serves.

too_far : (s : Bool) (d : ℕ) (q : ℤ) → 22 < nat_abs q → rounded_once s d q ≡ Err Inexact
too_far s d q far = rw (and_right (leb d (2 ^ 53)) _ (lt-leb (nat_abs q) 22 far))

too_many : (s : Bool) (d : ℕ) (q : ℤ) → 2 ^ 53 < d → rounded_once s d q ≡ Err Inexact
too_many s d q many = rw (lt-leb d (2 ^ 53) many)

power_same : (s : Bool) (d : ℕ) (z : ℤ) (n : ℕ) → n < 2 ^ 63 → rounded_once s d (clamped z -ℤ pos n) ≡ rounded_once s d (z -ℤ pos n)
power_same s d z n short =
    ⊎_elim
    (λ lt. ap (λ u. rounded_once s d (u -ℤ pos n)) (clamped_same z lt))
    (λ ge.
    let far = clamped_far z n short ge in
    too_far s d (clamped z -ℤ pos n) far.0 ∙ sym (too_far s d (z -ℤ pos n) far.1))
    (cases_lt (nat_abs z) (2 ^ 64))
  where
    clamped_same : (z : ℤ) → nat_abs z < 2 ^ 64 → clamped z ≡ z
    clamped_same (pos m) lt = ap pos (omega arith)
    clamped_same (negsuc m) lt = ap (λ k. neg_ℤ (pos k)) (let same : min (suc m) (2 ^ 64 - 1) ≡ suc m = omega arith in same)

    clamped_far : (z : ℤ) (n : ℕ) → n < 2 ^ 63 → 2 ^ 64 ≤ nat_abs z → (22 < nat_abs (clamped z -ℤ pos n)) × (22 < nat_abs (z -ℤ pos n))
    clamped_far (pos m) n short ge = (omega (arith, ints), omega (arith, ints))
    clamped_far (negsuc m) n short ge = (omega (arith, ints), omega (arith, ints))

digits_same : (s : Bool) (d e : ℕ) (q : ℤ) → d ≡ min e (2 ^ 64 - 1) → rounded_once s d q ≡ rounded_once s e q
digits_same s d e q is =
    ⊎_elim
    (λ lt. let same : d ≡ e = omega arith in rw same)
    (λ ge. too_many s d q (omega arith) ∙ sym (too_many s e q (omega arith)))
    (cases_lt e (2 ^ 64))

shifted_same : (s : Bool) (w f : List ℕ) (o : Option ℤ) (p q : ℤ) (d : ℕ) → length f < 2 ^ 63 → Some p ≡ some_clamped o
    → d ≡ min (value (w ++ f)) (2 ^ 64 - 1) → q ≡ p -ℤ pos (length f) → rounded_once s d q ≡ answer (said s (shifted w f o))
shifted_same s w f None p q d short e digits is = let n : ◌≡◌ {A = ℕ} 0 1 = cc in absurd (omega arith)
shifted_same s w f (Some z) p q d short e digits is =
    let same : p ≡ clamped z = cc in
    ap (rounded_once s d) (is ∙ ap (λ u. u -ℤ pos (length f)) same)
    ∙ power_same s d z (length f) short
    ∙ digits_same s d (value (w ++ f)) (z -ℤ pos (length f)) digits

pub scaled_same : (s : Bool) (w f c : List ℕ) (p q : ℤ) (d : ℕ) (r : Result Float FloatFault) → r ≡ rounded_once s d q → (is_empty w && is_empty f) ≡ false → length f < 2 ^ 63
    → Some p ≡ some_clamped (power_in c) → d ≡ min (value (w ++ f)) (2 ^ 64 - 1) → q ≡ p -ℤ pos (length f) → r ≡ answer (said s (scaled w f c))
scaled_same s w f c p q d r h some short e digits is =
    h ∙ shifted_same s w f (power_in c) p q d short e digits is ∙ ap (λ t. answer (said s (cond t None (shifted w f (power_in c))))) (sym some)

pub not_empty : (c : List ℕ) → eqb (length c) 0 ≡ false → is_empty c ≡ false
not_empty [] t = absurd (false≢true (sym t))
not_empty (b ∷ c) t = refl

pub clamped_small : (o : Option ℤ) (p : ℤ) → Some p ≡ some_clamped o → nat_abs p < 2 ^ 64
clamped_small None p e = let n : ◌≡◌ {A = ℕ} 0 1 = cc in absurd (omega arith)
clamped_small (Some (pos m)) p e = let same : p ≡ pos (min m (2 ^ 64 - 1)) = cc in rw same (omega arith)
clamped_small (Some (negsuc m)) p e = let same : p ≡ neg_ℤ (pos (min (suc m) (2 ^ 64 - 1))) = cc in rw same (omega (arith, ints))

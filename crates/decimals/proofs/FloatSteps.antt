-- What the tests of a float tell of the whole number that it is.
use Rattle.std.specs.Bool.{then_some}
use Rattle.std.proofs.Common.{Option, ⊎_elim, ◌≡◌, ℕ, zero, suc, ◌+◌, ◌*◌, ◌/◌, ◌%◌, ◌^◌, ◌<◌, ◌≤◌, Bool, true, false, cond, ◌&&◌, T, eqb, ltb, leb, ℤ, pos, negsuc, Some, None, sym, refl, ap, ◌∙◌, subst, div-lt_iff_lt-mul, div-add-mod', le-div_iff_mul-le, zero-mul, div-one, arith, ltb→lt, pow_pos}
use native.Mathlib.Nat.{zero-mod, zero-div}
use lib.Ieee.{Float, nan, inf, fin, binary64, low, emax, up, down, lt, eq, neg, fits, of_bits, of_int, to_unsigned}
use lib.Ieee.Fits.{up_pos, down_pos, and_l, and_r}
use Rattle.std.proofs.lemmas.Bool.{cases_Bool, and_parts, ltb-true, ltb-false, lt-ltb, eqb-true, eq-eqb, both_ways, false≢true}
use Rattle.decimals.specs.Whole.{some_signed}
use Rattle.decimals.specs.Floats.{natural_float, whole_float_capped}
use Rattle.decimals.proofs.WholeSteps.{sign_capped}
use Rattle.decimals.proofs.FloatValues.{IsNatural, natural_value, eq_value, value_eq, whole_parts, zero_of}

-- 2 ^ 53 and 2 ^ 64
abbrev two53 : Float
two53 = of_bits binary64 4845873199050653696

abbrev two64 : Float
two64 = of_bits binary64 4895412794951729152

-- below 2 ^ 53
pub cast_le : (x : Float) → lt x two53 ≡ true → to_unsigned 64 x ≤ 2 ^ 53
unfolding lt of_bits to_unsigned
cast_le nan t = omega arith
cast_le (inf true) t = omega arith
cast_le (inf false) t = absurd (false≢true t)
cast_le (fin true m e) t = omega arith
cast_le (fin false m e) t =
    let low : m * up e < 2 ^ 53 * down e = omega (arith, ltb-true (m * up e * 1) (2 ^ 53 * down e) t) in
    let q : m * up e / down e < 2 ^ 53 = (div-lt_iff_lt-mul (down_pos e)).1 low in
    omega arith

natural_is : (x : Float) (n : ℕ) → n < 2 ^ 64 → IsNatural x n → natural_float x ≡ Some n
natural_is nan n h k = absurd k
natural_is (inf s) n h k = absurd k
natural_is (fin true m e) n h k =
    let p = whole_parts (m * up e) n (down e) (down_pos e) k.0 in
    let z : m ≡ 0 = zero_of m (up e) (up_pos e) (k.0 ∙ ap (λ x. x * down e) (k.1 refl) ∙ zero-mul (down e)) in
    rw (eq-eqb m 0 z, p.0, p.1, lt-ltb n (2 ^ 64) h)
natural_is (fin false m e) n h k =
    let p = whole_parts (m * up e) n (down e) (down_pos e) k.0 in
    rw (p.0, p.1, lt-ltb n (2 ^ 64) h)

none_by : (t : Bool) (n : ℕ) → (t ≡ true → ⊥) → None ≡ cond t (Some n) None
none_by true n f = absurd (f refl)
none_by false n f = refl

-- a float that is a number is cast to it
natural_none : (x : Float) → ((n : ℕ) → to_unsigned 64 x ≡ n → IsNatural x n → ⊥) → None ≡ natural_float x
unfolding to_unsigned
natural_none nan f = refl
natural_none (inf s) f = refl
natural_none (fin true m e) f =
    none_by _ _
    (λ t.
    let z = eqb-true m 0 (and_parts (eqb m 0) _ t).0 in
    f 0 refl (ap (λ x. x * up e) z ∙ zero-mul (up e) ∙ sym (zero-mul (down e)), λ _. refl))
natural_none (fin false m e) f =
    none_by _ _
    (λ t.
    let q = and_parts (eqb (m * up e % down e) 0) _ t in
    let lt = ltb-true (m * up e / down e) (2 ^ 64) q.1 in
    let all = eqb-true (m * up e % down e) 0 q.0 in
    f (m * up e / down e) (omega arith) (omega (arith, div-add-mod' (m * up e) (down e)), λ no. absurd (false≢true no)))

exact_some : (x : Float) (n : ℕ) → n ≡ to_unsigned 64 x → lt x two53 ≡ true → eq (of_int binary64 (pos n)) x ≡ true → Some n ≡ natural_float x
exact_some x n is low t =
    let le : n ≤ 2 ^ 53 = omega (arith, cast_le x low) in
    sym (natural_is x n (omega arith) (eq_value (of_int binary64 (pos n)) x n (natural_value n le) t))

exact_none : (x : Float) (n : ℕ) → n ≡ to_unsigned 64 x → lt x two53 ≡ true → eq (of_int binary64 (pos n)) x ≡ false → None ≡ natural_float x
exact_none x n is low t =
    let le : n ≤ 2 ^ 53 = omega (arith, cast_le x low) in
    natural_none x
    (λ m same k.
    let e : m ≡ n = omega arith in
    both_ways _ t (value_eq (of_int binary64 (pos n)) x n (natural_value n le) (subst (IsNatural x) e k)))

few_digits : (s : Bool) (m : ℕ) (e : ℤ) → T (fits binary64 (fin s (suc m) e)) → suc m < 2 ^ 53
unfolding fits
few_digits s m e held =
    let odd = eqb (suc m % 2) 1 in
    let few = ltb (suc m) (2 ^ 53) in
    let fine = leb (down e) (2 ^ low binary64) in
    let small = ltb (suc m * up e) (2 ^ suc (emax binary64) * down e) in
    ltb→lt (suc m) (2 ^ 53) (and_r odd few (and_l (odd && few) fine (and_l (odd && few && fine) small held)))

-- from 2 ^ 53 on each float is whole
high_some : (x : Float) (n : ℕ) → T (fits binary64 x) → n ≡ to_unsigned 64 x → lt x two53 ≡ false → lt x two64 ≡ true → Some n ≡ natural_float x
unfolding lt of_bits to_unsigned
high_some nan n held is high low = absurd (false≢true low)
high_some (inf s) n held is high low = absurd (both_ways s high low)
high_some (fin true m e) n held is high low = absurd (omega (arith, ltb-false 0 (m * up e * 1 + 2 ^ 53 * down e) high, down_pos e))
high_some (fin false zero e) n held is high low =
    absurd (omega (arith, ltb-false (0 * up e * 1) (2 ^ 53 * down e) high, down_pos e, zero-mul (up e)))
high_some (fin false (suc m) (pos k)) n held is high low =
    let lt = ltb-true (suc m * 2 ^ k * 1) (2 ^ 64 * 1) low in
    let same : n ≡ suc m * 2 ^ k = omega (arith, div-one (suc m * 2 ^ k)) in
    sym (natural_is (fin false (suc m) (pos k)) n (omega arith) (omega arith, λ no. absurd (false≢true no)))
high_some (fin false (suc m) (negsuc k)) n held is high low =
    let le = ltb-false (suc m * 1 * 1) (2 ^ 53 * 2 ^ suc k) high in
    absurd (omega (arith, few_digits false m (negsuc k) held, pow_pos (suc k)))

high_none : (x : Float) → lt x two53 ≡ false → lt x two64 ≡ false → None ≡ natural_float x
unfolding lt of_bits
high_none nan low high = refl
high_none (inf s) low high = refl
high_none (fin true m e) low high = absurd (omega (arith, ltb-false 0 (m * up e * 1 + 2 ^ 53 * down e) low, down_pos e))
high_none (fin false m e) low high =
    let le : 2 ^ 64 * down e ≤ m * up e = omega (arith, ltb-false (m * up e * 1) (2 ^ 64 * down e) high) in
    let big : 2 ^ 64 ≤ m * up e / down e = (le-div_iff_mul-le (down_pos e)).1 le in
    none_by _ _ (λ t. let lt = ltb-true (m * up e / down e) (2 ^ 64) (and_parts (eqb (m * up e % down e) 0) _ t).1 in omega arith)

-- Below 2 ^ 53 the number is tried, and from there on it is whole.

pub low_case : (x : Float) (n : ℕ) (r : Option ℕ) → n ≡ to_unsigned 64 x → lt x two53 ≡ true → r ≡ then_some (eq (of_int binary64 (pos n)) x) n → r ≡ natural_float x
low_case x n r is below e =
    ⊎_elim
    (λ t. e ∙ rw t (exact_some x n is below t))
    (λ t. e ∙ rw t (exact_none x n is below t))
    (cases_Bool (eq (of_int binary64 (pos n)) x))

pub high_case : (x : Float) (n : ℕ) (r : Option ℕ) → T (fits binary64 x) → n ≡ to_unsigned 64 x → lt x two53 ≡ false → r ≡ then_some (lt x two64) n → r ≡ natural_float x
high_case x n r held is high e =
    ⊎_elim
    (λ t. e ∙ rw t (high_some x n held is high t))
    (λ t. e ∙ rw t (high_none x high t))
    (cases_Bool (lt x two64))

-- The sign.

below_zero : (x : Float) → lt x (of_bits binary64 0) ≡ true → some_signed true (natural_float (neg x)) ≡ whole_float_capped x
unfolding lt of_bits neg
below_zero nan t = refl
below_zero (inf s) t = refl
below_zero (fin true m e) t = sign_capped true (eqb (m * up e % down e) 0) (m * up e / down e)
below_zero (fin false m e) t = absurd (omega (arith, ltb-true (m * up e * 1) (0 * down e) t, zero-mul (down e)))

not_below : (x : Float) → lt x (of_bits binary64 0) ≡ false → some_signed false (natural_float x) ≡ whole_float_capped x
unfolding lt of_bits
not_below nan t = refl
not_below (inf s) t = refl
not_below (fin true m e) t =
    let none : m * up e ≡ 0 = omega (arith, ltb-false 0 (m * up e * 1 + 0 * down e) t) in
    let z = zero_of m (up e) (up_pos e) none in
    rw (eq-eqb m 0 z, none, zero-mod, zero-div)
not_below (fin false m e) t = sign_capped false (eqb (m * up e % down e) 0) (m * up e / down e)

pub sign_off : (x : Float) → whole_float_capped x ≡ some_signed (lt x (of_bits binary64 0)) (natural_float (cond (lt x (of_bits binary64 0)) (neg x) x))
sign_off x = by (lt x (of_bits binary64 0)) (below_zero x) (not_below x)
  where
    by : (t : Bool) → (t ≡ true → some_signed true (natural_float (neg x)) ≡ whole_float_capped x) → (t ≡ false → some_signed false (natural_float x) ≡ whole_float_capped x)
        → whole_float_capped x ≡ some_signed t (natural_float (cond t (neg x) x))
    by true f g = sym (f refl)
    by false f g = sym (g refl)

-- Which numbers floats are.
use Rattle.std.proofs.Common.{Option, MatchOption, ◌⊎◌, ⊎_elim, inl, inr, ◌≡◌, ℕ, suc, ◌*◌, ◌/◌, ◌%◌, ◌^◌, ◌<◌, ◌≤◌, Bool, true, false, not, ◌&&◌, ◌||◌, T, eqb, ℤ, pos, negsuc, nat_abs, sym, refl, ap, ◌∙◌, subst, zero-mul, mul-one, mul_right_comm, mul-div_cancel, arith, eqb→eq}
use mathlib.Core.Bool.{beq}
use native.Mathlib.Nat.{mul-mod_left, eq_of_mul-eq-mul_right}
use lib.Signed.{lt_z}
use lib.Ieee.{Float, nan, inf, fin, binary64, up, down, eq, neg, of_int}
use lib.Ieee.Exact.{HasValue}
use lib.Ieee.Fits.{down_pos, and_l, and_r, and_i, eq→eqb}
use lib.Ieee.Bits.{is_true}
use lib.Ieee.Back.{round_whole}
use Rattle.decimals.specs.Floats.{exact_float}
use Rattle.std.proofs.lemmas.Bool.{le-leb, lt-leb, cases_lt, le-ltb}

pub neg_value : (x : Float) (s : Bool) (a c : ℕ) → HasValue x s a c → HasValue (neg x) (not s) a c
unfolding neg
neg_value nan s a c h = h
neg_value (inf t) s a c h = h
neg_value (fin t m e) s a c h = (ap not h.0, h.1)

-- a whole number up to 2 ^ 53 is a float
pub natural_value : (n : ℕ) → n ≤ 2 ^ 53 → HasValue (of_int binary64 (pos n)) false n 1
unfolding of_int
natural_value n h = round_whole binary64 false n h

pub int_value : (z : ℤ) → nat_abs z ≤ 2 ^ 53 → HasValue (of_int binary64 z) (lt_z z (pos 0)) (nat_abs z) 1
unfolding of_int
int_value (pos n) h = rw (le-ltb n 0 (omega arith)) (natural_value n h)
int_value (negsuc n) h = round_whole binary64 true (suc n) h

-- x is the number n, and -0 is 0
abbrev pub IsNatural : Float → ℕ → Type 0
IsNatural nan n = ⊥
IsNatural (inf s) n = ⊥
IsNatural (fin s m e) n = (m * up e ≡ n * down e) × (s ≡ true → n ≡ 0)

pub zero_of : (a w : ℕ) → 0 < w → a * w ≡ 0 → a ≡ 0
zero_of a w W e = eq_of_mul-eq-mul_right w W a 0 (e ∙ sym (zero-mul w))

sign_of : (u : Bool) (A : ℕ) → T (beq false u || eqb A 0) → u ≡ true → A ≡ 0
sign_of false A t e = absurd (subst T (sym e) tt)
sign_of true A t e = eqb→eq A 0 t

sign_to : (u : Bool) (A : ℕ) → (u ≡ true → A ≡ 0) → T (beq false u || eqb A 0)
sign_to false A f = tt
sign_to true A f = eq→eqb (f refl)

-- what equals the float of a number is that number
pub eq_value : (x y : Float) (a : ℕ) → HasValue x false a 1 → eq x y ≡ true → IsNatural y a
unfolding eq
eq_value nan y a h t = absurd h
eq_value (inf i) y a h t = absurd h
eq_value (fin i m e) nan a h t = absurd (subst T (sym t) tt)
eq_value (fin i m e) (inf j) a h t = absurd (subst T (sym t) tt)
eq_value (fin true m e) (fin j n d) a h t = absurd (subst T h.0 tt)
eq_value (fin false m e) (fin j n d) a h t =
    let A = m * up e * down d in
    let B = n * up d * down e in
    let both : T (eqb A B && (beq false j || eqb A 0)) = subst T (sym t) tt in
    let same : A ≡ B = eqb→eq A B (and_l (eqb A B) (beq false j || eqb A 0) both) in
    let v : m * up e ≡ a * down e = sym (mul-one (m * up e)) ∙ h.1 in
    let w : B ≡ a * down d * down e = sym same ∙ ap (λ (z : ℕ). z * down d) v ∙ mul_right_comm a (down e) (down d) in (
      eq_of_mul-eq-mul_right (down e) (down_pos e) (n * up d) (a * down d) w,
      λ (u : j ≡ true).
          let zA : A ≡ 0 = sign_of j A (and_r (eqb A B) (beq false j || eqb A 0) both) u in
          zero_of a (down e) (down_pos e) (sym v ∙ zero_of (m * up e) (down d) (down_pos d) zA),
    )

-- and that number equals its float
pub value_eq : (x y : Float) (a : ℕ) → HasValue x false a 1 → IsNatural y a → eq x y ≡ true
unfolding eq
value_eq nan y a h k = absurd h
value_eq (inf i) y a h k = absurd h
value_eq (fin i m e) nan a h k = absurd k
value_eq (fin i m e) (inf j) a h k = absurd k
value_eq (fin true m e) (fin j n d) a h k = absurd (subst T h.0 tt)
value_eq (fin false m e) (fin j n d) a h k =
    let A = m * up e * down d in
    let B = n * up d * down e in
    let v : m * up e ≡ a * down e = sym (mul-one (m * up e)) ∙ h.1 in
    let same : A ≡ B = ap (λ (z : ℕ). z * down d) v ∙ mul_right_comm a (down e) (down d) ∙ ap (λ (z : ℕ). z * down e) (sym k.0) in
    let zA : j ≡ true → A ≡ 0 = λ u. ap (λ (z : ℕ). z * down d) (v ∙ ap (λ (z : ℕ). z * down e) (k.1 u) ∙ zero-mul (down e)) ∙ zero-mul (down d) in
    is_true (eqb A B && (beq false j || eqb A 0)) (and_i (eqb A B) (beq false j || eqb A 0) (eq→eqb same) (sign_to j A zA))

-- a whole number of units divides with nothing left
pub whole_parts : (w n d : ℕ) → 0 < d → w ≡ n * d → (w % d ≡ 0) × (w / d ≡ n)
whole_parts w n d D e = (ap (λ (x : ℕ). x % d) e ∙ mul-mod_left n d, ap (λ (x : ℕ). x / d) e ∙ mul-div_cancel n D)

pub exact_value : (z : ℤ) (r : Option Float) → r ≡ exact_float z → MatchOption r (2 ^ 53 < nat_abs z) (λ x. HasValue x (lt_z z (pos 0)) (nat_abs z) 1)
exact_value z r e =
    ⊎_elim
    (λ h. rw (e, le-leb (nat_abs z) (2 ^ 53) h) (int_value z h))
    (λ h. rw (e, lt-leb (nat_abs z) (2 ^ 53) h) h)
    (cases_le (nat_abs z) (2 ^ 53))
  where
    cases_le : (a b : ℕ) → (a ≤ b) ⊎ (b < a)
    cases_le a b = ⊎_elim (λ h. inr h) (λ h. inl h) (cases_lt b a)

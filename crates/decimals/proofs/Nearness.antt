-- `round` rounds once, to the nearest, a tie to the even one.
use Rattle.std.proofs.Common.{◌≡◌, ℕ, zero, suc, ◌+◌, ◌-◌, ◌*◌, ◌/◌, ◌%◌, ◌^◌, ◌<◌, ◌≤◌, Bool, true, false, cond, not, T, eqb, ltb, ◌⊎◌, sym, refl, ap, ◌∙◌, subst, inl, inr, le_trans, le_of_eq, mod-lt, suc-mul, mul-pos, div-add-mod', le-div_iff_mul-le, arith, eqb→eq, leb→le, pow_pos, pow-add}
use Prim.Native.Nat.{compare, Ordering}
use native.Mathlib.Nat.{div-div-eq-div-mul}
use lib.Dec.{is_le, compare_is_eq, nleb→lt, eqb_refl}
use lib.Arith.{lt_of_le-ne}
use lib.Ieee.{inf, Format, prec, low, emax, size, nearest, neg, odd, units, round}
use lib.Ieee.Exact.{HasValue}
use lib.Ieee.Fits.{nearest-le, kept-lt, two, two-le_pos}
use lib.Ieee.Nearest.{closest, nearest-ge}
use lib.Ieee.Digits.{size_reaches}
use lib.Ieee.Order.{drop, kept}
use lib.Ieee.Scale.{round_val}
use Rattle.decimals.specs.Rounding.{Near, RoundsOnce}
use Rattle.decimals.proofs.FloatValues.{neg_value}

abbrev Cmp : Ordering → ℕ → ℕ → Type 0
Cmp Ordering.lt a b = a < b
Cmp Ordering.eq a b = a ≡ b
Cmp Ordering.gt a b = b < a

cmp : (a b : ℕ) → Cmp (compare a b) a b
cmp a b = go (compare a b) (leb→le a b) (nleb→lt a b) (eqb→eq a b) (λ (e : a ≡ b). subst (λ (x : ℕ). T (eqb a x)) e (eqb_refl a))
  where
    go : (o : Ordering) → (T (is_le o) → a ≤ b) → (T (not (is_le o)) → b < a) → (T (compare_is_eq o) → a ≡ b) → (a ≡ b → T (compare_is_eq o)) → Cmp o a b
    go Ordering.lt h k e n = lt_of_le-ne (h tt) n
    go Ordering.eq h k e n = e tt
    go Ordering.gt h k e n = k tt

parity : (w : ℕ) → (w % 2 ≡ 0) ⊎ (w % 2 ≡ 1)
parity w = search arith

near_by : (n u w r : ℕ) (o : Ordering) → 0 < u → r < u → w * u + r ≡ n → Cmp o (r * 2) u → Near n u (nearest w o)
near_by n u w r Ordering.lt U R e h = record { above = omega arith; below = omega arith; tie_up = λ t. absurd (omega arith); tie_down = λ t. absurd (omega arith) }
near_by n u w r Ordering.gt U R e h =
    let s : nearest w Ordering.gt * u ≡ w * u + u = suc-mul w u in
    record { above = omega arith; below = omega arith; tie_up = λ t. absurd (omega arith); tie_down = λ t. absurd (omega arith) }
near_by n u w r Ordering.eq U R e h = by (parity w)
  where
    by : (w % 2 ≡ 0) ⊎ (w % 2 ≡ 1) → Near n u (w + w % 2)
    by (inl z) = let s : (w + w % 2) * u ≡ w * u = ap (λ (x : ℕ). x * u) (let q : w + w % 2 ≡ w = omega arith in q) in record { above = omega arith; below = omega arith; tie_up = λ t. omega arith; tie_down = λ t. omega arith }
    by (inr z) = let s : (w + w % 2) * u ≡ w * u + u = ap (λ (x : ℕ). x * u) (let q : w + w % 2 ≡ suc w = omega arith in q) ∙ suc-mul w u in record { above = omega arith; below = omega arith; tie_up = λ t. omega arith; tie_down = λ t. omega arith }

closest_near : (n u : ℕ) → 0 < u → Near n u (closest n u)
closest_near n u U = near_by n u (n / u) (n % u) (compare (n % u * 2) u) U (mod-lt n U) (div-add-mod' n u) (cmp (n % u * 2) u)

kept_le : (p n den : ℕ) → kept p n den ≤ 2 ^ p
kept_le p n den =
    let k = drop p n den in
    let u = den * 2 ^ k in
    le_trans (nearest-le (n / u) (compare (n % u * 2) u)) (subst (λ (x : ℕ). x < 2 ^ p) (div-div-eq-div-mul n den (2 ^ k)) (kept-lt p (n / den)))

all_in_use : (z p : ℕ) → 0 < p → 0 < z - p → p - 1 + (z - p) < z
all_in_use z p P h = omega arith

kept_ge : (p n den : ℕ) → 0 < p → 0 < drop p n den → 2 ^ (p - 1) ≤ kept p n den
kept_ge p n den P K =
    let k = drop p n den in
    let u = den * 2 ^ k in
    let w = n / den in
    let a : 2 ^ (p - 1) * 2 ^ k ≤ w = le_trans (le_of_eq (sym (pow-add 2 (p - 1) k))) (size_reaches w (p - 1 + k) (all_in_use (size w) p P K)) in
    le_trans (subst (λ (x : ℕ). 2 ^ (p - 1) ≤ x) (div-div-eq-div-mul n den (2 ^ k)) ((le-div_iff_mul-le (pow_pos k)).1 a)) (nearest-ge (n / u) (compare (n % u * 2) u))

-- the sign changes nothing else
odd_minus : (d q k l : ℕ) → neg (odd d false q k l) ≡ odd d true q k l
unfolding odd neg
odd_minus d zero k l = refl
odd_minus d (suc q) k l = refl

units_minus : (f : Format) (q k : ℕ) → neg (units f false q k) ≡ units f true q k
unfolding units neg
units_minus f q k = by (ltb (q * 2 ^ k) (2 ^ (low f + suc (emax f))))
  where
    by : (t : Bool) → neg (cond t (odd (suc (prec f)) false q k (low f)) (inf false)) ≡ cond t (odd (suc (prec f)) true q k (low f)) (inf true)
    by true = odd_minus (suc (prec f)) q k (low f)
    by false = refl

round_minus : (f : Format) (a c : ℕ) → neg (round f false a c) ≡ round f true a c
unfolding round
round_minus f a c =
    let k = drop (prec f) (a * 2 ^ low f) c in
    units_minus f (kept (prec f) (a * 2 ^ low f) c) k

signed_value : (f : Format) (s : Bool) (a c n d : ℕ) → HasValue (round f false a c) false n d → HasValue (round f s a c) s n d
signed_value f false a c n d h = h
signed_value f true a c n d h = subst (λ x. HasValue x true n d) (round_minus f a c) (neg_value (round f false a c) false n d h)

pub rounds_once : RoundsOnce
rounds_once f s a c C h =
    let n = a * 2 ^ low f in
    let k = drop (prec f) n c in
    record {
      q = kept (prec f) n c;
      k = k;
      value = signed_value f s a c _ _ (round_val f a c h);
      near = closest_near n (c * 2 ^ k) (mul-pos C (pow_pos k));
      digits = kept_le (prec f) n c;
      full = kept_ge (prec f) n c (two-le_pos (prec f) (two f));
    }

-- The table of the powers of ten, and a product or quotient with one of them.
use Rattle.std.proofs.Common.{◌≡◌, ℕ, zero, suc, ◌+◌, ◌*◌, ◌^◌, ◌<◌, ◌≤◌, Bool, true, false, ◌&&◌, T, eqb, List, [], ◌∷◌, length, get_or, ℤ, pos, negsuc, nat_abs, Ok, sym, refl, ap, ◌∙◌, subst, le_of_suc-le-suc, not-suc-le-zero, add-zero, add-suc, zero-lt-suc, suc-add, one-mul, zero-add, mul-one, arith, eqb→eq}
use native.Mathlib.Nat.{one-le-pow}
use lib.Signed.{lt_z}
use lib.Ieee.{Float, nan, inf, fin, binary64, up, down, unlike, round, mul, div, of_bits}
use lib.Ieee.Exact.{HasValue}
use lib.Ieee.Fits.{and_l, and_r}
use Rattle.std.proofs.lemmas.Int.{ints}
use Rattle.std.proofs.lemmas.Bool.{le-leb}
use Rattle.decimals.specs.Decimal.{rounded, rounded_once}
use Rattle.decimals.proofs.Products.{mul_value, div_value}

-- x is the whole number a
abbrev exact : ℕ → Float → Bool
exact a nan = false
exact a (inf s) = false
exact a (fin true m e) = false
exact a (fin false m e) = eqb (m * up e * 1) (a * down e)

exact_value : (a : ℕ) (x : Float) → T (exact a x) → HasValue x false a 1
exact_value a nan t = absurd t
exact_value a (inf s) t = absurd t
exact_value a (fin true m e) t = absurd t
exact_value a (fin false m e) t = (refl, eqb→eq (m * up e * 1) (a * down e) t)

-- the table from 10 ^ i on
abbrev tens : ℕ → List Float → Bool
tens i [] = true
tens i (x ∷ xs) = exact (10 ^ i) x && tens (suc i) xs

from : (z : Float) (xs : List Float) (i : ℕ) → T (tens i xs) → (k : ℕ) → k < length xs → T (exact (10 ^ (i + k)) (get_or xs k z))
from z [] i t k h = absurd (not-suc-le-zero h)
from z (x ∷ xs) i t zero h = subst (λ (m : ℕ). T (exact (10 ^ m) x)) (sym (add-zero i)) (and_l (exact (10 ^ i) x) (tens (suc i) xs) t)
from z (x ∷ xs) i t (suc k) h =
    subst (λ (m : ℕ). T (exact (10 ^ m) (get_or xs k z))) (suc-add i k ∙ sym (add-suc i k))
    (from z xs (suc i) (and_r (exact (10 ^ i) x) (tens (suc i) xs) t) k (le_of_suc-le-suc h))

table_value : (xs : List Float) (z : Float) → T (tens 0 xs) → (k : ℕ) → k < length xs → HasValue (get_or xs k z) false (10 ^ k) 1
table_value xs z t k h = exact_value (10 ^ k) (get_or xs k z) (subst (λ (m : ℕ). T (exact (10 ^ m) (get_or xs k z))) (zero-add k) (from z xs 0 t k h))

pow10_pos : (n : ℕ) → 0 < 10 ^ n
pow10_pos n = one-le-pow n 10 (zero-lt-suc 9)

abbrev powers : List Float
powers = of_bits binary64 4607182418800017408 ∷ of_bits binary64 4621819117588971520 ∷ of_bits binary64 4636737291354636288 ∷ of_bits binary64 4652007308841189376 ∷ of_bits binary64 4666723172467343360 ∷ of_bits binary64 4681608360884174848 ∷ of_bits binary64 4696837146684686336 ∷ of_bits binary64 4711630319722168320 ∷ of_bits binary64 4726483295884279808 ∷ of_bits binary64 4741671816366391296 ∷ of_bits binary64 4756540486875873280 ∷ of_bits binary64 4771362005757984768 ∷ of_bits binary64 4786511204640096256 ∷ of_bits binary64 4801453603149578240 ∷ of_bits binary64 4816244402031689728 ∷ of_bits binary64 4831355200913801216 ∷ of_bits binary64 4846369599423283200 ∷ of_bits binary64 4861130398305394688 ∷ of_bits binary64 4876203697187506176 ∷ of_bits binary64 4891288408196988160 ∷ of_bits binary64 4906019910204099648 ∷ of_bits binary64 4921056587992461136 ∷ of_bits binary64 4936209963552724370 ∷ []

powers_tens : T (tens 0 powers)
unfolding of_bits
powers_tens = tt

pub power_value : (k : ℕ) → k < 23 → HasValue (get_or powers k nan) false (10 ^ k) 1
power_value k h = table_value powers nan powers_tens k h

like : (s : Bool) → unlike s false ≡ s
like true = refl
like false = refl

product : (s : Bool) (d : ℕ) (q : ℤ) (n : ℕ) (x y : Float) → lt_z q (pos 0) ≡ false → n ≡ nat_abs q → HasValue x s d 1 → HasValue y false (10 ^ n) 1 → mul binary64 x y ≡ rounded s d q
product s d (pos k) n x y t e h g =
    mul_value binary64 x y s false d 1 (10 ^ n) 1 (omega arith) (omega arith) h g
    ∙ ap (λ (u : Bool). round binary64 u (d * 10 ^ n) 1) (like s)
    ∙ ap (λ (m : ℕ). round binary64 s (d * 10 ^ m) 1) e
product s d (negsuc k) n x y t e h g = absurd (subst T t tt)

quotient : (s : Bool) (d : ℕ) (q : ℤ) (n : ℕ) (x y : Float) → lt_z q (pos 0) ≡ true → n ≡ nat_abs q → HasValue x s d 1 → HasValue y false (10 ^ n) 1 → div binary64 x y ≡ rounded s d q
quotient s d (pos k) n x y t e h g = absurd (omega (arith, ints))
quotient s d (negsuc k) n x y t e h g =
    div_value binary64 x y s false d 1 (10 ^ n) 1 (omega arith) (omega arith) (pow10_pos n) h g
    ∙ ap (λ (u : Bool). round binary64 u (d * 1) (1 * 10 ^ n)) (like s)
    ∙ ap (λ (m : ℕ). round binary64 s m (1 * 10 ^ n)) (mul-one d)
    ∙ ap (λ (m : ℕ). round binary64 s d m) (one-mul (10 ^ n))
    ∙ ap (λ (m : ℕ). round binary64 s d (10 ^ m)) e

-- what is rounded once, where the digits and the power are in range
in_range_lem : (s : Bool) (d : ℕ) (q : ℤ) → d ≤ 2 ^ 53 → nat_abs q ≤ 22 → rounded_once s d q ≡ Ok (rounded s d q)
in_range_lem s d q few near = rw (le-leb d (2 ^ 53) few, le-leb (nat_abs q) 22 near)

pub once_product : (s : Bool) (d : ℕ) (q : ℤ) (n : ℕ) (x y : Float) → d ≤ 2 ^ 53 → nat_abs q ≤ 22 → lt_z q (pos 0) ≡ false → n ≡ nat_abs q → HasValue x s d 1 → HasValue y false (10 ^ n) 1 → Ok (mul binary64 x y) ≡ rounded_once s d q
once_product s d q n x y few near t e h g = ap Ok (product s d q n x y t e h g) ∙ sym (in_range_lem s d q few near)

pub once_quotient : (s : Bool) (d : ℕ) (q : ℤ) (n : ℕ) (x y : Float) → d ≤ 2 ^ 53 → nat_abs q ≤ 22 → lt_z q (pos 0) ≡ true → n ≡ nat_abs q → HasValue x s d 1 → HasValue y false (10 ^ n) 1 → Ok (div binary64 x y) ≡ rounded_once s d q
once_quotient s d q n x y few near t e h g = ap Ok (quotient s d q n x y t e h g) ∙ sym (in_range_lem s d q few near)

-- One multiplication or one division of two exact values is their exact product or quotient, rounded once.
use Rattle.std.proofs.Common.{◌≡◌, ℕ, zero, suc, ◌*◌, ◌<◌, Bool, false, cond, T, eqb, sym, ap, ◌∙◌, subst, lt_irrefl, zero-lt-suc, mul_comm, mul-pos, zero-mul}
use Prim.Native.Nat.compare
use native.Mathlib.Nat.{mul-mul-mul_comm}
use lib.Dec.{compare_is_eq}
use lib.Ieee.{Float, nan, inf, fin, Format, up, down, unlike, round, mul, div}
use lib.Ieee.Exact.{HasValue}
use lib.Ieee.Fits.{up_pos, down_pos}
use lib.Ieee.Scale.{round_same}

cross : (p q c d a b x y : ℕ) → p * c ≡ a * x → q * d ≡ b * y → p * q * (c * d) ≡ a * b * (x * y)
cross p q c d a b x y h k = mul-mul-mul_comm p q c d ∙ ap (λ (z : ℕ). z * (q * d)) h ∙ ap (λ (z : ℕ). a * x * z) k ∙ mul-mul-mul_comm a x b y

pub mul_value : (f : Format) (x y : Float) (s t : Bool) (a c b d : ℕ) → 0 < c → 0 < d → HasValue x s a c → HasValue y t b d
    → mul f x y ≡ round f (unlike s t) (a * b) (c * d)
unfolding mul
mul_value f nan y s t a c b d C D h k = absurd h
mul_value f (inf i) y s t a c b d C D h k = absurd h
mul_value f (fin i m e) nan s t a c b d C D h k = absurd k
mul_value f (fin i m e) (inf j) s t a c b d C D h k = absurd k
mul_value f (fin i m e) (fin j n g) s t a c b d C D h k =
    ap (λ (u : Bool). round f (unlike u j) (m * up e * (n * up g)) (down e * down g)) h.0
    ∙ ap (λ (u : Bool). round f (unlike s u) (m * up e * (n * up g)) (down e * down g)) k.0
    ∙ round_same f (unlike s t) (m * up e * (n * up g)) (down e * down g) (a * b) (c * d) (mul-pos (down_pos e) (down_pos g)) (mul-pos C D)
    (cross (m * up e) (n * up g) c d a b (down e) (down g) h.1 k.1)

swap4 : (p y d a x q c b : ℕ) → p * c ≡ a * x → q * d ≡ b * y → p * y * (c * b) ≡ a * d * (q * x)
swap4 p y d a x q c b h k =
    mul-mul-mul_comm p y c b
    ∙ ap (λ (z : ℕ). z * (y * b)) h
    ∙ ap (λ (z : ℕ). a * x * z) (mul_comm y b ∙ sym k ∙ mul_comm q d)
    ∙ mul-mul-mul_comm a x d q
    ∙ ap (λ (z : ℕ). a * d * z) (mul_comm x q)

apart : (n u d b w : ℕ) → 0 < b → 0 < w → n * u * d ≡ b * w → eqb n 0 ≡ false
apart zero u d b w B W e = absurd (lt_irrefl 0 (subst (λ (z : ℕ). 0 < z) (sym e ∙ ap (λ (z : ℕ). z * d) (zero-mul u) ∙ zero-mul d) (mul-pos B W)))
apart (suc n) u d b w B W e = ap compare_is_eq (compare.suc-zero n)

pub div_value : (f : Format) (x y : Float) (s t : Bool) (a c b d : ℕ) → 0 < c → 0 < d → 0 < b → HasValue x s a c → HasValue y t b d
    → div f x y ≡ round f (unlike s t) (a * d) (c * b)
unfolding div
div_value f nan y s t a c b d C D B h k = absurd h
div_value f (inf i) y s t a c b d C D B h k = absurd h
div_value f (fin i m e) nan s t a c b d C D B h k = absurd k
div_value f (fin i m e) (inf j) s t a c b d C D B h k = absurd k
div_value f (fin i m e) (fin j n g) s t a c b d C D B h k =
    ap (λ (z : Bool). cond z (cond (eqb m 0) nan (inf (unlike i j))) (round f (unlike i j) (m * up e * down g) (n * up g * down e))) (apart n (up g) d b (down g) B (down_pos g) k.1)
    ∙ ap (λ (u : Bool). round f (unlike u j) (m * up e * down g) (n * up g * down e)) h.0
    ∙ ap (λ (u : Bool). round f (unlike s u) (m * up e * down g) (n * up g * down e)) k.0
    ∙ round_same f (unlike s t) (m * up e * down g) (n * up g * down e) (a * d) (c * b) pos_den (mul-pos C B)
    (swap4 (m * up e) (down g) d a (down e) (n * up g) c b h.1 k.1)
  where
    nonzero : (n : ℕ) → eqb n 0 ≡ false → 0 < n
    nonzero zero e = absurd (subst T e tt)
    nonzero (suc n) e = zero-lt-suc n

    pos_den : 0 < n * up g * down e
    pos_den = mul-pos (mul-pos (nonzero n (apart n (up g) d b (down g) B (down_pos g) k.1)) (up_pos g)) (down_pos e)

-- The test for integers takes exactly the lines of integers.
use Rattle.std.proofs.Common.{◌≡◌, ℕ, suc, ◌-◌, ◌^◌, ◌<◌, Bool, true, false, cond, eqb, ltb, List, [], ◌∷◌, ℤ, pos, negsuc, Some, None, refl, ap, ⊎_elim, arith}
use Rattle.std.proofs.lemmas.Bool.{cases_Bool, and_parts, ltb-true, lt-ltb, leb-true, le-leb, eqb-true, false≢true}
use Rattle.std.proofs.lemmas.Bool.Decides.{nat_tests}
use Rattle.numerals.specs.Plain.{Plain, plain, value}
use Rattle.numerals.specs.Integer.{Integer, integer, unsigned_of, minus_of}
use Rattle.numerals.specs.Integer.Integer.{unsigned, minus}
use Rattle.numerals.specs.Theorems.{IntegersAgree}

-- a test that gives something has passed
from_some : {A : Type 0} (t : Bool) (x y : A) → cond t (Some x) None ≡ Some y → (t ≡ true) × (x ≡ y)
from_some true x y e = (refl, cc)
from_some false x y e = absurd cc

unsigned_sound : (c : List ℕ) (z : ℤ) → unsigned_of c ≡ Some z → Integer z c
unsigned_sound c z e =
    let (t, is) = from_some _ _ _ e in
    let p = and_parts (plain c) _ t in
    rw (← is) (unsigned (p.0, refl) (ltb-true _ _ p.1))

minus_sound : (c : List ℕ) (z : ℤ) → minus_of c ≡ Some z → Integer z (45 ∷ c)
minus_sound c z e =
    let (t, is) = from_some _ _ _ e in
    let p = and_parts (plain c) _ t in
    let q = and_parts (ltb 0 (value c)) _ p.1 in
    let low = ltb-true 0 (value c) q.0 in
    let high = leb-true (value c) (2 ^ 63) q.1 in
    rw (← is) (minus {n = value c - 1} {c = c} (p.0, omega arith) (omega arith))

sound : (z : ℤ) (c : List ℕ) → integer c ≡ Some z → Integer z c
sound z [] e = let n : ◌≡◌ {A = ℕ} 0 1 = cc in absurd (omega arith)
sound z (b ∷ c) e =
    ⊎_elim
    (λ t. rw (eqb-true b 45 t) (minus_sound c z (rw t at e)))
    (λ t. unsigned_sound (b ∷ c) z (rw t at e))
    (cases_Bool (eqb b 45))

-- a plain number begins with a digit
plain_front_lem : (b : ℕ) (c : List ℕ) → plain (b ∷ c) ≡ true → eqb b 45 ≡ false
plain_front_lem b [] t = grind (arith, nat_tests)
plain_front_lem b (d ∷ c) t = grind (arith, nat_tests)

unsigned_complete : (n : ℕ) (c : List ℕ) → Plain n c → n < 2 ^ 63 → integer c ≡ Some (pos n)
unsigned_complete n [] p lt = absurd (false≢true p.0)
unsigned_complete n (b ∷ c) p lt = rw (plain_front_lem b c p.0, p.0, p.1, lt-ltb n (2 ^ 63) lt)

complete : {z : ℤ} {c : List ℕ} → Integer z c → integer c ≡ Some z
complete (unsigned {n} {c} p lt) = unsigned_complete n c p lt
complete (minus {n} {c} p le) = rw (p.0, p.1, lt-ltb 0 (suc n) (omega arith), le-leb (suc n) (2 ^ 63) le) (ap (λ k. Some (negsuc k)) (omega arith))

pub integers_agree : IntegersAgree
integers_agree z c = (sound z c, complete)

-- The function on text tells exactly the whole numbers that the rules describe.
use Rattle.std.proofs.Common.{◌≡◌, ℕ, Bool, true, false, cond, ◌&&◌, eqb, List, [], ◌∷◌, ℤ, pos, neg_ℤ, Some, None, refl, ◌∙◌, ⊎_elim, arith}
use Rattle.std.specs.Char.{is_ascii_digit}
use Rattle.std.proofs.lemmas.Bool.{cases_Bool, and_parts, and_right, eqb-true, false≢true}
use Rattle.std.proofs.lemmas.Bool.Decides.{nat_tests}
use Rattle.numerals.specs.Plain.{value}
use Rattle.numerals.specs.Double.{Digits}
use Rattle.decimals.specs.Whole.{Whole, is_digits, natural_in, some_signed, whole_in, with_sign}
use Rattle.decimals.specs.Whole.Whole.{no_sign, plus, minus}
use Rattle.decimals.specs.Theorems.{WholesAgree}

digits_sound : (c : List ℕ) → is_digits c ≡ true → Digits c
digits_sound [] t = absurd (false≢true t)
digits_sound (b ∷ c) t = record { all = t; some = omega arith }

pub digits_complete : (c : List ℕ) → Digits c → is_digits c ≡ true
digits_complete [] g = let some = g.some in absurd (omega arith)
digits_complete (b ∷ c) g = g.all

-- a number that is given was written by digits
signed_sound : (negative : Bool) (c : List ℕ) (z : ℤ) → some_signed negative (natural_in c) ≡ Some z → Digits c × (with_sign negative (value c) ≡ z)
signed_sound negative c z e = by (is_digits c) (digits_sound c) e
  where
    by : (t : Bool) → (t ≡ true → Digits c) → some_signed negative (cond t (Some (value c)) None) ≡ Some z → Digits c × (with_sign negative (value c) ≡ z)
    by true d e = (d refl, cc)
    by false d e = let n : ◌≡◌ {A = ℕ} 0 1 = cc in absurd (omega arith)

unsigned_sound : (signed : Bool) (z : ℤ) (b : ℕ) (c : List ℕ) → (signed && eqb b 45) ≡ false → whole_in signed (b ∷ c) ≡ Some z → Whole signed z (b ∷ c)
unsigned_sound signed z b c t e =
    ⊎_elim
    (λ u.
    let same : some_signed false (natural_in c) ≡ whole_in signed (b ∷ c) = rw t (rw u) in
    let (d, is) = signed_sound false c z (same ∙ e) in
    rw (eqb-true b 43 u, ← is) (plus d))
    (λ u.
    let same : some_signed false (natural_in (b ∷ c)) ≡ whole_in signed (b ∷ c) = rw t (rw u) in
    let (d, is) = signed_sound false (b ∷ c) z (same ∙ e) in
    rw (← is) (no_sign d))
    (cases_Bool (eqb b 43))

sound : (signed : Bool) (z : ℤ) (c : List ℕ) → whole_in signed c ≡ Some z → Whole signed z c
sound true z [] e = let n : ◌≡◌ {A = ℕ} 0 1 = cc in absurd (omega arith)
sound false z [] e = let n : ◌≡◌ {A = ℕ} 0 1 = cc in absurd (omega arith)
sound signed z (b ∷ c) e =
    ⊎_elim
    (λ t. let p = and_parts signed _ t in let (d, is) = signed_sound true c z (rw t at e) in rw (eqb-true b 45 p.1, ← is) (minus p.0 d))
    (λ t. unsigned_sound signed z b c t e)
    (cases_Bool (signed && eqb b 45))

-- a digit is no sign
no_sign_front : (b : ℕ) → is_ascii_digit b ≡ true → (eqb b 45 ≡ false) × (eqb b 43 ≡ false)
no_sign_front b t = (grind (arith, nat_tests), grind (arith, nat_tests))

no_sign_complete : (signed : Bool) (c : List ℕ) → Digits c → whole_in signed c ≡ Some (pos (value c))
no_sign_complete signed [] d = let some = d.some in absurd (omega arith)
no_sign_complete signed (b ∷ c) d =
    let n = no_sign_front b (and_parts (is_ascii_digit b) _ d.all).0 in
    let all = d.all in
    rw (and_right signed _ n.0, n.1, all)

plus_complete : (signed : Bool) (c : List ℕ) → Digits c → whole_in signed (43 ∷ c) ≡ Some (pos (value c))
plus_complete true c d = rw (digits_complete c d)
plus_complete false c d = rw (digits_complete c d)

minus_complete : (signed : Bool) (c : List ℕ) → signed ≡ true → Digits c → whole_in signed (45 ∷ c) ≡ Some (neg_ℤ (pos (value c)))
minus_complete true c is d = rw (digits_complete c d)
minus_complete false c is d = absurd (false≢true is)

complete : {signed : Bool} {z : ℤ} {c : List ℕ} → Whole signed z c → whole_in signed c ≡ Some z
complete {signed = s} (no_sign {c} d) = no_sign_complete s c d
complete {signed = s} (plus {c} d) = plus_complete s c d
complete {signed = s} (minus {c} is d) = minus_complete s c is d

pub wholes_agree : WholesAgree
wholes_agree signed z c = (sound signed z c, complete)

-- The function on text tells exactly the decimal numbers and the words that the rules describe.
use Rattle.std.proofs.Common.{◌≡◌, ℕ, Bool, true, false, cond, ◌&&◌, ◌||◌, eqb, ◌⊎◌, List, [], ◌∷◌, ◌++◌, length, ℤ, pos, ◌-ℤ◌, Some, None, codes, Option, sym, refl, ap, ◌∙◌, subst, inl, inr, ⊎_elim, arith}
use Rattle.std.specs.Char.{is_ascii_digit, to_ascii_lowercase}
use Rattle.std.specs.Float.Parse.{lowercases_to}
use Rattle.std.specs.Str.{all_ascii_digits}
use Rattle.std.proofs.lemmas.List.{append_assoc, append-nil}
use Rattle.std.proofs.lemmas.Bool.{cases_Bool, and_parts, and_from, or_cases, or_left, or_right, or_from, eqb-true, false≢true}
use Rattle.std.proofs.lemmas.Bool.Decides.{nat_tests}
use Rattle.numerals.specs.Front.{starts_with}
use Rattle.numerals.specs.Plain.{value}
use Rattle.numerals.specs.Double.{Digits, after_digits, after_sign, is_empty, starts_with_digit}
use Rattle.decimals.specs.Decimal.{Decimal, Mantissa, Power, Signed, Spelled, Word, after_fraction, float_in, fraction_in, front_digits, is_word, number_in, power_in, said, scaled, shifted}
use Rattle.decimals.specs.Decimal.Signed.{no_sign, plus, minus}
use Rattle.decimals.specs.Decimal.Mantissa.{whole, point}
use Rattle.decimals.specs.Decimal.Power.{no_power, small_e, large_e}
use Rattle.decimals.specs.Decimal.Decimal.{decimal}
use Rattle.decimals.specs.Decimal.Word.{word}
use Rattle.decimals.specs.Decimal.Said.{a_word, number}
use Rattle.decimals.specs.Theorems.{DecimalsAgree, WordsAgree}
use Rattle.decimals.proofs.WholeRules.{wholes_agree}
use Rattle.decimals.proofs.DigitSteps.{front_rest}
use Rattle.decimals.proofs.Spellings.{spells_sound, spells_complete}

-- The power of ten.

power_sound : (z : ℤ) (c : List ℕ) → power_in c ≡ Some z → Power z c
power_sound z [] e = let is : pos 0 ≡ z = cc in rw (← is) no_power
power_sound z (b ∷ c) e = by (cases_Bool (eqb b 101 || eqb b 69))
  where
    by : ((eqb b 101 || eqb b 69) ≡ true) ⊎ ((eqb b 101 || eqb b 69) ≡ false) → Power z (b ∷ c)
    by (inl t) =
        let w = (wholes_agree true z c).0 (rw t at e) in
        ⊎_elim (λ h. rw (eqb-true b 101 h) (small_e w)) (λ h. rw (eqb-true b 69 h) (large_e w)) (or_cases _ _ t)
    by (inr t) = let none : None ≡ Some z = rw t at e in let n : ◌≡◌ {A = ℕ} 0 1 = cc in absurd (omega arith)

power_complete : {z : ℤ} {c : List ℕ} → Power z c → power_in c ≡ Some z
power_complete no_power = refl
power_complete (small_e {z} {c} w) = (wholes_agree true z c).1 w
power_complete (large_e {z} {c} w) = (wholes_agree true z c).1 w

power_front : {z : ℤ} {c : List ℕ} → Power z c → (starts_with_digit c ≡ false) × (starts_with 46 c ≡ false)
power_front no_power = (refl, refl)
power_front (small_e w) = (refl, refl)
power_front (large_e w) = (refl, refl)

-- The digits.

front_all : (c : List ℕ) → all_ascii_digits (front_digits c) ≡ true
front_all [] = refl
front_all (b ∷ c) = ⊎_elim (λ t. rw t (rw t (front_all c))) (λ t. rw t) (cases_Bool (is_ascii_digit b))

all_both : (w f : List ℕ) → all_ascii_digits w ≡ true → all_ascii_digits f ≡ true → all_ascii_digits (w ++ f) ≡ true
all_both [] f a b = b
all_both (x ∷ w) f a b = let p = and_parts (is_ascii_digit x) _ a in and_from _ _ p.0 (all_both w f p.1 b)

all_left : (w f : List ℕ) → all_ascii_digits (w ++ f) ≡ true → all_ascii_digits w ≡ true
all_left [] f a = refl
all_left (x ∷ w) f a = let p = and_parts (is_ascii_digit x) _ a in and_from _ _ p.0 (all_left w f p.1)

all_right : (w f : List ℕ) → all_ascii_digits (w ++ f) ≡ true → all_ascii_digits f ≡ true
all_right [] f a = a
all_right (x ∷ w) f a = all_right w f (and_parts (is_ascii_digit x) _ a).1

digits_both : (w f : List ℕ) → all_ascii_digits w ≡ true → all_ascii_digits f ≡ true → (is_empty w && is_empty f) ≡ false → Digits (w ++ f)
digits_both [] [] a b some = absurd (false≢true (sym some))
digits_both [] (x ∷ f) a b some = record { all = b; some = omega arith }
digits_both (x ∷ w) f a b some = record { all = all_both (x ∷ w) f a b; some = omega arith }

some_digit : (w f : List ℕ) → Digits (w ++ f) → (is_empty w && is_empty f) ≡ false
some_digit [] [] g = let some = g.some in absurd (omega arith)
some_digit [] (x ∷ f) g = refl
some_digit (x ∷ w) f g = refl

past_digits : (w c : List ℕ) → all_ascii_digits w ≡ true → starts_with_digit c ≡ false → (front_digits (w ++ c) ≡ w) × (after_digits (w ++ c) ≡ c)
past_digits [] [] all stop = (refl, refl)
past_digits [] (b ∷ c) all stop = (rw stop, rw stop)
past_digits (b ∷ w) c all stop =
    let p = and_parts (is_ascii_digit b) _ all in
    let q = past_digits w c p.1 stop in
    (rw p.0 (ap (λ l. b ∷ l) q.0), rw p.0 q.1)

-- The number.

record Numbered (d : ℕ) (q : ℤ) (c : List ℕ) : Type 0 where
  w : List ℕ
  f : List ℕ
  m : List ℕ
  p : List ℕ
  z : ℤ
  mantissa : Mantissa w f m
  power : Power z p
  is : c ≡ m ++ p
  digits : value (w ++ f) ≡ d
  at : z -ℤ pos (length f) ≡ q

record Scaled (w f c : List ℕ) (d : ℕ) (q : ℤ) : Type 0 where
  some : (is_empty w && is_empty f) ≡ false
  z : ℤ
  power : power_in c ≡ Some z
  digits : value (w ++ f) ≡ d
  at : z -ℤ pos (length f) ≡ q

scaled_sound : (w f c : List ℕ) (d : ℕ) (q : ℤ) → scaled w f c ≡ Some (d, q) → Scaled w f c d q
scaled_sound w f c d q e = by (is_empty w && is_empty f) refl (power_in c) refl e
  where
    by : (t : Bool) → (is_empty w && is_empty f) ≡ t → (o : Option ℤ) → power_in c ≡ o → cond t None (shifted w f o) ≡ Some (d, q) → Scaled w f c d q
    by true t o h e = let n : ◌≡◌ {A = ℕ} 0 1 = cc in absurd (omega arith)
    by false t None h e = let n : ◌≡◌ {A = ℕ} 0 1 = cc in absurd (omega arith)
    by false t (Some z) h e =
        let both : ◌≡◌ {A = ℕ × ℤ} (value (w ++ f), z -ℤ pos (length f)) (d, q) = cc in
        record { some = t; z = z; power = h; digits = ap (λ x. x.0) both; at = ap (λ x. x.1) both }

whole_sound : (w c : List ℕ) (d : ℕ) (q : ℤ) → all_ascii_digits w ≡ true → scaled w [] c ≡ Some (d, q) → Numbered d q (w ++ c)
whole_sound w c d q all e =
    let s = scaled_sound w [] c d q e in
    let g : Digits w = rw append-nil at (digits_both w [] all refl s.some) in
    record { w = w; f = []; m = w; p = c; z = s.z; mantissa = whole g; power = power_sound s.z c s.power; is = refl; digits = s.digits; at = s.at }

point_sound : (w f c : List ℕ) (d : ℕ) (q : ℤ) → all_ascii_digits w ≡ true → all_ascii_digits f ≡ true → scaled w f c ≡ Some (d, q) → Numbered d q (w ++ (46 ∷ (f ++ c)))
point_sound w f c d q a b e =
    let s = scaled_sound w f c d q e in
    record {
      w = w;
      f = f;
      m = w ++ (46 ∷ f);
      p = c;
      z = s.z;
      mantissa = point (digits_both w f a b s.some);
      power = power_sound s.z c s.power;
      is = sym (append_assoc w (46 ∷ f) c);
      digits = s.digits;
      at = s.at;
    }

rest_sound : (w r : List ℕ) (d : ℕ) (q : ℤ) → all_ascii_digits w ≡ true → scaled w (fraction_in r) (after_fraction r) ≡ Some (d, q) → Numbered d q (w ++ r)
rest_sound w [] d q all e = whole_sound w [] d q all e
rest_sound w (b ∷ r) d q all e =
    ⊎_elim
    (λ t.
    let n = point_sound w (front_digits r) (after_digits r) d q all (front_all r) (rw t at e) in
    rw (eqb-true b 46 t) (rw front_rest at n))
    (λ t. whole_sound w (b ∷ r) d q all (rw t at e))
    (cases_Bool (eqb b 46))

number_sound : (c : List ℕ) (d : ℕ) (q : ℤ) → number_in c ≡ Some (d, q) → Numbered d q c
number_sound c d q e = subst (Numbered d q) (front_rest c) (rest_sound (front_digits c) (after_digits c) d q (front_all c) e)

number_is : (c w r f p : List ℕ) → front_digits c ≡ w → after_digits c ≡ r → fraction_in r ≡ f → after_fraction r ≡ p → number_in c ≡ scaled w f p
number_is c w r f p e g h k =
    ap (λ l. scaled l (fraction_in (after_digits c)) (after_fraction (after_digits c))) e
    ∙ ap (λ l. scaled w (fraction_in l) (after_fraction l)) g
    ∙ ap (λ l. scaled w l (after_fraction r)) h
    ∙ ap (λ l. scaled w f l) k

scaled_complete : (w f c : List ℕ) (z : ℤ) → Digits (w ++ f) → power_in c ≡ Some z → scaled w f c ≡ Some (value (w ++ f), z -ℤ pos (length f))
scaled_complete w f c z g e = ap (λ t. cond t None (shifted w f (power_in c))) (some_digit w f g) ∙ ap (shifted w f) e

number_complete : {w f m p : List ℕ} {z : ℤ} → Mantissa w f m → Power z p → number_in (m ++ p) ≡ Some (value (w ++ f), z -ℤ pos (length f))
number_complete {p = p} {z = z} (whole {w} g) power =
    let front = power_front power in
    let past = past_digits w p g.all front.0 in
    number_is (w ++ p) w p [] p past.0 past.1 (rw front.1) (rw front.1)
    ∙ scaled_complete w [] p z (rw append-nil g) (power_complete power)
number_complete {p = p} {z = z} (point {w} {f} g) power =
    let past = past_digits w (46 ∷ (f ++ p)) (all_left w f g.all) refl in
    let more = past_digits f p (all_right w f g.all) (power_front power).0 in
    ap number_in (append_assoc w (46 ∷ f) p)
    ∙ number_is (w ++ (46 ∷ (f ++ p))) w (46 ∷ (f ++ p)) f p past.0 past.1 more.0 more.1
    ∙ scaled_complete w f p z g (power_complete power)

-- The sign.

sign_front : (c : List ℕ) → (a : List ℕ) × Signed (starts_with 45 c) a × (c ≡ a ++ after_sign c)
sign_front [] = ([], no_sign, refl)
sign_front (b ∷ c) = by (cases_Bool (eqb b 45)) (cases_Bool (eqb b 43))
  where
    by : (eqb b 45 ≡ true) ⊎ (eqb b 45 ≡ false) → (eqb b 43 ≡ true) ⊎ (eqb b 43 ≡ false) → (a : List ℕ) × Signed (eqb b 45) a × ((b ∷ c) ≡ a ++ after_sign (b ∷ c))
    by (inl t) u =
        let e = eqb-true b 45 t in
        (45 ∷ [], rw t minus, rw (or_right (eqb b 43) _ t) (ap (λ x. x ∷ c) e))
    by (inr t) (inl u) =
        let e = eqb-true b 43 u in
        (43 ∷ [], rw t plus, rw (or_left _ (eqb b 45) u) (ap (λ x. x ∷ c) e))
    by (inr t) (inr u) = ([], rw t no_sign, rw (or_from _ _ u t))

sign_past : {s : Bool} {a : List ℕ} → Signed s a → (u : List ℕ) → starts_with 43 u ≡ false → starts_with 45 u ≡ false → (after_sign (a ++ u) ≡ u) × (starts_with 45 (a ++ u) ≡ s)
sign_past no_sign u p m = (rw (p, m), m)
sign_past plus u p m = (refl, refl)
sign_past minus u p m = (refl, refl)

-- What a text says.

said_number : (t s : Bool) (o : Option (ℕ × ℤ)) (d : ℕ) (q : ℤ) → said t o ≡ number s d q → (t ≡ s) × (o ≡ Some (d, q))
said_number t s None d q e = let n : ◌≡◌ {A = ℕ} 0 1 = cc in absurd (omega arith)
said_number t s (Some (e, r)) d q h =
    let x : e ≡ d = cc in
    let y : r ≡ q = cc in
    (cc, ap (λ k. Some (k, r)) x ∙ ap (λ k. Some (d, k)) y)

said_no_word : (t : Bool) (o : Option (ℕ × ℤ)) → said t o ≡ a_word → ⊥
said_no_word t None e = let n : ◌≡◌ {A = ℕ} 0 1 = cc in omega arith
said_no_word t (Some (d, q)) e = let n : ◌≡◌ {A = ℕ} 0 1 = cc in omega arith

decimal_from : {s : Bool} {d : ℕ} {q : ℤ} {a u : List ℕ} (c : List ℕ) → Signed s a → Numbered d q u → c ≡ a ++ u → Decimal s d q c
decimal_from {a = a} c sign n e = rw (e ∙ ap (λ l. a ++ l) n.is, ← n.digits, ← n.at) (decimal sign n.mantissa n.power)

decimal_sound : (s : Bool) (d : ℕ) (q : ℤ) (c : List ℕ) → float_in c ≡ number s d q → Decimal s d q c
decimal_sound s d q c e = by (is_word (after_sign c)) e
  where
    by : (t : Bool) → cond t a_word (said (starts_with 45 c) (number_in (after_sign c))) ≡ number s d q → Decimal s d q c
    by true e = let n : ◌≡◌ {A = ℕ} 0 1 = cc in absurd (omega arith)
    by false e =
        let p = said_number (starts_with 45 c) s (number_in (after_sign c)) d q e in
        let (a, sign, is) = sign_front c in
        decimal_from c (subst (λ t. Signed t a) p.0 sign) (number_sound (after_sign c) d q p.1) is

float_is : (c u : List ℕ) (s : Bool) (o : Option (ℕ × ℤ)) → after_sign c ≡ u → starts_with 45 c ≡ s → is_word u ≡ false → number_in u ≡ o → float_in c ≡ said s o
float_is c u s o e g h k =
    ap (λ l. cond (is_word l) a_word (said (starts_with 45 c) (number_in l))) e
    ∙ ap (λ t. cond t a_word (said (starts_with 45 c) (number_in u))) h
    ∙ ap (λ t. said t (number_in u)) g
    ∙ ap (said s) k

-- a number begins with a digit or a point
record Begins (c : List ℕ) : Type 0 where
  no_plus : starts_with 43 c ≡ false
  no_minus : starts_with 45 c ≡ false
  no_word : is_word c ≡ false

begins : (b : ℕ) (c : List ℕ) → (is_ascii_digit b || eqb b 46) ≡ true → Begins (b ∷ c)
begins b c t =
    let i : eqb (to_ascii_lowercase b) 105 ≡ false = grind (arith, nat_tests) in
    let n : eqb (to_ascii_lowercase b) 110 ≡ false = grind (arith, nat_tests) in
    record { no_plus = grind (arith, nat_tests); no_minus = grind (arith, nat_tests); no_word = rw (i, n) }

whole_begins : (w p : List ℕ) → Digits w → Begins (w ++ p)
whole_begins [] p g = let some = g.some in absurd (omega arith)
whole_begins (b ∷ w) p g = begins b (w ++ p) (or_left _ _ (and_parts (is_ascii_digit b) _ g.all).0)

point_begins : (w f p : List ℕ) → Digits (w ++ f) → Begins ((w ++ (46 ∷ f)) ++ p)
point_begins [] f p g = begins 46 (f ++ p) refl
point_begins (b ∷ w) f p g = begins b ((w ++ (46 ∷ f)) ++ p) (or_left _ _ (and_parts (is_ascii_digit b) _ g.all).0)

mantissa_begins : {w f m : List ℕ} → Mantissa w f m → (p : List ℕ) → Begins (m ++ p)
mantissa_begins (whole {w} g) p = whole_begins w p g
mantissa_begins (point {w} {f} g) p = point_begins w f p g

decimal_complete : {s : Bool} {d : ℕ} {q : ℤ} {c : List ℕ} → Decimal s d q c → float_in c ≡ number s d q
decimal_complete (decimal {s} {z} {a} {w} {f} {m} {p} sign mantissa power) =
    let first = mantissa_begins mantissa p in
    let past = sign_past sign (m ++ p) first.no_plus first.no_minus in
    float_is (a ++ (m ++ p)) (m ++ p) s (Some (value (w ++ f), z -ℤ pos (length f))) past.0 past.1 first.no_word (number_complete mantissa power)

-- Words.

spelled_sound : (c : List ℕ) → is_word c ≡ true → Spelled c
spelled_sound c t =
    ⊎_elim (λ h. inl (spells_sound c (codes "inf") h))
    (λ h. inr (⊎_elim (λ k. inl (spells_sound c (codes "infinity") k)) (λ k. inr (spells_sound c (codes "nan") k)) (or_cases _ _ h)))
    (or_cases _ _ t)

spelled_complete : (c : List ℕ) → Spelled c → is_word c ≡ true
spelled_complete c (inl h) = or_left _ _ (spells_complete c (codes "inf") h)
spelled_complete c (inr (inl h)) = or_right (lowercases_to c (codes "inf")) _ (or_left _ _ (spells_complete c (codes "infinity") h))
spelled_complete c (inr (inr h)) = or_right (lowercases_to c (codes "inf")) _ (or_right (lowercases_to c (codes "infinity")) _ (spells_complete c (codes "nan") h))

first_letter : (i n x y z : Bool) → ((i && x) || ((i && y) || (n && z))) ≡ true → (i || n) ≡ true
first_letter true n x y z t = refl
first_letter false true x y z t = refl
first_letter false false x y z t = t

letter_no_sign : (b : ℕ) → (eqb (to_ascii_lowercase b) 105 || eqb (to_ascii_lowercase b) 110) ≡ true → (eqb b 43 ≡ false) × (eqb b 45 ≡ false)
letter_no_sign b t = (grind (arith, nat_tests), grind (arith, nat_tests))

word_no_sign : (c : List ℕ) → is_word c ≡ true → (starts_with 43 c ≡ false) × (starts_with 45 c ≡ false)
word_no_sign [] t = (refl, refl)
word_no_sign (b ∷ c) t = letter_no_sign b (first_letter (eqb (to_ascii_lowercase b) 105) (eqb (to_ascii_lowercase b) 110) _ _ _ t)

word_sound : (c : List ℕ) → float_in c ≡ a_word → Word c
word_sound c e = by (is_word (after_sign c)) refl e
  where
    by : (t : Bool) → is_word (after_sign c) ≡ t → cond t a_word (said (starts_with 45 c) (number_in (after_sign c))) ≡ a_word → Word c
    by true t e = let (a, sign, is) = sign_front c in subst Word (sym is) (word sign (after_sign c) (spelled_sound (after_sign c) t))
    by false t e = absurd (said_no_word (starts_with 45 c) (number_in (after_sign c)) e)

word_complete : {c : List ℕ} → Word c → float_in c ≡ a_word
word_complete (word {s} {a} sign c w) =
    let t = spelled_complete c w in
    let front = word_no_sign c t in
    let past = sign_past sign c front.0 front.1 in
    ap (λ u. cond u a_word (said (starts_with 45 (a ++ c)) (number_in (after_sign (a ++ c))))) (ap is_word past.0 ∙ t)

pub decimals_agree : DecimalsAgree
decimals_agree s d q c = (decimal_sound s d q c, decimal_complete)

pub words_agree : WordsAgree
words_agree c = (word_sound c, word_complete)

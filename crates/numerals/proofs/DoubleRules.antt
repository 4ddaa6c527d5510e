-- The tests for doubles and big numbers take exactly their lines.
use Rattle.std.proofs.Common.{◌≡◌, ℕ, Bool, true, false, ◌&&◌, ◌||◌, eqb, ◌↔◌, List, [], ◌∷◌, ◌++◌, refl, ap, ◌∙◌, ⊎_elim, arith}
use Rattle.std.specs.Char.{is_ascii_digit}
use Rattle.std.specs.Str.{all_ascii_digits}
use Rattle.std.proofs.lemmas.List.{append-nil}
use Rattle.std.proofs.lemmas.Bool.{cases_Bool, and_parts, and_from, or_cases, or_right, eqb-true, false≢true}
use Rattle.std.proofs.lemmas.Bool.Decides.{nat_tests}
use Rattle.numerals.specs.Double.{Sign, Digits, Fraction, Exponent, Double, BigNumber, after_sign, after_digits, starts_with_digit, digits_then, is_empty, is_exponent, is_fraction, is_word, is_double, is_big_number}
use Rattle.numerals.specs.Double.Sign.{no_sign, plus_sign, minus_sign}
use Rattle.numerals.specs.Double.Fraction.{no_fraction, point}
use Rattle.numerals.specs.Double.Exponent.{no_exponent, small_e, large_e}
use Rattle.numerals.specs.Double.Double.{infinity, minus_infinity, not_a_number, finite}
use Rattle.numerals.specs.Double.BigNumber.{big}
use Rattle.numerals.specs.Theorems.{DoublesAgree, BigNumbersAgree}

-- What passes the tests has the form.

sign_front : (c : List ℕ) → (s : List ℕ) × Sign s × (c ≡ s ++ after_sign c)
sign_front [] = ([], no_sign, refl)
sign_front (b ∷ c) =
    ⊎_elim
    (λ t. (b ∷ [], ⊎_elim (λ e. rw (eqb-true b 43 e) plus_sign) (λ e. rw (eqb-true b 45 e) minus_sign) (or_cases _ _ t), rw t))
    (λ t. ([], no_sign, rw t))
    (cases_Bool (eqb b 43 || eqb b 45))

digits_front : (c : List ℕ) → (d : List ℕ) × (all_ascii_digits d ≡ true) × (c ≡ d ++ after_digits c)
digits_front [] = ([], refl, refl)
digits_front (b ∷ c) =
    ⊎_elim
    (λ t. let (d, all, e) = digits_front c in (b ∷ d, and_from _ _ t all, rw t (ap (λ l. b ∷ l) e)))
    (λ t. ([], refl, rw t))
    (cases_Bool (is_ascii_digit b))

some_digits : (c : List ℕ) → starts_with_digit c ≡ true → (d : List ℕ) × Digits d × (c ≡ d ++ after_digits c)
some_digits [] t = absurd (false≢true t)
some_digits (b ∷ c) t =
    let (d, all, e) = digits_front c in
    (b ∷ d, record { all = and_from _ _ t all; some = omega arith }, rw t (ap (λ l. b ∷ l) e))

-- a sign, digits and what `rest` takes
record Signed (rest : List ℕ → Bool) (c : List ℕ) : Type 0 where
  front : List ℕ
  middle : List ℕ
  end : List ℕ
  sign : Sign front
  digits : Digits middle
  passes : rest end ≡ true
  is : c ≡ front ++ (middle ++ end)

signed_sound : (rest : List ℕ → Bool) (c : List ℕ) → digits_then rest (after_sign c) ≡ true → Signed rest c
signed_sound rest c t =
    let p = and_parts (starts_with_digit (after_sign c)) _ t in
    let (s, sign, e) = sign_front c in
    let (d, digits, f) = some_digits (after_sign c) p.0 in
    record { front = s; middle = d; end = after_digits (after_sign c); sign = sign; digits = digits; passes = p.1; is = e ∙ ap (λ l. s ++ l) f }

nil_from_empty : (c : List ℕ) → is_empty c ≡ true → c ≡ []
nil_from_empty [] t = refl
nil_from_empty (b ∷ c) t = absurd (false≢true t)

-- a sign and digits, and nothing more
signed_only : (c : List ℕ) → digits_then is_empty (after_sign c) ≡ true → (s : List ℕ) × (d : List ℕ) × Sign s × Digits d × (c ≡ s ++ d)
signed_only c t =
    let g = signed_sound is_empty c t in
    (g.front, g.middle, g.sign, g.digits, g.is ∙ rw (nil_from_empty g.end g.passes, append-nil))

exponent_sound : (c : List ℕ) → is_exponent c ≡ true → Exponent c
exponent_sound [] t = no_exponent
exponent_sound (b ∷ c) t =
    let p = and_parts (eqb b 101 || eqb b 69) _ t in
    let (s, d, sign, digits, e) = signed_only c p.1 in
    ⊎_elim (λ h. rw (eqb-true b 101 h, e) (small_e sign digits)) (λ h. rw (eqb-true b 69 h, e) (large_e sign digits)) (or_cases _ _ p.0)

fraction_sound : (c : List ℕ) → is_fraction c ≡ true → (f : List ℕ) × (e : List ℕ) × Fraction f × Exponent e × (c ≡ f ++ e)
fraction_sound [] t = ([], [], no_fraction, no_exponent, refl)
fraction_sound (b ∷ c) t =
    ⊎_elim
    (λ h.
    let p = and_parts (starts_with_digit c) _ (rw h at t) in
    let (d, digits, e) = some_digits c p.0 in
    (46 ∷ d, after_digits c, point digits, exponent_sound (after_digits c) p.1, let is = eqb-true b 46 h in cc))
    (λ h. ([], b ∷ c, no_fraction, exponent_sound (b ∷ c) (rw h at t), refl))
    (cases_Bool (eqb b 46))

letters : (x y z p q r : ℕ) → (eqb x p && (eqb y q && eqb z r)) ≡ true → (x ∷ y ∷ z ∷ []) ≡ (p ∷ q ∷ r ∷ [])
letters x y z p q r t =
    let (a, s) = and_parts (eqb x p) _ t in
    let (b, c) = and_parts (eqb y q) _ s in
    rw (eqb-true x p a, eqb-true y q b, eqb-true z r c)

word_sound : (c : List ℕ) → is_word c ≡ true → Double c
word_sound [] t = absurd (false≢true t)
word_sound (x ∷ []) t = absurd (false≢true t)
word_sound (x ∷ y ∷ []) t = absurd (false≢true t)
word_sound (x ∷ y ∷ z ∷ []) t =
    ⊎_elim (λ h. rw (letters x y z 105 110 102 h) infinity) (λ h. rw (letters x y z 110 97 110 h) not_a_number) (or_cases _ _ t)
word_sound (x ∷ y ∷ z ∷ w ∷ []) t =
    let p = and_parts (eqb x 45) _ t in
    rw (eqb-true x 45 p.0, letters y z w 105 110 102 p.1) minus_infinity
word_sound (x ∷ y ∷ z ∷ w ∷ v ∷ c) t = absurd (false≢true t)

double_sound : (c : List ℕ) → is_double c ≡ true → Double c
double_sound c t =
    ⊎_elim (word_sound c)
    (λ h.
    let g = signed_sound is_fraction c h in
    let (f, e, fraction, exponent, is) = fraction_sound g.end g.passes in
    rw (g.is, is) (finite g.sign g.digits fraction exponent))
    (or_cases (is_word c) _ t)

big_sound : (c : List ℕ) → is_big_number c ≡ true → BigNumber c
big_sound c t = let (s, d, sign, digits, e) = signed_only c t in rw e (big sign digits)

-- What has the form passes the tests.

past_sign : {s : List ℕ} → Sign s → (c : List ℕ) → starts_with_digit c ≡ true → after_sign (s ++ c) ≡ c
past_sign no_sign [] t = refl
past_sign no_sign (b ∷ c) t = let no : (eqb b 43 || eqb b 45) ≡ false = grind (arith, nat_tests) in rw no
past_sign plus_sign c t = refl
past_sign minus_sign c t = refl

past_digits : (d c : List ℕ) → all_ascii_digits d ≡ true → starts_with_digit c ≡ false → after_digits (d ++ c) ≡ c
past_digits [] [] all stop = refl
past_digits [] (b ∷ c) all stop = rw stop
past_digits (b ∷ d) c all stop = let p = and_parts (is_ascii_digit b) _ all in rw p.0 (past_digits d c p.1 stop)

digits_start : (d c : List ℕ) → Digits d → starts_with_digit (d ++ c) ≡ true
digits_start [] c g = let some = g.some in absurd (omega arith)
digits_start (b ∷ d) c g = (and_parts (is_ascii_digit b) _ g.all).0

digits_complete : (rest : List ℕ → Bool) (d c : List ℕ) → Digits d → starts_with_digit c ≡ false → rest c ≡ true → digits_then rest (d ++ c) ≡ true
digits_complete rest d c g stop t = and_from _ _ (digits_start d c g) (rw (past_digits d c g.all stop) t)

signed_complete : (rest : List ℕ → Bool) (s d c : List ℕ) → Sign s → Digits d → starts_with_digit c ≡ false → rest c ≡ true → digits_then rest (after_sign (s ++ (d ++ c))) ≡ true
signed_complete rest s d c sign g stop t = rw (past_sign sign (d ++ c) (digits_start d c g)) (digits_complete rest d c g stop t)

only_complete : (s d : List ℕ) → Sign s → Digits d → digits_then is_empty (after_sign (s ++ d)) ≡ true
only_complete s d sign g = rw append-nil at (signed_complete is_empty s d [] sign g refl refl)

exponent_stops : {e : List ℕ} → Exponent e → starts_with_digit e ≡ false
exponent_stops no_exponent = refl
exponent_stops (small_e sign g) = refl
exponent_stops (large_e sign g) = refl

exponent_complete : {e : List ℕ} → Exponent e → is_exponent e ≡ true
exponent_complete no_exponent = refl
exponent_complete (small_e sign g) = only_complete _ _ sign g
exponent_complete (large_e sign g) = only_complete _ _ sign g

fraction_stops : {f e : List ℕ} → Fraction f → Exponent e → starts_with_digit (f ++ e) ≡ false
fraction_stops no_fraction x = exponent_stops x
fraction_stops (point g) x = refl

fraction_complete : {f e : List ℕ} → Fraction f → Exponent e → is_fraction (f ++ e) ≡ true
fraction_complete no_fraction no_exponent = refl
fraction_complete no_fraction (small_e sign g) = only_complete _ _ sign g
fraction_complete no_fraction (large_e sign g) = only_complete _ _ sign g
fraction_complete (point {c} g) x = digits_complete is_exponent c _ g (exponent_stops x) (exponent_complete x)

double_complete : {c : List ℕ} → Double c → is_double c ≡ true
double_complete infinity = refl
double_complete minus_infinity = refl
double_complete not_a_number = refl
double_complete (finite {s} {d} {f} {e} sign g x y) =
    or_right (is_word (s ++ (d ++ (f ++ e)))) _ (signed_complete is_fraction s d (f ++ e) sign g (fraction_stops x y) (fraction_complete x y))

big_complete : {c : List ℕ} → BigNumber c → is_big_number c ≡ true
big_complete (big {s} {d} sign g) = only_complete s d sign g

pub doubles_agree : DoublesAgree
doubles_agree c = (double_sound c, double_complete)

pub big_numbers_agree : BigNumbersAgree
big_numbers_agree c = (big_sound c, big_complete)

-- an answer that is the test's answer is right
pub double_rule : (r : Bool) (c : List ℕ) → r ≡ is_double c → (r ≡ true) ↔ Double c
double_rule r c e = rw e (doubles_agree c)

pub big_number_rule : (r : Bool) (c : List ℕ) → r ≡ is_big_number c → (r ≡ true) ↔ BigNumber c
big_number_rule r c e = rw e (big_numbers_agree c)

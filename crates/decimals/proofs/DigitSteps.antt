-- The digits at the front of a text, and the fold that adds digits to a number.
use Rattle.std.proofs.Common.{◌≡◌, ℕ, ◌+◌, ◌-◌, ◌*◌, ◌^◌, ◌≤◌, min, List, [], ◌∷◌, ◌++◌, take, drop, sym, refl, ap, ◌∙◌, ⊎_elim, arith}
use Rattle.std.specs.Char.{is_ascii_digit}
use Rattle.std.proofs.lemmas.List.{append_cancel_right, take-append-drop}
use Rattle.std.proofs.lemmas.Bool.{cases_Bool}
use Rattle.numerals.specs.Plain.{value, value_on}
use Rattle.numerals.specs.Double.{after_digits}
use Rattle.decimals.specs.Decimal.{front_digits}
use Rattle.numerals.proofs.PlainSteps.{cap_early}
use Rattle.std.specs.List.{fold}

pub front_rest : (c : List ℕ) → front_digits c ++ after_digits c ≡ c
front_rest [] = refl
front_rest (b ∷ c) = ⊎_elim (λ t. rw t (ap (λ l. b ∷ l) (front_rest c))) (λ t. rw t) (cases_Bool (is_ascii_digit b))

pub take_front : (c : List ℕ) (n : ℕ) → drop n c ≡ after_digits c → take n c ≡ front_digits c
take_front c n e =
    append_cancel_right (take n c) (front_digits c) (after_digits c) (ap (λ l. take n c ++ l) (sym e) ∙ take-append-drop n c ∙ sym (front_rest c))

-- the number with one more digit behind it, and the cap put on
abbrev pub add_digit : ℕ → ℕ → ℕ
add_digit n b = min (n * 10 + (b - 48)) (2 ^ 64 - 1)

pub folded : (n : ℕ) (c : List ℕ) → n ≤ 2 ^ 64 - 1 → fold add_digit n c ≡ min (value_on n c) (2 ^ 64 - 1)
folded n [] h = omega arith
folded n (b ∷ c) h =
    let k = n * 10 + (b - 48) in
    folded (min k (2 ^ 64 - 1)) c (omega arith) ∙ cap_early k (min k (2 ^ 64 - 1)) c refl

value_append : (n : ℕ) (w f : List ℕ) → value_on n (w ++ f) ≡ value_on (value_on n w) f
value_append n [] f = refl
value_append n (b ∷ w) f = value_append (n * 10 + (b - 48)) w f

-- the digits of both parts, one after the other
pub add_both : (n m : ℕ) (w f : List ℕ) → n ≡ min (value_on 0 w) (2 ^ 64 - 1) → m ≡ min (value_on n f) (2 ^ 64 - 1) → m ≡ min (value (w ++ f)) (2 ^ 64 - 1)
add_both n m w f p q = q ∙ cap_early (value_on 0 w) n f p ∙ ap (λ k. min k (2 ^ 64 - 1)) (sym (value_append 0 w f))

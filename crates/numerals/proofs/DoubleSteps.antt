-- What is left after all digits at the front begins at the first byte that is none.
use Rattle.std.proofs.Common.{◌≡◌, ℕ, suc, ◌+◌, ◌≤◌, Bool, not, List, [], ◌∷◌, length, drop, Option, refl, ap, ◌∙◌, ⊎_elim, arith}
use Rattle.std.specs.Prelude.{position, unwrap_or}
use Rattle.std.specs.Char.{is_ascii_digit}
use Rattle.std.specs.List.{position_or_len}
use Rattle.std.proofs.lemmas.Bool.{cases_Bool, cases_lt, lt-ltb, le-ltb}
use Rattle.std.proofs.lemmas.List.Sums.{prefix_len-le-length}
use Rattle.numerals.specs.Double.{after_digits}

-- whether b is no digit
abbrev pub no_digit : ℕ → Bool
no_digit b = not (is_ascii_digit b)

one_more : (n : ℕ) → 1 + n ≡ suc n
one_more n = omega arith

digits_before : (c : List ℕ) → drop (position_or_len no_digit c) c ≡ after_digits c
digits_before [] = refl
digits_before (b ∷ c) = ⊎_elim (λ t. rw t (ap (λ k. drop k (b ∷ c)) (one_more (position_or_len no_digit c)) ∙ digits_before c)) (λ t. rw t refl) (cases_Bool (is_ascii_digit b))

pub digits_end_lem : (c : List ℕ) (o : Option ℕ) (n : ℕ) → o ≡ position no_digit c → n ≡ unwrap_or o (length c) → drop n c ≡ after_digits c
digits_end_lem c o n e is =
    let first = position_or_len no_digit c in
    let within : first ≤ length c = prefix_len-le-length (λ b. not (no_digit b)) c in
    let same : n ≡ first = ⊎_elim (λ h. is ∙ rw (e, lt-ltb first (length c) h)) (λ h. is ∙ rw (e, le-ltb first (length c) h) (omega arith)) (cases_lt first (length c)) in
    ap (λ k. drop k c) same ∙ digits_before c

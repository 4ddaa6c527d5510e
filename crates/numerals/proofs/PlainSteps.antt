-- The fold that reads a plain number, and what it gives.
use Rattle.std.proofs.Common.{◌≡◌, ℕ, ◌+◌, ◌-◌, ◌*◌, ◌^◌, ◌≤◌, min, true, false, cond, ◌&&◌, List, [], ◌∷◌, Some, None, Option, sym, refl, ap, ⊎_elim, arith}
use Rattle.std.specs.Char.{is_ascii_digit}
use Rattle.std.specs.Str.{all_ascii_digits}
use Rattle.std.proofs.lemmas.Bool.{cases_lt, false≢true}
use Rattle.std.proofs.lemmas.Bool.Decides.{nat_tests}
use Rattle.std.specs.Prelude.{option_and_then}
use Rattle.numerals.proofs.TryFolds.{try_fold}
use Rattle.numerals.specs.Plain.{plain, value_on, capped, plain_front, pushed}

-- what the digits give after the number so far
abbrev pub read_on : ℕ → List ℕ → Option ℕ
read_on = try_fold pushed

-- more digits never make a number smaller
pub value_le : (n : ℕ) (c : List ℕ) → n ≤ value_on n c
value_le n [] = omega arith
value_le n (b ∷ c) = omega (arith, value_le (n * 10 + (b - 48)) c)

-- it makes no difference whether the cap is put on early
pub cap_early : (n m : ℕ) (c : List ℕ) → m ≡ min n (2 ^ 64 - 1) → min (value_on m c) (2 ^ 64 - 1) ≡ min (value_on n c) (2 ^ 64 - 1)
cap_early n m c e =
    ⊎_elim
    (λ h. let s : m ≡ n = omega arith in rw s)
    (λ h. omega (arith, value_le n c, value_le m c))
    (cases_lt n (2 ^ 64 - 1))

read_on_is : (n : ℕ) (c : List ℕ) → n ≤ 2 ^ 64 - 1 → read_on n c ≡ cond (all_ascii_digits c) (Some (min (value_on n c) (2 ^ 64 - 1))) None
read_on_is n [] h = ap Some (omega arith)
read_on_is n (b ∷ c) h =
    let k = n * 10 + (b - 48) in
    let m = min k (2 ^ 64 - 1) in
    let same = cap_early k m c (omega arith) in
    elim (is_ascii_digit b) as (λ t. option_and_then (λ m. read_on m c) (cond t (Some m) None) ≡ cond (t && all_ascii_digits c) (Some (min (value_on k c) (2 ^ 64 - 1))) None)
    [ true ↦ rw (← same) (read_on_is m c (omega arith)) | false ↦ refl ]

-- after a good front only digits are asked for
plain_digits : (c : List ℕ) → plain_front c ≡ true → plain c ≡ all_ascii_digits c
plain_digits [] front = absurd (false≢true front)
plain_digits (b ∷ []) front = grind (arith, nat_tests)
plain_digits (b ∷ d ∷ c) front = grind (arith, nat_tests)

pub read_from : (c : List ℕ) → plain_front c ≡ true → capped c ≡ read_on 0 c
read_from c front = rw (plain_digits c front) (sym (read_on_is 0 c (omega arith)))

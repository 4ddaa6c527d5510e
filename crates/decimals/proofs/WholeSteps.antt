-- The fold that reads digits, and what it gives.
use Rattle.std.proofs.Common.{◌≡◌, ℕ, zero, suc, ◌+◌, ◌-◌, ◌*◌, ◌^◌, ◌<◌, Bool, true, false, cond, ◌&&◌, eqb, ltb, List, [], ◌∷◌, length, nat_abs, Some, None, Option, sym, refl, ⊎_elim, arith}
use Rattle.std.specs.Char.{is_ascii_digit}
use Rattle.std.specs.Str.{all_ascii_digits}
use Rattle.std.proofs.lemmas.Bool.{cases_lt, lt-ltb, le-ltb, and_right, false≢true}
use Rattle.std.specs.Prelude.{option_and_then}
use Rattle.numerals.proofs.TryFolds.{try_fold}
use Rattle.numerals.proofs.PlainSteps.{value_le}
use Rattle.numerals.specs.Plain.{value_on}
use Rattle.decimals.specs.Whole.{natural_capped, pushed, small, some_signed, with_sign}

-- what the digits give after the number so far
abbrev pub read_on : ℕ → List ℕ → Option ℕ
read_on = try_fold pushed

read_on_is : (n : ℕ) (c : List ℕ) → n < 2 ^ 64 → read_on n c ≡ cond (all_ascii_digits c && ltb (value_on n c) (2 ^ 64)) (Some (value_on n c)) None
read_on_is n [] h = rw (lt-ltb n (2 ^ 64) h)
read_on_is n (b ∷ c) h =
    let k = n * 10 + (b - 48) in
    elim (is_ascii_digit b) as (λ t. option_and_then (λ m. read_on m c) (cond (t && ltb k (2 ^ 64)) (Some k) None) ≡ cond ((t && all_ascii_digits c) && ltb (value_on k c) (2 ^ 64)) (Some (value_on k c)) None) [
      | true ↦
          ⊎_elim
          (λ lt. rw (lt-ltb k (2 ^ 64) lt) (read_on_is k c lt))
          (λ ge. rw (le-ltb k (2 ^ 64) ge, and_right (all_ascii_digits c) _ (le-ltb (value_on k c) (2 ^ 64) (omega (arith, value_le k c)))))
          (cases_lt k (2 ^ 64))
      | false ↦ refl
    ]

pub read_from : (c : List ℕ) → eqb (length c) 0 ≡ false → natural_capped c ≡ read_on 0 c
read_from [] some = absurd (false≢true (sym some))
read_from (b ∷ c) some = sym (read_on_is 0 (b ∷ c) (omega arith))

abs_sign : (s : Bool) (n : ℕ) → nat_abs (with_sign s n) ≡ n
abs_sign true zero = refl
abs_sign true (suc n) = refl
abs_sign false n = refl

-- the cap goes on before the sign as well as after it
pub sign_capped : (s w : Bool) (n : ℕ) → some_signed s (cond (w && ltb n (2 ^ 64)) (Some n) None) ≡ small (cond w (Some (with_sign s n)) None)
sign_capped s false n = refl
sign_capped s true n = rw (abs_sign s n) (elim (ltb n (2 ^ 64)) as (λ t. some_signed s (cond t (Some n) None) ≡ cond t (Some (with_sign s n)) None) [ true ↦ refl | false ↦ refl ])

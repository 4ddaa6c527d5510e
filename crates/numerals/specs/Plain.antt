-- Plain numbers: 0, or decimal digits that don't begin with 0.
use Rattle.std.specs.Prelude.{◌≡◌, ℕ, ◌+◌, ◌-◌, ◌*◌, ◌^◌, min, Bool, true, false, cond, not, ◌&&◌, List, [], ◌∷◌, Some, None, Option, ◌==◌}
use Rattle.std.specs.Int.{is_in_range}
use Rattle.std.specs.Char.{is_ascii_digit}
use Rattle.std.specs.Str.{all_ascii_digits}

-- one digit, or more of which the first is 1 to 9
abbrev pub plain : List ℕ → Bool
plain [] = false
plain (b ∷ []) = is_ascii_digit b
plain (b ∷ d ∷ c) = is_in_range 49 57 b && all_ascii_digits (d ∷ c)

-- the number that digits write, after the number so far
abbrev pub value_on : ℕ → List ℕ → ℕ
value_on n [] = n
value_on n (b ∷ c) = value_on (n * 10 + (b - 48)) c

abbrev pub value : List ℕ → ℕ
value c = value_on 0 c

-- c is the plain number n
abbrev pub Plain : ℕ → List ℕ → Type 0
Plain n c = (plain c ≡ true) × (value c ≡ n)

-- a plain number as 64 bits hold it: a larger one is the largest that they hold
abbrev pub capped : List ℕ → Option ℕ
capped c = cond (plain c) (Some (min (value c) (2 ^ 64 - 1))) None

-- The same as the code tests it, from the left.

-- there is a first byte, and it is no 0 before others
abbrev pub plain_front : List ℕ → Bool
plain_front [] = false
plain_front (b ∷ []) = true
plain_front (b ∷ d ∷ c) = not (b == 48)

-- the number so far with one more digit, as 64 bits hold it
abbrev pub pushed : ℕ → ℕ → Option ℕ
pushed n b = cond (is_ascii_digit b) (Some (min (n * 10 + (b - 48)) (2 ^ 64 - 1))) None

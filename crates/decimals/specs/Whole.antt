-- Whole numbers as text writes them: a sign, where one may stand, and one digit or more.
use Rattle.std.specs.Prelude.{◌≡◌, ℕ, ◌+◌, ◌-◌, ◌*◌, ◌^◌, Bool, true, cond, not, ◌&&◌, ◌||◌, List, ◌∷◌, drop, ℤ, pos, neg_ℤ, Some, None, Option, int_le, nat_lt, unsigned_abs}
use Rattle.std.specs.Char.{is_ascii_digit}
use Rattle.std.specs.Str.{all_ascii_digits}
use Rattle.numerals.specs.Front.{starts_with}
use Rattle.numerals.specs.Plain.{value}
use Rattle.numerals.specs.Double.{Digits, is_empty}

-- c writes the whole number z; a minus may stand before a signed number only
pub data Whole (signed : Bool) : ℤ → List ℕ → Type 0 where
  no_sign : {c : List ℕ} → Digits c → Whole signed (pos (value c)) c
  plus : {c : List ℕ} → Digits c → Whole signed (pos (value c)) (43 ∷ c)
  minus : {c : List ℕ} → signed ≡ true → Digits c → Whole signed (neg_ℤ (pos (value c))) (45 ∷ c)

-- The same as a function.

-- one digit or more
abbrev pub is_digits : List ℕ → Bool
is_digits c = not (is_empty c) && all_ascii_digits c

-- the number that digits write
abbrev pub natural_in : List ℕ → Option ℕ
natural_in c = cond (is_digits c) (Some (value c)) None

-- c begins with a minus that is taken
abbrev pub is_minus : Bool → List ℕ → Bool
is_minus signed c = signed && starts_with 45 c

-- what stands after the sign, if there is one
abbrev pub magnitude_in : Bool → List ℕ → List ℕ
magnitude_in signed c = cond (is_minus signed c || starts_with 43 c) (drop 1 c) c

-- n, or -n
abbrev pub with_sign : Bool → ℕ → ℤ
with_sign negative n = cond negative (neg_ℤ (pos n)) (pos n)

abbrev pub some_signed : Bool → Option ℕ → Option ℤ
some_signed negative None = None
some_signed negative (Some n) = Some (with_sign negative n)

-- the whole number that c writes
abbrev pub whole_in : Bool → List ℕ → Option ℤ
whole_in signed c = some_signed (is_minus signed c) (natural_in (magnitude_in signed c))

-- z, where its magnitude is below 2 ^ 64
abbrev pub small : Option ℤ → Option ℤ
small None = None
small (Some z) = cond (nat_lt (unsigned_abs z) (2 ^ 64)) (Some z) None

-- the whole number that c writes, where its magnitude is below 2 ^ 64
abbrev pub whole_capped : Bool → List ℕ → Option ℤ
whole_capped signed c = small (whole_in signed c)

-- z, where it is from `least` to `most`
abbrev pub in_range : ℤ → ℤ → Option ℤ → Option ℤ
in_range least most None = None
in_range least most (Some z) = cond (int_le least z && int_le z most) (Some z) None

-- The steps of the code.

-- the number that digits write, where it is below 2 ^ 64
abbrev pub natural_capped : List ℕ → Option ℕ
natural_capped c = cond (is_digits c && nat_lt (value c) (2 ^ 64)) (Some (value c)) None

-- the number so far with one more digit, where it is below 2 ^ 64
abbrev pub pushed : ℕ → ℕ → Option ℕ
pushed n b = cond (is_ascii_digit b && nat_lt (n * 10 + (b - 48)) (2 ^ 64)) (Some (n * 10 + (b - 48))) None

-- The lines of doubles and of big numbers.
use Rattle.std.specs.Prelude.{◌≡◌, ℕ, ◌<◌, Bool, true, false, cond, ◌&&◌, ◌||◌, List, [], ◌∷◌, ◌++◌, length, drop, ◌==◌}
use Rattle.std.specs.Char.{is_ascii_digit}
use Rattle.std.specs.Str.{all_ascii_digits}
use Rattle.numerals.specs.Front.{starts_with}

-- nothing, a plus or a minus
pub data Sign : List ℕ → Type 0 where
  no_sign : Sign []
  plus_sign : Sign (43 ∷ [])
  minus_sign : Sign (45 ∷ [])

-- one digit or more
pub record Digits (c : List ℕ) : Type 0 where
  pub all : all_ascii_digits c ≡ true
  pub some : 0 < length c

-- nothing, or a point and digits
pub data Fraction : List ℕ → Type 0 where
  no_fraction : Fraction []
  point : {c : List ℕ} → Digits c → Fraction (46 ∷ c)

-- nothing, or e or E, a sign and digits
pub data Exponent : List ℕ → Type 0 where
  no_exponent : Exponent []
  small_e : {s c : List ℕ} → Sign s → Digits c → Exponent (101 ∷ (s ++ c))
  large_e : {s c : List ℕ} → Sign s → Digits c → Exponent (69 ∷ (s ++ c))

-- the line of a double: inf, -inf, nan, or a decimal number
pub data Double : List ℕ → Type 0 where
  infinity : Double (105 ∷ 110 ∷ 102 ∷ [])
  minus_infinity : Double (45 ∷ 105 ∷ 110 ∷ 102 ∷ [])
  not_a_number : Double (110 ∷ 97 ∷ 110 ∷ [])
  finite : {s d f e : List ℕ} → Sign s → Digits d → Fraction f → Exponent e → Double (s ++ (d ++ (f ++ e)))

-- the line of a big number
pub data BigNumber : List ℕ → Type 0 where
  big : {s d : List ℕ} → Sign s → Digits d → BigNumber (s ++ d)

-- The same as tests.

-- what is left after a sign, if there is one
abbrev pub after_sign : List ℕ → List ℕ
after_sign c = cond (starts_with 43 c || starts_with 45 c) (drop 1 c) c

-- what is left after all digits at the front
abbrev pub after_digits : List ℕ → List ℕ
after_digits [] = []
after_digits (b ∷ c) = cond (is_ascii_digit b) (after_digits c) (b ∷ c)

abbrev pub is_empty : List ℕ → Bool
is_empty [] = true
is_empty (b ∷ c) = false

abbrev pub starts_with_digit : List ℕ → Bool
starts_with_digit [] = false
starts_with_digit (b ∷ c) = is_ascii_digit b

-- one digit or more, and then what `rest` takes
abbrev pub digits_then : (List ℕ → Bool) → List ℕ → Bool
digits_then rest c = starts_with_digit c && rest (after_digits c)

abbrev pub is_exponent : List ℕ → Bool
is_exponent c = is_empty c || ((starts_with 101 c || starts_with 69 c) && digits_then is_empty (after_sign (drop 1 c)))

abbrev pub is_fraction : List ℕ → Bool
is_fraction c = cond (starts_with 46 c) (digits_then is_exponent (drop 1 c)) (is_exponent c)

abbrev pub is_word : List ℕ → Bool
is_word [] = false
is_word (x ∷ []) = false
is_word (x ∷ y ∷ []) = false
is_word (x ∷ y ∷ z ∷ []) = (x == 105 && (y == 110 && z == 102)) || (x == 110 && (y == 97 && z == 110))
is_word (x ∷ y ∷ z ∷ w ∷ []) = x == 45 && (y == 105 && (z == 110 && w == 102))
is_word (x ∷ y ∷ z ∷ w ∷ v ∷ c) = false

abbrev pub is_double : List ℕ → Bool
is_double c = is_word c || digits_then is_fraction (after_sign c)

abbrev pub is_big_number : List ℕ → Bool
is_big_number c = digits_then is_empty (after_sign c)

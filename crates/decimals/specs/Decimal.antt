-- Decimal numbers as text says them to Rust's parser of floats, and the floats that one rounding gives.
use Rattle.std.specs.Prelude.{◌≡◌, ℕ, suc, ◌-◌, ◌*◌, ◌^◌, min, Bool, true, false, cond, ◌&&◌, ◌||◌, ◌⊎◌, List, [], ◌∷◌, ◌++◌, map, length, drop, ℤ, pos, negsuc, ◌-ℤ◌, neg_ℤ, Some, None, Ok, Err, codes, Option, Result, nat_le, unsigned_abs, Float}
use Rattle.std.specs.Float.{inf, nan, binary64}
use Rattle.std.specs.Float.Ieee.{round}
use Rattle.std.specs.Char.{is_ascii_digit, to_ascii_lowercase}
use Rattle.std.specs.Float.Parse.{lowercases_to}
use Rattle.std.specs.Str.{bytes_eq}
use Rattle.numerals.specs.Front.{starts_with}
use Rattle.numerals.specs.Plain.{value}
use Rattle.numerals.specs.Double.{Digits, after_sign, after_digits, is_empty}
use Rattle.decimals.specs.Whole.{Whole, whole_in}
use Rattle.decimals.specs.declared.fault.FloatFault.{FloatFault}
use Rattle.decimals.specs.declared.fault.FloatFault.TheVariants.{NotNumber, Inexact}

-- The grammar.

-- nothing, a plus or a minus, and whether it is a minus
pub data Signed : Bool → List ℕ → Type 0 where
  no_sign : Signed false []
  plus : Signed false (43 ∷ [])
  minus : Signed true (45 ∷ [])

-- the digits w and, perhaps, a point and the digits f; one digit or more in all
pub data Mantissa : List ℕ → List ℕ → List ℕ → Type 0 where
  whole : {w : List ℕ} → Digits w → Mantissa w [] w
  point : {w f : List ℕ} → Digits (w ++ f) → Mantissa w f (w ++ (46 ∷ f))

-- nothing, or e or E and a signed whole number
pub data Power : ℤ → List ℕ → Type 0 where
  no_power : Power (pos 0) []
  small_e : {z : ℤ} {c : List ℕ} → Whole true z c → Power z (101 ∷ c)
  large_e : {z : ℤ} {c : List ℕ} → Whole true z c → Power z (69 ∷ c)

-- c writes d * 10 ^ q, with a minus where s is true; d is all digits with the point left out
pub data Decimal : Bool → ℕ → ℤ → List ℕ → Type 0 where
  decimal : {s : Bool} {z : ℤ} {a w f m p : List ℕ} → Signed s a → Mantissa w f m → Power z p → Decimal s (value (w ++ f)) (z -ℤ pos (length f)) (a ++ (m ++ p))

-- inf, infinity or nan, in any letter case
abbrev pub Spelled : List ℕ → Type 0
Spelled c = (map to_ascii_lowercase c ≡ codes "inf") ⊎ ((map to_ascii_lowercase c ≡ codes "infinity") ⊎ (map to_ascii_lowercase c ≡ codes "nan"))

-- such a word, with a sign or without
pub data Word : List ℕ → Type 0 where
  word : {s : Bool} {a : List ℕ} → Signed s a → (c : List ℕ) → Spelled c → Word (a ++ c)

-- The same as functions.

abbrev pub is_word : List ℕ → Bool
is_word c = lowercases_to c (codes "inf") || (lowercases_to c (codes "infinity") || lowercases_to c (codes "nan"))

-- the digits at the front
abbrev pub front_digits : List ℕ → List ℕ
front_digits [] = []
front_digits (b ∷ c) = cond (is_ascii_digit b) (b ∷ front_digits c) []

-- the power of ten that c writes
abbrev pub power_in : List ℕ → Option ℤ
power_in c = cond (is_empty c) (Some (pos 0)) (cond (starts_with 101 c || starts_with 69 c) (whole_in true (drop 1 c)) None)

-- the digits w and f with a power of ten
abbrev pub shifted : List ℕ → List ℕ → Option ℤ → Option (ℕ × ℤ)
shifted w f None = None
shifted w f (Some z) = Some (value (w ++ f), z -ℤ pos (length f))

-- the digits w and f, and what stands after them
abbrev pub scaled : List ℕ → List ℕ → List ℕ → Option (ℕ × ℤ)
scaled w f c = cond (is_empty w && is_empty f) None (shifted w f (power_in c))

-- the digits behind a point at the front of c, and what stands after them
abbrev pub fraction_in : List ℕ → List ℕ
fraction_in c = cond (starts_with 46 c) (front_digits (drop 1 c)) []

abbrev pub after_fraction : List ℕ → List ℕ
after_fraction c = cond (starts_with 46 c) (after_digits (drop 1 c)) c

-- the number that c writes, without a sign
abbrev pub number_in : List ℕ → Option (ℕ × ℤ)
number_in c = scaled (front_digits c) (fraction_in (after_digits c)) (after_fraction (after_digits c))

-- what a text says to the parser of floats
pub data Said : Type 0 where
  nothing : Said
  a_word : Said
  number : Bool → ℕ → ℤ → Said

abbrev pub said : Bool → Option (ℕ × ℤ) → Said
said s None = nothing
said s (Some (d, q)) = number s d q

abbrev pub float_in : List ℕ → Said
float_in c = cond (is_word (after_sign c)) a_word (said (starts_with 45 c) (number_in (after_sign c)))

-- What is answered.

-- d * 10 ^ q, with a minus where s is true, rounded once to the nearest f64, a tie to the even one; a zero keeps its sign
abbrev pub rounded : Bool → ℕ → ℤ → Float
rounded s d (pos k) = round binary64 s (d * 10 ^ k) 1
rounded s d (negsuc k) = round binary64 s d (10 ^ suc k)

-- the same, where d and the power of ten are floats
abbrev pub rounded_once : Bool → ℕ → ℤ → Result Float FloatFault
rounded_once s d q = cond (nat_le d (2 ^ 53) && nat_le (unsigned_abs q) 22) (Ok (rounded s d q)) (Err Inexact)

abbrev pub answer : Said → Result Float FloatFault
answer nothing = Err NotNumber
answer a_word = Err Inexact
answer (number s d q) = rounded_once s d q

-- the float that a text says
abbrev pub read_float : List ℕ → Result Float FloatFault
read_float c = answer (float_in c)

-- the float of a line of the Redis protocol: three words have one, and any other line is read as a text
abbrev pub read_double : List ℕ → Result Float FloatFault
read_double c =
    cond (bytes_eq c (codes "inf")) (Ok (inf false)) (cond (bytes_eq c (codes "-inf")) (Ok (inf true)) (cond (bytes_eq c (codes "nan")) (Ok nan) (read_float c)))

-- The steps of the code.

-- z, or the nearest to it of magnitude below 2 ^ 64
abbrev pub clamped : ℤ → ℤ
clamped (pos n) = pos (min n (2 ^ 64 - 1))
clamped (negsuc n) = neg_ℤ (pos (min (suc n) (2 ^ 64 - 1)))

abbrev pub some_clamped : Option ℤ → Option ℤ
some_clamped None = None
some_clamped (Some z) = Some (clamped z)

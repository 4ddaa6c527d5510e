-- The integer line: a plain number, or a minus and a plain number other than 0, in signed 64 bits.
use Rattle.std.specs.Prelude.{ℕ, suc, ◌-◌, ◌^◌, ◌<◌, ◌≤◌, Bool, cond, ◌&&◌, List, ◌∷◌, drop, ℤ, pos, negsuc, Some, None, Option, nat_le, nat_lt}
use Rattle.numerals.specs.Front.{starts_with}
use Rattle.numerals.specs.Plain.{Plain, plain, value}

-- c is a line of the integer z; `negsuc n` is -(n + 1)
pub data Integer : ℤ → List ℕ → Type 0 where
  unsigned : {n : ℕ} {c : List ℕ} → Plain n c → n < 2 ^ 63 → Integer (pos n) c
  minus : {n : ℕ} {c : List ℕ} → Plain (suc n) c → suc n ≤ 2 ^ 63 → Integer (negsuc n) (45 ∷ c)

abbrev pub unsigned_of : List ℕ → Option ℤ
unsigned_of c = cond (plain c && nat_lt (value c) (2 ^ 63)) (Some (pos (value c))) None

-- a minus may stand before n
abbrev pub fits_minus : ℕ → Bool
fits_minus n = nat_lt 0 n && nat_le n (2 ^ 63)

abbrev pub minus_of : List ℕ → Option ℤ
minus_of c = cond (plain c && fits_minus (value c)) (Some (negsuc (value c - 1))) None

-- the integer of a line
abbrev pub integer : List ℕ → Option ℤ
integer c = cond (starts_with 45 c) (minus_of (drop 1 c)) (unsigned_of c)

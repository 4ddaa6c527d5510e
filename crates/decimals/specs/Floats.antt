-- Whole numbers that are floats.
use Rattle.std.specs.Prelude.{◌≡◌, ℕ, ◌*◌, ◌/◌, ◌%◌, ◌^◌, Bool, cond, not, ◌&&◌, ◌||◌, ℤ, Some, None, Option, ◌==◌, nat_le, nat_lt, unsigned_abs, Float}
use Rattle.std.specs.Float.{nan, inf, fin, binary64}
use Rattle.std.specs.Float.Ieee.{up, down, of_int}
use Rattle.std.specs.Float.Ieee.Exact.{HasValue}
use Rattle.decimals.specs.Whole.{with_sign, small}

-- x is the whole number z: n with a sign; -0 is 0
pub record IsWhole (x : Float) (z : ℤ) : Type 0 where
  pub negative : Bool
  pub n : ℕ
  pub value : HasValue x negative n 1
  pub is : z ≡ with_sign negative n

-- the whole number that x is; `fin s m e` is m * 2 ^ e with the sign s, and 2 ^ e is up e / down e
abbrev pub whole_float : Float → Option ℤ
whole_float nan = None
whole_float (inf s) = None
whole_float (fin s m e) = cond (m * up e % down e == 0) (Some (with_sign s (m * up e / down e))) None

-- the whole number that x is, where its magnitude is below 2 ^ 64
abbrev pub whole_float_capped : Float → Option ℤ
whole_float_capped x = small (whole_float x)

-- the float that z is, where its magnitude is at most 2 ^ 53
abbrev pub exact_float : ℤ → Option Float
exact_float z = cond (nat_le (unsigned_abs z) (2 ^ 53)) (Some (of_int binary64 z)) None

-- the number that x is, where it is whole, not below 0, and below 2 ^ 64
abbrev pub natural_float : Float → Option ℕ
natural_float nan = None
natural_float (inf s) = None
natural_float (fin s m e) = cond ((not s || m == 0) && (m * up e % down e == 0 && nat_lt (m * up e / down e) (2 ^ 64))) (Some (m * up e / down e)) None

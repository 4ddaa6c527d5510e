-- What "rounded once, to the nearest, a tie to the even one" says, with no floats in it.
use Rattle.std.specs.Prelude.{◌≡◌, ℕ, ◌+◌, ◌-◌, ◌*◌, ◌%◌, ◌^◌, ◌<◌, ◌≤◌, Bool}
use Rattle.std.specs.Float.{Format}
use Rattle.std.specs.Float.Ieee.{prec, low, round}
use Rattle.std.specs.Float.Ieee.Exact.{HasValue}
use Rattle.std.specs.Float.Ieee.Scale.{grid, overflow}

-- q whole units u are within half a unit of n, and q is even where they are half a unit off
pub record Near (n u q : ℕ) : Type 0 where
  pub above : 2 * n ≤ 2 * (q * u) + u
  pub below : 2 * (q * u) ≤ 2 * n + u
  pub tie_up : 2 * (q * u) ≡ 2 * n + u → q % 2 ≡ 0
  pub tie_down : 2 * n ≡ 2 * (q * u) + u → q % 2 ≡ 0

-- The rounded value of a / c, with the sign s, is q * 2 ^ k of the format's smallest values: q is within half a unit of the
-- exact one, ties to even, and k is 0 or q has all the digits that the format keeps. (From `overflow` on it is an infinity.)
pub record Correct (f : Format) (s : Bool) (a c : ℕ) : Type 0 where
  pub q : ℕ
  pub k : ℕ
  pub value : HasValue (round f s a c) s (q * 2 ^ k) (2 ^ low f)
  pub near : Near (a * 2 ^ low f) (c * 2 ^ k) q
  pub digits : q ≤ 2 ^ prec f
  pub full : 0 < k → 2 ^ (prec f - 1) ≤ q

abbrev pub RoundsOnce : Type 0
RoundsOnce = (f : Format) (s : Bool) (a c : ℕ) → 0 < c → grid f a c < overflow f → Correct f s a c

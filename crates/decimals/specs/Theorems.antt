-- The functions on text tell exactly what the rules describe.
use Rattle.std.specs.Prelude.{◌≡◌, ℕ, ◌^◌, ◌<◌, Bool, ◌↔◌, List, ℤ, Some, Option, unsigned_abs, Float}
use Rattle.decimals.specs.Whole.{Whole, whole_in, small, in_range}
use Rattle.decimals.specs.Floats.{IsWhole, whole_float}
use Rattle.decimals.specs.Decimal.{Decimal, Word, float_in}
use Rattle.decimals.specs.Decimal.Said.{a_word, number}

abbrev pub WholesAgree : Type 0
WholesAgree = (signed : Bool) (z : ℤ) (c : List ℕ) → (whole_in signed c ≡ Some z) ↔ Whole signed z c

abbrev pub WholeFloatsAgree : Type 0
WholeFloatsAgree = (x : Float) (z : ℤ) → (whole_float x ≡ Some z) ↔ IsWhole x z

abbrev pub DecimalsAgree : Type 0
DecimalsAgree = (s : Bool) (d : ℕ) (q : ℤ) (c : List ℕ) → (float_in c ≡ number s d q) ↔ Decimal s d q c

abbrev pub WordsAgree : Type 0
WordsAgree = (c : List ℕ) → (float_in c ≡ a_word) ↔ Word c

-- to read a number below 2 ^ 64 and to test its range is to test the range of any number
abbrev pub RangesAgree : Type 0
RangesAgree = (least most : ℤ) → unsigned_abs least < 2 ^ 64 → unsigned_abs most < 2 ^ 64 → (o : Option ℤ) → in_range least most (small o) ≡ in_range least most o

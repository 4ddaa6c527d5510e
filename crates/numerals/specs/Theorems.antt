-- The tests take exactly the lines that the rules describe.
use Rattle.std.specs.Prelude.{◌≡◌, ℕ, true, ◌↔◌, List, ℤ, Some}
use Rattle.numerals.specs.Integer.{Integer, integer}
use Rattle.numerals.specs.Double.{Double, BigNumber, is_double, is_big_number}

abbrev pub IntegersAgree : Type 0
IntegersAgree = (z : ℤ) (c : List ℕ) → (integer c ≡ Some z) ↔ Integer z c

abbrev pub DoublesAgree : Type 0
DoublesAgree = (c : List ℕ) → (is_double c ≡ true) ↔ Double c

abbrev pub BigNumbersAgree : Type 0
BigNumbersAgree = (c : List ℕ) → (is_big_number c ≡ true) ↔ BigNumber c

-- an integer has one line
abbrev pub IntegersHaveOneLine : Type 0
IntegersHaveOneLine = (z : ℤ) (c d : List ℕ) → integer c ≡ Some z → integer d ≡ Some z → c ≡ d

-- An integer has one line: the one that `signed` writes.
use Rattle.std.proofs.Common.{◌≡◌, ℕ, suc, ◌^◌, ◌<◌, true, List, [], ◌∷◌, length, get_or, ℤ, decimal, sym, ap, ◌∙◌, arith, rules}
use Rattle.std.specs.Str.{all_ascii_digits}
use Rattle.std.specs.Fmt.{signed_decimal}
use Rattle.std.proofs.lemmas.Fmt.{decimal-digits_value}
use Rattle.std.proofs.lemmas.Str.Parse.{IsNumeralModel, numerals_by_fold, tells_all_ascii_digits}
use Rattle.std.proofs.lemmas.Bool.{false≢true}
use Rattle.std.proofs.lemmas.Bool.Decides.{nat_tests}
use Rattle.numerals.specs.Plain.{Plain, plain, value, value_on}
use Rattle.numerals.specs.Integer.{Integer}
use Rattle.numerals.specs.Integer.Integer.{unsigned, minus}
use Rattle.numerals.specs.Theorems.{IntegersHaveOneLine}
use Rattle.numerals.proofs.IntegerRules.{integers_agree}

own : IsNumeralModel (λ c. all_ascii_digits c ≡ true) value
own = numerals_by_fold _ tells_all_ascii_digits value_on (search rules)

-- a plain number is digits, and a 0 in front stands alone
plain_all : (c : List ℕ) → plain c ≡ true → all_ascii_digits c ≡ true
plain_all [] t = absurd (false≢true t)
plain_all (b ∷ []) t = grind (arith, nat_tests)
plain_all (b ∷ d ∷ c) t = grind (arith, nat_tests)

plain_some : (c : List ℕ) → plain c ≡ true → 0 < length c
plain_some [] t = absurd (false≢true t)
plain_some (b ∷ c) t = omega arith

plain_zero : (c : List ℕ) → plain c ≡ true → get_or c 0 0 ≡ 48 → length c ≡ 1
plain_zero [] t e = absurd (false≢true t)
plain_zero (b ∷ []) t e = omega arith
plain_zero (b ∷ d ∷ c) t e = grind (arith, nat_tests)

plain_decimal : (n : ℕ) (c : List ℕ) → Plain n c → n < 2 ^ 64 → c ≡ decimal n
plain_decimal n c (t, is) small =
    sym (decimal-digits_value own c (plain_all c t) (plain_some c t) (plain_zero c t) (omega arith)) ∙ ap decimal is

line_of : {z : ℤ} {c : List ℕ} → Integer z c → c ≡ signed_decimal z
line_of (unsigned {n} {c} p lt) = plain_decimal n c p (omega arith)
line_of (minus {n} {c} p le) = ap (λ l. 45 ∷ l) (plain_decimal (suc n) c p (omega arith))

pub one_line : IntegersHaveOneLine
one_line z c d p q = line_of ((integers_agree z c).0 p) ∙ sym (line_of ((integers_agree z d).0 q))

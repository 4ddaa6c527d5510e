use Rattle.numerals.proofs.IntegerRules.{integers_agree}
use Rattle.numerals.proofs.DoubleRules.{doubles_agree, big_numbers_agree}
use Rattle.numerals.proofs.OneLine.{one_line}
use Rattle.numerals.proofs.laws.lines_agree.Goals as goal

pub returns : goal.returns
returns c = record { integers = integers_agree; doubles = doubles_agree; big = big_numbers_agree; line = one_line }

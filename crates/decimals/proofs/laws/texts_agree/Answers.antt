use Rattle.decimals.proofs.WholeRules.{wholes_agree}
use Rattle.decimals.proofs.FloatRules.{whole_floats_agree}
use Rattle.decimals.proofs.DecimalRules.{decimals_agree, words_agree}
use Rattle.decimals.proofs.Ranges.{ranges_agree}
use Rattle.decimals.proofs.laws.texts_agree.Goals as goal

pub returns : goal.returns
returns c = record { wholes = wholes_agree; ranges = ranges_agree; decimals = decimals_agree; words = words_agree; floats = whole_floats_agree }

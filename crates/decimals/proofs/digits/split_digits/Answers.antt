use Rattle.std.proofs.Common.{◌∙◌}
use Rattle.decimals.proofs.DigitSteps.{take_front}
use Rattle.decimals.proofs.digits.split_digits.Goals as goal

pub returns-clause-front : goal.returns-clause-front
returns-clause-front c = c.split_at.ensures.front ∙ take_front c.args.text.now _ c.digits_end.ensures.rest

use Rattle.std.proofs.cmp.Tests.{cases_from_iff}
use Rattle.decimals.proofs.Spellings.{spells_is}
use Rattle.decimals.proofs.decimal.is_spelled.Goals as goal

pub returns : goal.returns
returns c = spells_is _ c.args.text.now _ (cases_from_iff c.eq_ignore_ascii_case.ensures.test)

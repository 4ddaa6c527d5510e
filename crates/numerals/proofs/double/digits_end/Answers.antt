use Rattle.std.proofs.Common.{◌≡◌, rules}
use Rattle.std.specs.Prelude.{position}
use Rattle.std.proofs.lemmas.Iterator.{YieldsList-from_slice}
use Rattle.std.proofs.lemmas.Iterator.Search.{position_from_yields_List}
use Rattle.numerals.proofs.DoubleSteps.{no_digit, digits_end_lem}
use Rattle.numerals.proofs.double.digits_end.Goals as goal

pub returns-clause-rest : goal.returns-clause-rest
returns-clause-rest c =
    let found : c.position.result ≡ position no_digit c.args.content.now =
    position_from_yields_List no_digit _ _ _ c.position.ensures.ran (YieldsList-from_slice c.args.content.now c.iter.ensures.rest) (λ b t q k. search rules) in
    digits_end_lem c.args.content.now _ _ found c.unwrap_or.ensures

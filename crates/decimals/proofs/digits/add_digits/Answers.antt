use Rattle.std.proofs.Common.{◌≡◌, ◌∙◌, arith, rules}
use Rattle.std.specs.List.{fold}
use Rattle.decimals.proofs.DigitSteps.{add_digit, folded}
use Rattle.decimals.proofs.digits.add_digits.Goals as goal

pub returns : goal.returns
returns c =
    let e : c.fold.result ≡ fold add_digit c.args.start c.args.digits.now = search rules in
    e ∙ folded c.args.start c.args.digits.now (omega arith)

use Rattle.std.proofs.Common.{sym, ap, ◌∙◌, rules}
use Rattle.decimals.specs.Whole.{pushed}
use Rattle.numerals.proofs.TryFolds.{try_fold, try_fold_is}
use Rattle.decimals.proofs.WholeSteps.{read_from}
use Rattle.decimals.proofs.whole.read_digits.Goals as goal

pub returns : goal.returns
returns c =
    try_fold_is _ _ _ pushed (λ n b r q k. search rules) _ _ _ _ c.try_fold.ensures.ran
    ∙ ap (try_fold pushed 0) c.iter.ensures.rest
    ∙ sym (read_from c.args.digits.now (sym c.if-is_empty.ensures))

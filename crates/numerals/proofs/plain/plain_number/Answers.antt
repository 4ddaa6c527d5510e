use Rattle.std.proofs.Common.{sym, ap, ◌∙◌, rules}
use Rattle.numerals.specs.Plain.{pushed}
use Rattle.numerals.proofs.TryFolds.{try_fold, try_fold_is}
use Rattle.numerals.proofs.PlainSteps.{read_from}
use Rattle.numerals.proofs.plain.plain_number.Goals as goal

pub returns : goal.returns
returns c =
    try_fold_is _ _ _ pushed (λ n b r q k. search rules) _ _ _ _ c.try_fold.ensures.ran
    ∙ ap (try_fold pushed 0) c.iter.ensures.rest
    ∙ sym (read_from c.args.content.now (sym c.has_plain_front.ensures ∙ c.if-not-has_plain_front.false))

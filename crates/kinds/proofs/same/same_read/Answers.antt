use Rattle.std.proofs.Common.{ap, ◌∙◌}
use Rattle.std.specs.Option.{option_eq}
use Rattle.std.specs.Result.{result_ok}
use Rattle.kinds.proofs.SameTexts.{same_ok}
use Rattle.kinds.proofs.same.same_read.Goals as goal

pub returns : goal.returns
returns g c =
    let eq = g.V.PartialEq.eq in
    c.eq.ensures ∙ ap (λ o. option_eq eq o c.ok-2.result) c.ok.ensures.value ∙ ap (option_eq eq (result_ok c.args.a)) c.ok-2.ensures.value ∙ same_ok eq c.args.a c.args.b

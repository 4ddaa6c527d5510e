use Rattle.std.proofs.Common.{sym, ap, ◌∙◌, subst, arith}
use Rattle.std.proofs.lemmas.List.{take_rest}
use Rattle.resp.specs.Answer.{Found, answer}
use Rattle.station.specs.Surveyed.{Surveyed}
use Rattle.station.proofs.Walked.{at_start, one_more, all_walked, stopped_there}
use Rattle.station.proofs.report.recording.Goals as goal

pub loop-at-init : goal.loop-at-init
loop-at-init c = at_start c.args.bytes.now

pub loop-at-preserved : goal.loop-at-preserved
loop-at-preserved c =
    let bs = c.args.bytes.now in
    one_more bs c.loop-at.replies c.loop-at.at c.in-Ok.length c.saturating_add-replies.result c.loop-at.invariant
    (subst (λ l. Found l c.in-Ok.length) (take_rest bs c.loop-at.at) c.in-Ok.ensures.right) (omega arith) c.saturating_add-replies.ensures

pub returns-in-Err : goal.returns-in-Err
returns-in-Err c =
    let bs = c.args.bytes.now in
    subst (Surveyed bs) (sym c.stopped.ensures)
    (stopped_there bs c.loop-at.replies c.loop-at.at c.in-Err.fault c.loop-at.invariant (sym (c.in-Err.ensures.answer ∙ ap answer (take_rest bs c.loop-at.at))))

pub returns : goal.returns
returns c = all_walked c.args.bytes.now c.loop-at.replies c.loop-at.at c.loop-at.invariant (omega arith)

use Rattle.std.proofs.Common.{refl, ap, ◌∙◌}
use Rattle.std.proofs.lemmas.List.{take_rest}
use Rattle.reply.specs.Pass.{passed_of}
use Rattle.reply.specs.View.{node_of}
use Rattle.reply.proofs.Passes.{row_below}
use Rattle.reply.proofs.view.Reply.below.Goals as goal

pub invariant_of-result : goal.invariant_of-result
unfolding node_of
invariant_of-result c =
    let s = c.args.self in
    let w = row_below s.bytes.now s.pair s.at c.requires s.inside s.whole c.ranges.self.0 c.pass-len.result c.case.result c.saturating_add.result c.row_from-at.result
    (c.pass-len.ensures ∙ ap passed_of (take_rest s.bytes.now s.at)) c.case.ensures c.saturating_add.ensures c.row_from-at.ensures in
    record { whole = w.opened.whole; inside = w.opened.inside }

pub returns : goal.returns
unfolding node_of
returns c =
    let s = c.args.self in
    let w = row_below s.bytes.now s.pair s.at c.requires s.inside s.whole c.ranges.self.0 c.pass-len.result c.case.result c.saturating_add.result c.row_from-at.result
    (c.pass-len.ensures ∙ ap passed_of (take_rest s.bytes.now s.at)) c.case.ensures c.saturating_add.ensures c.row_from-at.ensures in
    record { opened = w.opened; spread = w.spread; bytes = refl }

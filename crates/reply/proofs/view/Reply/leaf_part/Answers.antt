use Rattle.std.proofs.Common.{◌-◌, ap, ◌∙◌, subst, arith}
use Rattle.std.proofs.lemmas.List.{take_rest}
use Rattle.resp.specs.Cases.{case_of}
use Rattle.resp.specs.Node.{erase}
use Rattle.reply.specs.Parted.{part_of, text_start, textual}
use Rattle.reply.specs.Tree.{wholly, Ended}
use Rattle.reply.specs.View.{node_of}
use Rattle.reply.proofs.LeafParts.{leaf_part_is, text_single}
use Rattle.reply.proofs.Views.{single}
use Rattle.reply.proofs.view.Reply.leaf_part.Goals as goal

pub returns : goal.returns
unfolding node_of wholly
returns c =
    let s = c.args.self in
    let bs = s.bytes.now in
    let p = s.at in
    let no = text_single bs s.pair p s.whole c.requires in
    let one = single bs s.pair p no s.whole in
    leaf_part_is bs p s.inside one.0 (ap (λ n. textual (case_of (erase n))) one.1 ∙ c.requires) c.end.result c.text_start.result c.saturating_add-start.result c.saturating_sub-2.result
    (subst (λ m. Ended bs m p c.end.result) no c.end.ensures) (omega arith) (c.text_start.ensures ∙ ap text_start (take_rest bs p)) c.saturating_add-start.ensures
    (c.saturating_sub-2.ensures ∙ ap (λ z. z - c.saturating_add-start.result) c.saturating_sub.ensures)
    ∙ ap part_of one.1

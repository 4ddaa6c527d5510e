use Rattle.std.proofs.Common.{refl, sym, ap, ◌∙◌, subst}
use Rattle.reply.specs.Parts.{is_attribute, unwrapped}
use Rattle.reply.specs.View.{node_of}
use Rattle.reply.specs.Tree.{wholly, RowEnded}
use Rattle.reply.proofs.Views.{attribute_single, single}
use Rattle.reply.proofs.view.Reply.unwrapped.Goals as goal

pub below-requires : goal.below-requires
unfolding node_of wholly
below-requires c =
    let s = c.args.self in
    attribute_single s.bytes.now s.pair s.at s.whole (sym c.is_attribute.ensures ∙ c.if-not-is_attribute.false)

pub invariant_of-result : goal.invariant_of-result
unfolding node_of wholly
invariant_of-result c =
    let s = c.args.self in
    let is = sym c.is_attribute.ensures ∙ c.if-not-is_attribute.false in
    let one = single s.bytes.now s.pair s.at (attribute_single s.bytes.now s.pair s.at s.whole is) s.whole in
    let row = c.below.result in
    let end = subst (λ b. RowEnded b.now row.pairs row.at row.left c.end.result) c.below.ensures.bytes c.end.ensures in
    record { whole = (c.below.ensures.opened.below (ap is_attribute one.1 ∙ is) c.end.result end).0; inside = end.inside }

pub returns : goal.returns
unfolding node_of wholly
returns c =
    let s = c.args.self in
    let is = sym c.is_attribute.ensures ∙ c.if-not-is_attribute.false in
    let one = single s.bytes.now s.pair s.at (attribute_single s.bytes.now s.pair s.at s.whole is) s.whole in
    let row = c.below.result in
    let end = subst (λ b. RowEnded b.now row.pairs row.at row.left c.end.result) c.below.ensures.bytes c.end.ensures in
    record { tree = (c.below.ensures.opened.below (ap is_attribute one.1 ∙ is) c.end.result end).1 ∙ ap unwrapped one.1; bytes = refl }

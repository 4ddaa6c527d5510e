use Rattle.std.proofs.Common.{false, sym, refl, ap, ◌∙◌, subst}
use Rattle.reply.specs.Opened.{Inner, inner_row, row_of}
use Rattle.reply.specs.Parts.{inner_of, is_attribute}
use Rattle.reply.specs.View.{node_of, nodes_of}
use Rattle.reply.specs.Tree.{wholly, nodes_at}
use Rattle.reply.proofs.Views.{pair_inner, single}
use Rattle.reply.proofs.view.Reply.inner.Goals as goal

pub returns-then-self : goal.returns-then-self
unfolding node_of wholly
returns-then-self c =
    record { trees = c.flat.ensures.trees ∙ pair_inner c.args.self.bytes.now c.args.self.pair c.args.self.at c.if-self.true c.args.self.whole; bytes = c.flat.ensures.bytes }

pub returns-then-not-is_attribute : goal.returns-then-not-is_attribute
unfolding node_of nodes_of
returns-then-not-is_attribute c =
    let s = c.args.self in
    let row = c.below-row.result in
    let one = single s.bytes.now s.pair s.at c.if-self.false s.whole in
    let is = ap is_attribute one.1 ∙ sym c.is_attribute.ensures ∙ c.if-not-is_attribute.true in
    let w = subst (λ b. Inner s.bytes.now false s.at (inner_row b (row_of row))) is c.below-row.ensures.spread.inner in
    record { trees = ap (λ b. nodes_at b.now row.pairs row.at row.left) c.below-row.ensures.bytes ∙ w.parts ∙ ap inner_of one.1; bytes = c.below-row.ensures.bytes }

pub invariant_of-result : goal.invariant_of-result
unfolding node_of
invariant_of-result c =
    let s = c.args.self in
    let one = single s.bytes.now s.pair s.at c.if-self.false s.whole in
    let is = ap is_attribute one.1 ∙ sym c.is_attribute.ensures ∙ c.if-not-is_attribute.false in
    let w = subst (λ b. Inner s.bytes.now false s.at (inner_row b (row_of c.below-row.result))) is c.below-row.ensures.spread.inner in
    record { whole = w.whole; inside = w.inside }

pub returns : goal.returns
unfolding node_of nodes_of
returns c =
    let s = c.args.self in
    let one = single s.bytes.now s.pair s.at c.if-self.false s.whole in
    let is = ap is_attribute one.1 ∙ sym c.is_attribute.ensures ∙ c.if-not-is_attribute.false in
    let w = subst (λ b. Inner s.bytes.now false s.at (inner_row b (row_of c.below-row.result))) is c.below-row.ensures.spread.inner in
    record { trees = w.parts ∙ ap inner_of one.1; bytes = refl }

use Rattle.std.proofs.Common.{false, refl, ap, ◌∙◌}
use Rattle.reply.specs.Parts.{flat_of}
use Rattle.reply.specs.View.{node_of, nodes_of}
use Rattle.reply.specs.Tree.{wholly, wholly_row, nodes_at}
use Rattle.reply.proofs.Views.{pair_flat, single}
use Rattle.reply.proofs.view.Reply.flat.Goals as goal

pub invariant_of-result : goal.invariant_of-result
unfolding wholly wholly_row
invariant_of-result c = record { whole = (pair_flat c.args.self.bytes.now c.args.self.pair c.args.self.at c.if-self.true c.args.self.whole).0; inside = c.args.self.inside }

pub returns-then-self : goal.returns-then-self
unfolding node_of nodes_of wholly
returns-then-self c = record { trees = (pair_flat c.args.self.bytes.now c.args.self.pair c.args.self.at c.if-self.true c.args.self.whole).1; bytes = refl }

pub returns : goal.returns
unfolding node_of nodes_of
returns c =
    let s = c.args.self in
    record {
      trees = ap (nodes_at s.bytes.now false c.below-row.result.at) c.singles.ensures ∙ c.below-row.ensures.spread.flat ∙ ap flat_of (single s.bytes.now s.pair s.at c.if-self.false s.whole).1;
      bytes = refl;
    }

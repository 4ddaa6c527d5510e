use Rattle.std.proofs.Common.{ap, ◌∙◌}
use Rattle.reply.specs.Parts.{parts_of}
use Rattle.reply.specs.View.{node_of, nodes_of}
use Rattle.reply.specs.Tree.{wholly, nodes_at}
use Rattle.reply.proofs.Views.{pair_parts, single}
use Rattle.reply.proofs.view.Reply.items.Goals as goal

pub returns-then-self : goal.returns-then-self
unfolding node_of wholly
returns-then-self c =
    let s = c.args.self in
    record { trees = c.alone.ensures.trees ∙ pair_parts s.bytes.now s.pair s.at c.if-self.true s.whole; bytes = c.alone.ensures.bytes }

pub returns : goal.returns
unfolding node_of nodes_of
returns c =
    let s = c.args.self in
    let row = c.below.result in
    record {
      trees = ap (λ b. nodes_at b.now row.pairs row.at row.left) c.below.ensures.bytes ∙ c.below.ensures.opened.parts ∙ ap parts_of (single s.bytes.now s.pair s.at c.if-self.false s.whole).1;
      bytes = c.below.ensures.bytes;
    }

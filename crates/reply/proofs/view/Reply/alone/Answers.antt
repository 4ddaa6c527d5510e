use Rattle.std.proofs.Common.{refl}
use Rattle.reply.specs.View.{node_of, nodes_of}
use Rattle.reply.specs.Tree.{wholly, wholly_row}
use Rattle.reply.proofs.SingleRows.{alone_row}
use Rattle.reply.proofs.view.Reply.alone.Goals as goal

pub invariant_of-result : goal.invariant_of-result
unfolding wholly wholly_row
invariant_of-result c = record { whole = (alone_row c.args.self.bytes.now c.args.self.pair c.args.self.at c.args.self.whole).0; inside = c.args.self.inside }

pub returns : goal.returns
unfolding node_of nodes_of wholly
returns c = record { trees = (alone_row c.args.self.bytes.now c.args.self.pair c.args.self.at c.args.self.whole).1; bytes = refl }

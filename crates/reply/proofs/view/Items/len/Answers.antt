use Rattle.std.proofs.Common.{refl}
use Rattle.reply.specs.View.{nodes_of}
use Rattle.reply.specs.Tree.{wholly_row}
use Rattle.reply.proofs.Rows.{count_is}
use Rattle.reply.proofs.view.Items.len.Goals as goal

pub returns : goal.returns
unfolding nodes_of wholly_row
returns c = record { left = refl; count = count_is c.args.self.bytes.now c.args.self.pairs c.args.self.at c.args.self.left c.args.self.whole }

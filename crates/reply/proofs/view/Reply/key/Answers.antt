use Rattle.std.proofs.Common.{refl}
use Rattle.reply.specs.View.{node_of}
use Rattle.reply.specs.Tree.{wholly}
use Rattle.reply.proofs.Rows.{first_read}
use Rattle.reply.proofs.Views.{key_is}
use Rattle.reply.proofs.view.Reply.key.Goals as goal

pub invariant_of-result : goal.invariant_of-result
unfolding wholly
invariant_of-result c = record { whole = first_read c.args.self.bytes.now c.args.self.pair c.args.self.at c.args.self.whole; inside = c.args.self.inside }

pub returns : goal.returns
unfolding node_of wholly
returns c = record { tree = key_is c.args.self.bytes.now c.args.self.pair c.args.self.at c.args.self.inside c.args.self.whole; bytes = refl; place = refl; single = refl }

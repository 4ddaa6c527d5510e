use Rattle.reply.specs.View.{node_of}
use Rattle.reply.specs.Tree.{wholly}
use Rattle.reply.proofs.Views.{spot_is}
use Rattle.reply.proofs.view.Reply.spot.Goals as goal

pub returns : goal.returns
unfolding node_of wholly
returns c = spot_is c.args.self.bytes.now c.args.self.pair c.args.self.at c.args.self.inside c.args.self.whole

use Rattle.std.proofs.Common.{refl, arith}
use Rattle.reply.specs.View.{node_of}
use Rattle.reply.specs.Tree.{wholly, node_at}
use Rattle.reply.proofs.row.ReplyDefault.default.Goals as goal

pub invariant_of-result : goal.invariant_of-result
unfolding wholly
invariant_of-result c = record { whole = refl; inside = omega arith }

pub returns : goal.returns
unfolding node_of node_at
returns c = refl

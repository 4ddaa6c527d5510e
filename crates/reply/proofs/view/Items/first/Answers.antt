use Rattle.reply.specs.View.{node_of}
use Rattle.reply.specs.Tree.{wholly, wholly_row}
use Rattle.reply.proofs.Rows.{first_whole}
use Rattle.reply.proofs.Arounds.{only_one}
use Rattle.reply.proofs.view.Items.first.Goals as goal

pub invariant_of-result : goal.invariant_of-result
unfolding wholly wholly_row
invariant_of-result c = let i = c.args.self in record { whole = first_whole i.bytes.now i.pairs i.at i.left c.requires i.whole; inside = i.inside }

pub returns-clause-one : goal.returns-clause-one
unfolding node_of
returns-clause-one c one = only_one c.args.self one

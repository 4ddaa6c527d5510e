use Rattle.std.proofs.Common.{◌∙◌, arith}
use Rattle.utf8.proofs.Bits.{ones_is}
use Rattle.utf8.proofs.leading_run.Goals as goal

pub returns : goal.returns
returns c = c.leading_ones.ensures ∙ ones_is c.args.byte (omega arith)

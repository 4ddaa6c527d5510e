use Rattle.std.proofs.Common.{Ok, ap, ◌∙◌}
use Rattle.reply.specs.Parts.{spot_of}
use Rattle.reply.specs.View.{node_of}
use Rattle.kinds.specs.Numbers.{float_or, double_float}
use Rattle.kinds.proofs.number.double_float.Goals as goal

pub returns : goal.returns
unfolding double_float
returns c = c.float_or_refuse.ensures ∙ ap (float_or (spot_of (node_of c.args.reply)) Ok) c.read_double.ensures

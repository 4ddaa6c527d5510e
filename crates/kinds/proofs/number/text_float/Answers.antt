use Rattle.std.proofs.Common.{Ok, ap, ◌∙◌}
use Rattle.reply.specs.Parts.{spot_of}
use Rattle.reply.specs.View.{node_of}
use Rattle.kinds.specs.Numbers.{float_or, text_float}
use Rattle.kinds.proofs.number.text_float.Goals as goal

pub returns : goal.returns
unfolding text_float
returns c = c.float_or_refuse.ensures ∙ ap (float_or (spot_of (node_of c.args.reply)) Ok) c.read_float.ensures

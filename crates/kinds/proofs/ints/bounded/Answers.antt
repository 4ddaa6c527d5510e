use Rattle.std.proofs.Common.{sym, subst}
use Rattle.reply.specs.View.{node_of}
use Rattle.kinds.specs.Numbers.{Within}
use Rattle.kinds.specs.Within.{integer_within}
use Rattle.kinds.proofs.ints.bounded.Goals as goal

pub returns : goal.returns
returns c =
    record {
      same = c.whole_number.ensures;
      within = subst (Within c.args.bounds) (sym c.whole_number.ensures) (integer_within c.args.bounds (node_of c.args.reply));
    }

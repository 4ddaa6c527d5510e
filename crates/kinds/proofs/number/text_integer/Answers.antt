use Rattle.std.proofs.Common.{ap, ◌∙◌}
use Rattle.std.specs.Option.{ok_or}
use Rattle.decimals.specs.Whole.{whole_capped}
use Rattle.reply.specs.Parts.{spot_of}
use Rattle.reply.specs.View.{node_of}
use Rattle.kinds.specs.declared.fault.ElementReason.TheVariants.{Text}
use Rattle.kinds.specs.Numbers.{between, or_refuse, text_integer}
use Rattle.kinds.proofs.number.text_integer.Goals as goal

pub returns : goal.returns
unfolding text_integer
returns c =
    c.ok_or.ensures.value
    ∙ ap (ok_or c.in_range-number.result) c.refuse.ensures
    ∙ ap (or_refuse Text (spot_of (node_of c.args.reply))) (c.in_range-number.ensures ∙ ap (between c.args.bounds) (c.read_whole.ensures ∙ ap (λ s. whole_capped s c.args.text.now) c.are_signed.ensures))

use Rattle.std.proofs.Common.{◌≤◌, length, sym, subst}
use Rattle.reply.proofs.PartSteps.{lf_within}
use Rattle.reply.proofs.pass.pass.Goals as goal

pub content-requires : goal.content-requires
content-requires c = subst (λ n. n ≤ length c.args.item.now) (sym c.after_lf-line.ensures) (lf_within c.args.item.now)

use Rattle.std.proofs.Common.{arith}
use Rattle.reply.proofs.PartSteps.{lf_found}
use Rattle.reply.proofs.line.after_lf.Goals as goal

pub returns-in-Some : goal.returns-in-Some
returns-in-Some c = let is = lf_found c.args.bytes.now _ c.in-Some.ensures in omega (arith, is)

pub returns-in-None : goal.returns-in-None
returns-in-None c = lf_found c.args.bytes.now _ c.in-None.ensures

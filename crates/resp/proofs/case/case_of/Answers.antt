use Rattle.resp.proofs.Cased.{cased}
use Rattle.resp.proofs.case.case_of.Goals as goal

pub returns-clause-tree : goal.returns-clause-tree
returns-clause-tree c = rw c.first_case.ensures (cased c.args.reply.now)

use Rattle.std.proofs.Common.{rules}
use Rattle.resp.proofs.Rights.{told_answer, right}
use Rattle.resp.proofs.walking.walk.Goals as goal

pub returns : goal.returns
returns c = search (rules, told_answer, right)

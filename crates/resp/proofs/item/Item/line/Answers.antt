use Rattle.std.proofs.Common.{rules}
use Rattle.resp.proofs.LineSteps.{byte_at, left_more, told_cr_lf}
use Rattle.resp.proofs.item.Item.line.Goals as goal

pub returns-in-10-2 : goal.returns-in-10-2
returns-in-10-2 c = search (rules, told_cr_lf)

pub loop-n-preserved : goal.loop-n-preserved
loop-n-preserved c = search (rules, byte_at, left_more)

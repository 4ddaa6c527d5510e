use Rattle.std.proofs.Common.{rules}
use Rattle.resp.proofs.Tolds.{text_ill}
use Rattle.resp.proofs.closed.Closed.text_end.Goals as goal

pub returns-in-Some : goal.returns-in-Some
returns-in-Some c = search (rules, text_ill)

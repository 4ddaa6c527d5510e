use Rattle.std.proofs.Common.{rules}
use Rattle.resp.proofs.Tolds.{told_stop, told_stop_map}
use Rattle.resp.proofs.item.Item.collection_head.Goals as goal

pub returns-in_err-count : goal.returns-in_err-count
returns-in_err-count c = search (rules, told_stop, told_stop_map)

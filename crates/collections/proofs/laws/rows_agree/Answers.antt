use Rattle.collections.proofs.CutUps.{cuts_whole}
use Rattle.collections.proofs.Firsts.{firsts_distinct}
use Rattle.collections.proofs.Merges.{merged_distinct}
use Rattle.collections.proofs.laws.rows_agree.Goals as goal

pub returns : goal.returns
returns c = record { sets = firsts_distinct; maps = merged_distinct; cuts = cuts_whole }

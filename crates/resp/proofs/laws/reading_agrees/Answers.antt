use Rattle.resp.proofs.Unique.{reads_only, reads_all, reads_a_front, one_front, one_split, stays, lasts}
use Rattle.resp.proofs.laws.reading_agrees.Goals as goal

pub returns : goal.returns
returns c = record { only = reads_only; all = reads_all; front = reads_a_front; one = one_front; split = one_split; stays = stays; lasts = lasts }

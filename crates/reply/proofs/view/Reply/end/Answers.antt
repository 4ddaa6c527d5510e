use Rattle.std.proofs.Common.{false, ap, ◌∙◌, subst}
use Rattle.reply.specs.Tree.{wholly, wholly_row, RowEnded}
use Rattle.reply.proofs.SingleRows.{alone_row, alone_ended, singly}
use Rattle.reply.proofs.view.Reply.end.Goals as goal

pub returns : goal.returns
unfolding wholly wholly_row
returns c =
    let s = c.args.self in
    let w = singly s.bytes.now s.pair s.at 1 s.inside (alone_row s.bytes.now s.pair s.at s.whole).0 in
    alone_ended s.bytes.now s.pair s.at c.replies_end.result
    (w.ends c.replies_end.result (subst (λ n. RowEnded s.bytes.now false s.at n c.replies_end.result) c.singles.ensures (c.replies_end.ensures s.inside (ap (wholly_row s.bytes.now false s.at) c.singles.ensures ∙ w.whole))))

use Rattle.std.proofs.Common.{false, ap, ◌∙◌, subst, arith}
use Rattle.reply.specs.Tree.{wholly_row, RowEnded}
use Rattle.reply.proofs.SingleRows.{singly}
use Rattle.reply.proofs.view.Items.end.Goals as goal

pub singles-requires : goal.singles-requires
unfolding wholly_row
singles-requires c =
    let s = c.args.self in
    let room = (singly s.bytes.now s.pairs s.at s.left s.inside s.whole).room in
    let bound = c.ranges.self.0 in omega (arith, room)

pub returns : goal.returns
unfolding wholly_row
returns c =
    let s = c.args.self in
    let w = singly s.bytes.now s.pairs s.at s.left s.inside s.whole in
    w.ends c.replies_end.result (subst (λ n. RowEnded s.bytes.now false s.at n c.replies_end.result) c.singles.ensures (c.replies_end.ensures s.inside (ap (wholly_row s.bytes.now false s.at) c.singles.ensures ∙ w.whole)))

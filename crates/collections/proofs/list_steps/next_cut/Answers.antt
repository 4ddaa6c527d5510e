use Rattle.std.proofs.Common.{◌<◌, length, arith}
use Rattle.reply.specs.View.{nodes_of}
use Rattle.collections.proofs.CutSteps.{cut_step, cut_falls}
use Rattle.collections.proofs.list_steps.next_cut.Goals as goal

pub returns : goal.returns
returns g c =
    let ns = nodes_of c.args.left.now.replies.rest in
    let ms = nodes_of c.join-row.new.items in
    let m = g.K.Rows.more c.args.kind.now in
    let h : 0 < length ns = omega (arith, c.len.ensures.count) in
    record {
      step = cut_step (g.K.Rows.joined c.args.kind.now c.args.left.now.first) m ns ms c.join-row.result h c.join-row.ensures.value c.join-row.ensures.rest;
      falls = cut_falls m ns ms c.join-row.result _ _ h (omega (arith, c.len.ensures.count, c.len.ensures.left)) (omega (arith, c.len-left.ensures.count, c.len-left.ensures.left)) c.join-row.ensures.rest;
    }

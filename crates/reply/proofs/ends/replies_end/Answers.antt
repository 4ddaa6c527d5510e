use Rattle.std.proofs.Common.{refl, ap, ◌∙◌, arith}
use Rattle.std.proofs.lemmas.List.{take_rest}
use Rattle.reply.specs.Pass.{passed_of}
use Rattle.reply.specs.Tree.{wholly_row}
use Rattle.reply.proofs.Passes.{pass_start, pass_more, pass_never}
use Rattle.reply.proofs.ends.replies_end.Goals as goal

pub loop-left-init : goal.loop-left-init
unfolding wholly_row
loop-left-init c le h = pass_start c.args.bytes.now c.args.at c.args.replies le h

pub returns-then-end-bytes : goal.returns-then-end-bytes
returns-then-end-bytes c le h = absurd (pass_never c.args.bytes.now c.args.at c.args.replies c.loop-left.end c.loop-left.left (c.loop-left.invariant le h) (omega arith) (omega arith))

pub loop-left-preserved : goal.loop-left-preserved
loop-left-preserved c le h =
    let bs = c.args.bytes.now in
    pass_more bs c.args.at c.args.replies c.loop-left.end c.loop-left.left _ _ c.pass-len.result (c.loop-left.invariant le h) (omega arith) (c.pass-len.ensures ∙ ap passed_of (take_rest bs c.loop-left.end)) refl
    c.saturating_add-left.ensures (omega arith)

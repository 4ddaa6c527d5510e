use Rattle.std.proofs.Common.{◌+◌, false, drop, sym, ap, ◌∙◌, arith}
use Rattle.resp.specs.Out.{ok}
use Rattle.reply.specs.Tree.{wholly}
use Rattle.reply.specs.View.{node_of}
use Rattle.reply.proofs.Rows.{walk_ended, ok_read, node_is}
use Rattle.reply.proofs.whole.check.Goals as goal

pub invariant_of-result : goal.invariant_of-result
unfolding wholly
invariant_of-result c =
    let w = walk_ended c.args.bytes.now 0 c.in_ok-walk.field-0 (omega arith) (sym c.in_ok-walk.ensures.answer) in
    record { whole = ok_read _ w.tree _ w.reads; inside = omega arith }

pub returns-clause-tree : goal.returns-clause-tree
unfolding node_of
returns-clause-tree c =
    let bs = c.args.bytes.now in
    let w = walk_ended bs 0 c.in_ok-walk.field-0 (omega arith) (sym c.in_ok-walk.ensures.answer) in
    let rest = drop (0 + c.in_ok-walk.field-0) bs in
    record { rest = rest; reads = w.reads ∙ ap (λ n. ok n rest) (sym (node_is bs false 0 w.tree rest w.reads)) }

use Rattle.std.proofs.Common.{arith, rules}
use Rattle.std.proofs.lemmas.Result.{err_from_is_err_and}
use Rattle.resp.proofs.Walks.{walk_shut, push_some, push_fault, push_other, rest_items, rest_push, rest_more, rest_fault}
use Rattle.resp.proofs.walking.+walk_at.Goals as goal
use Rattle.resp.proofs.walking.+walk_at.Goals.{then-named+in_ok-first+in_ok-end, else-named}

pub returns-in_err-items : goal.returns-in_err-items
returns-in_err-items t c = search (rules, walk_shut)

pub returns-in_err-first : goal.returns-in_err-first
returns-in_err-first t c = search (rules, push_fault)

pub returns-in_err-end : goal.returns-in_err-end
returns-in_err-end t c = search (rules, push_other)

pub overflow_sub-left : goal.overflow_sub-left
overflow_sub-left t c = search (rules, push_some)

pub loop-item-init : goal.loop-item-init
loop-item-init t c = search (rules, rest_items, rest_push)

pub returns-in_err-end-2 : goal.returns-in_err-end-2
returns-in_err-end-2 t c =
    let p = err_from_is_err_and c.from_residual-in_err-end-2.result c.from_residual-in_err-end-2.ensures.1 in
    rw (p.1, p.2)
    (rest_fault c.args.bytes.now c.args.at c.args.depth_left c.if-named.left c.loop-item._item c.loop-item.end c.in_err-end-2.field-0.0 c.loop-item.invariant (omega arith) c.in_err-end-2.ensures)

pub loop-item-preserved : goal.loop-item-preserved
loop-item-preserved t c = search (rules, rest_more)

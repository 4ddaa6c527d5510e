use Rattle.std.proofs.Common.{sym, ap, ◌∙◌, subst, arith}
use Rattle.std.specs.Option.{unwrap_or}
use Rattle.std.proofs.lemmas.List.{take_rest}
use Rattle.std.proofs.lemmas.Result.{err_from_is_err_and}
use Rattle.resp.specs.Cases.{Cased, case_of}
use Rattle.resp.specs.Node.{erase}
use Rattle.resp.specs.Told.{opened}
use Rattle.station.proofs.Steps.{stands_inside, not_too_deep, told_case, no_case, no_fault, start, child, next, finish}
use Rattle.station.proofs.listing.+note_reply.Goals as goal
use Rattle.station.proofs.listing.+note_reply.Goals.{then-at-bytes-via-then-at-bytes, then-at-bytes-via-else-at-bytes+then-level-ge-DEEPEST}

pub returns-then-at-bytes : goal.returns-then-at-bytes
returns-then-at-bytes t c tree rest e =
    elim c.then-at-bytes.branch [
      | then-at-bytes-via-then-at-bytes w ↦ absurd (stands_inside c.args.bytes.now c.args.at c.args.level tree rest e (omega arith))
      | then-at-bytes-via-else-at-bytes+then-level-ge-DEEPEST w ↦ absurd (not_too_deep c.args.bytes.now c.args.at c.args.level tree rest e (omega arith))
    ]

pub returns-in_err-items : goal.returns-in_err-items
returns-in_err-items t c tree rest e =
    let bs = c.args.bytes.now in
    absurd (no_fault bs c.args.at c.args.level tree rest (omega arith) e c.in_err-items.field-0.0 (c.in_err-items.ensures ∙ ap opened (take_rest bs c.args.at)))

pub returns-in_err-case : goal.returns-in_err-case
returns-in_err-case t c tree rest e =
    let bs = c.args.bytes.now in
    let cased = subst (λ l. Cased l c.case_of.result) (take_rest bs c.args.at) c.case_of.ensures.tree in
    absurd (no_case c.case_of.result _ c.in_err-case.ensures.variant (told_case bs c.args.at c.args.level tree rest (omega arith) e c.case_of.result cased))

pub loop-item-init : goal.loop-item-init
loop-item-init t c tree rest e =
    let bs = c.args.bytes.now in
    let p = c.args.at in
    let level = c.args.level in
    let s = start bs p level tree rest (omega arith) e c.in_ok-items.field-0 (c.in_ok-items.ensures ∙ ap opened (take_rest bs p)) in
    let told = told_case bs p level tree rest (omega arith) e c.case_of.result (subst (λ l. Cased l c.case_of.result) (take_rest bs p) c.case_of.ensures.tree) in
    let case = ap (λ o. unwrap_or o c.in_ok-case.case) (sym c.in_ok-case.ensures.ok_part ∙ told) in
    (omega (arith, c.len-index.ensures), s.going c.args.notes.now.items c.push.new.self.items c.in_ok-case.case c.saturating_add-end.result case c.in_ok-push.ensures.items (omega (arith, s.fits)))

pub returns-in_err-end : goal.returns-in_err-end
returns-in_err-end t c tree rest e =
    let bs = c.args.bytes.now in
    let w = c.loop-item.invariant tree rest e in
    let one = child bs c.args.at c.args.level tree rest c.args.notes.now.items c.loop-item.notes.items c.in_ok-items.field-0.items c.loop-item._item c.loop-item.end w.1 (omega arith) in
    let p = err_from_is_err_and c.from_residual-in_err-end.result c.from_residual-in_err-end.ensures.1 in
    rw (p.1, p.2) (c.in_err-end.ensures one.node one.more one.reads)

pub loop-item-preserved : goal.loop-item-preserved
loop-item-preserved t c tree rest e =
    let w = c.loop-item.invariant tree rest e in (
      w.0,
      next c.args.bytes.now c.args.at c.args.level tree rest c.args.notes.now.items c.loop-item.notes.items c.note_reply.new.notes.items c.in_ok-items.field-0.items c.loop-item._item c.loop-item.end c.in_ok-end.end
          w.1 (omega arith) c.in_ok-end.ensures,
    )

pub returns : goal.returns
returns t c tree rest e =
    let w = c.loop-item.invariant tree rest e in
    finish c.args.bytes.now c.args.at c.args.level tree rest c.args.notes.now.items c.loop-item.notes.items c.set_end.new.notes.items c.in_ok-items.field-0.items c.loop-item._item c.loop-item.end c.len-index.result
    w.1 (omega arith) w.0 c.set_end.ensures

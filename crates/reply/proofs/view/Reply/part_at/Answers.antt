use Rattle.std.proofs.Common.{◌≡◌, true, false, Some, None, sym, ap, ◌∙◌, subst}
use Rattle.reply.specs.Inside.{Among}
use Rattle.reply.specs.Find.{told, find, find_among}
use Rattle.reply.specs.View.{node_of}
use Rattle.reply.proofs.Finds.{find_here, find_below, inner_size}
use Rattle.reply.proofs.view.Reply.part_at.Goals as goal

pub returns-in_err-here-clause-tree : goal.returns-in_err-here-clause-tree
returns-in_err-here-clause-tree c =
    let s = c.args.spot in
    let here = node_of c.loop-spot.here in
    let other = sym c.loop-spot-test.ensures in
    ap told c.from_residual.ensures ∙ sym (c.loop-spot.invariant.0 ∙ find_below s here other ∙ ap (find_among s) (sym c.inner.ensures.trees ∙ c.in_err-here.ensures))

pub loop-spot-preserved : goal.loop-spot-preserved
loop-spot-preserved c =
    let s = c.args.spot in
    let other = sym c.loop-spot-test.ensures in
    let narrowed = c.in_ok-here.ensures in (
      c.loop-spot.invariant.0 ∙ find_below s (node_of c.loop-spot.here) other ∙ ap (find_among s) (sym c.inner.ensures.trees) ∙ narrowed.holds,
      narrowed.bytes ∙ c.inner.ensures.bytes ∙ c.loop-spot.invariant.1,
    )

pub loop-spot-smaller : goal.loop-spot-smaller
loop-spot-smaller c =
    inner_size (node_of c.in_ok-here.here) (node_of c.loop-spot.here) (subst (Among (node_of c.in_ok-here.here)) c.inner.ensures.trees c.in_ok-here.ensures.among)

pub returns : goal.returns
returns c =
    let s = c.args.spot in
    let here = node_of c.loop-spot.here in
    let is = sym c.loop-spot-test.ensures in
    record { tree = sym (c.loop-spot.invariant.0 ∙ find_here s here is); bytes = c.loop-spot.invariant.1 }

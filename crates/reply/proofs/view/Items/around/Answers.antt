use Rattle.std.proofs.Common.{arith}
use Rattle.reply.proofs.Arounds.{no_more, at_next, at_the_last, stopped}
use Rattle.reply.proofs.view.Items.around.Goals as goal

pub returns-then-self-eq0 : goal.returns-then-self-eq0
returns-then-self-eq0 c = no_more c.args.self (omega arith)

pub returns-then-spot-others : goal.returns-then-spot-others
returns-then-spot-others c =
    stopped c.args.spot c.args.self c.loop-here.here c.in_ok-first.first c.next.new.self c.loop-here.invariant c.in_ok-first.ensures.steps (omega arith)

pub loop-here-preserved : goal.loop-here-preserved
loop-here-preserved c =
    let passes = c.in_ok-first.ensures.steps in
    let left = passes.left in
    at_next c.args.spot c.args.self c.loop-here.here c.in_ok-first.first c.next.new.self c.loop-here.invariant passes (omega arith) (omega arith)

pub returns : goal.returns
returns c =
    let some = c.loop-here.invariant.some in
    at_the_last c.args.spot c.args.self c.loop-here.here c.first.result c.loop-here.invariant c.first.ensures.bytes (c.first.ensures.one (omega arith))

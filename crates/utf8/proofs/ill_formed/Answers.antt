use Rattle.std.proofs.Common.{sym, subst, arith}
use Rattle.utf8.proofs.Turns.{After, Answer, pass, turn, finish}
use Rattle.utf8.proofs.ill_formed.Goals as goal

pub loop-i-preserved-then-passes : goal.loop-i-preserved-then-passes
loop-i-preserved-then-passes c = pass c.loop-i.state c.loop-i.invariant (omega arith) (sym c.if-passes.ensures)

pub loop-i-preserved : goal.loop-i-preserved
loop-i-preserved c = subst (After c.args.text.now c.loop-i.i) (sym c.in-Ok.ensures) (turn c.loop-i.state c.loop-i.invariant (omega arith))

pub returns-in-Err : goal.returns-in-Err
returns-in-Err c = subst (After c.args.text.now c.loop-i.i) (sym c.in-Err.ensures) (turn c.loop-i.state c.loop-i.invariant (omega arith))

pub returns : goal.returns
returns c = subst (Answer c.args.text.now) (sym c.end.ensures) (finish c.loop-i.state c.loop-i.invariant (omega arith))

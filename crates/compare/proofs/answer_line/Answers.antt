-- The bytes that the question holds are those that were looked at.
use Rattle.std.proofs.Common.{vec_items}
use Rattle.compare.proofs.Answered.{of_question}
use Rattle.compare.proofs.answer_line.Goals as goal

pub returns-in-Ok : goal.returns-in-Ok
returns-in-Ok c = rw c.answer_wire.ensures (of_question c.args.line.now (vec_items c.in-Ok.question.bytes) c.deref.result.now c.in-Ok.question.shape c.in-Ok.ensures c.deref.ensures.value)

-- The line is cut at its tab, and no shape has the name before it.
use Rattle.std.proofs.Common.{◌≡◌, arith, rules}
use Rattle.std.proofs.lemmas.Result.{err_from_is_err_and}
use Rattle.compare.specs.Lines.{Cut}
use Rattle.compare.specs.declared.answer.BadLine.TheVariants.{UnknownShape}
use Rattle.compare.specs.declared.question.Refusal.TheVariants.{Bad}
use Rattle.compare.proofs.question.Question.read.Goals as goal

pub returns-in_err-shape : goal.returns-in_err-shape
returns-in_err-shape c =
    let cut : Cut c.args.line.now c.in_ok-name.name.now c.in_ok-name.text.now = search rules in
    let p = err_from_is_err_and c.from_residual-in_err-shape.result c.from_residual-in_err-shape.ensures.1 in
    let is : p.0 ≡ Bad UnknownShape = grind arith in
    rw (p.1, is) (c.in_ok-name.name.now, c.in_ok-name.text.now, cut, c.in_err-shape.ensures.1)

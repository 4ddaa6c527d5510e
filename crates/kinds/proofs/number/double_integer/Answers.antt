use Rattle.std.proofs.Common.{Err, sym, ap, ◌∙◌}
use Rattle.std.proofs.lemmas.Result.{err_from_is_err_and}
use Rattle.std.specs.Option.{ok_or}
use Rattle.reply.specs.Parts.{spot_of}
use Rattle.reply.specs.View.{node_of}
use Rattle.kinds.specs.declared.fault.ElementReason.TheVariants.{Range}
use Rattle.kinds.specs.Numbers.{between, double_integer, float_integer, float_or, or_refuse}
use Rattle.kinds.proofs.Refusals.{float_ok, float_err}
use Rattle.kinds.proofs.number.double_integer.Goals as goal

pub returns : goal.returns
unfolding double_integer
returns c =
    let p = spot_of (node_of c.args.reply) in
    let k = float_integer p c.args.bounds in
    c.ok_or.ensures.value
    ∙ ap (ok_or c.in_range.result) c.refuse.ensures
    ∙ ap (or_refuse Range p) (c.in_range.ensures ∙ ap (between c.args.bounds) c.whole_of.ensures)
    ∙ float_ok p k c.read_double.result c.in_ok-x.x (sym c.float_or_refuse.ensures ∙ c.in_ok-x.was)
    ∙ ap (float_or p k) c.read_double.ensures

pub returns-in_err-x : goal.returns-in_err-x
unfolding double_integer
returns-in_err-x c =
    let p = spot_of (node_of c.args.reply) in
    let k = float_integer p c.args.bounds in
    let w = err_from_is_err_and c.from_residual.result c.from_residual.ensures.1 in
    w.1 ∙ ap Err w.2 ∙ float_err p k c.read_double.result c.in_err-x.field-0.0 (sym c.float_or_refuse.ensures ∙ c.in_err-x.was) ∙ ap (float_or p k) c.read_double.ensures

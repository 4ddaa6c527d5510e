use Rattle.std.proofs.Common.{Err, sym, refl, ap, ◌∙◌}
use Rattle.std.proofs.lemmas.Result.{err_from_is_err_and}
use Rattle.reply.specs.Parts.{spot_of, unwrapped}
use Rattle.reply.specs.Parted.{integer_in}
use Rattle.reply.specs.View.{node_of}
use Rattle.kinds.specs.Numbers.{integer_by, text_integer}
use Rattle.kinds.specs.Texts.{text_in}
use Rattle.kinds.proofs.Refusals.{bulk_refused}
use Rattle.kinds.proofs.number.whole_number.Goals as goal

pub returns-in_err-check_utf8-in-BulkString : goal.returns-in_err-check_utf8-in-BulkString
returns-in_err-check_utf8-in-BulkString c =
    let p = spot_of (node_of c.args.reply) in
    let n = node_of c.unwrapped-inner.result in
    let w = err_from_is_err_and c.from_residual.result c.from_residual.ensures.1 in
    w.1 ∙ ap Err w.2
    ∙ bulk_refused p n (unwrapped (node_of c.args.reply)) c.text_of-text.result.now c.in_err-check_utf8-in-BulkString.field-0.0 (λ n. integer_by p c.args.bounds (integer_in n) (text_in n)) (text_integer p c.args.bounds (text_in n))
    c.in-BulkString.ensures c.text_of-text.ensures (sym c.check_utf8.ensures ∙ c.in_err-check_utf8-in-BulkString.was) c.unwrapped-inner.ensures.tree refl

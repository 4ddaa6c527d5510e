use Rattle.std.proofs.Common.{Ok, Err, sym, refl, ap, ◌∙◌}
use Rattle.std.proofs.lemmas.Result.{err_from_is_err_and}
use Rattle.reply.specs.Parts.{spot_of, unwrapped}
use Rattle.reply.specs.Parted.{part_of}
use Rattle.reply.specs.View.{node_of}
use Rattle.kinds.specs.Plain.{text_by}
use Rattle.kinds.specs.Texts.{text_in}
use Rattle.kinds.proofs.Refusals.{bulk_refused}
use Rattle.kinds.proofs.plain.TextFromRedisValue.from_redis_value.Goals as goal

pub returns-in_err-check_utf8-in-BulkString : goal.returns-in_err-check_utf8-in-BulkString
returns-in_err-check_utf8-in-BulkString c =
    let p = spot_of (node_of c.args.reply) in
    let n = node_of c.unwrapped-inner.result in
    let w = err_from_is_err_and c.from_residual.result c.from_residual.ensures.1 in
    w.1 ∙ ap Err w.2
    ∙ bulk_refused p n (unwrapped (node_of c.args.reply)) c.text_of.result.now c.in_err-check_utf8-in-BulkString.field-0.0 (λ n. text_by p (text_in n) (part_of n)) (Ok (part_of n))
    c.in-BulkString.ensures c.text_of.ensures (sym c.check_utf8.ensures ∙ c.in_err-check_utf8-in-BulkString.was) c.unwrapped-inner.ensures.tree refl

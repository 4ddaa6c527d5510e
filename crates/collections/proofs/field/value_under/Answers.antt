use Rattle.std.proofs.Common.{◌≡◌, Ok, Err, sym, refl, ap, ◌∙◌, subst}
use Rattle.std.proofs.lemmas.Result.{err_from_is_err_and}
use Rattle.reply.specs.View.{node_of, nodes_of}
use Rattle.kinds.specs.Plain.{text_one, value_one}
use Rattle.kinds.specs.Rows.{many_by}
use Rattle.collections.specs.Maps.{entries, entry_one}
use Rattle.collections.specs.Picks.{NamedAs, last_named, named, value_under}
use Rattle.collections.proofs.EntrySteps.{done, stopped}
use Rattle.collections.proofs.MapSteps.{made_of}
use Rattle.collections.proofs.field.value_under.Goals as goal

pub returns : goal.returns
returns c =
    let name = c.args.name.now in
    let ms = nodes_of c.in_ok-items.items in
    made_of (named name) refl (node_of c.args.reply) ms c.in_ok-items.ensures
    ∙ done (many_by (entry_one text_one value_one) (entries ms)) (λ _. Ok (last_named name ms)) _ c.in_ok-check_entries.field-0
    (sym c.in_ok-check_entries.was ∙ c.check_entries.ensures) (λ _. ap Ok (sym c.last_named.ensures))

pub returns-in_err-check_entries : goal.returns-in_err-check_entries
returns-in_err-check_entries c =
    let name = c.args.name.now in
    let ms = nodes_of c.in_ok-items.items in
    let w = err_from_is_err_and c.from_residual-in_err-check_entries.result c.from_residual-in_err-check_entries.ensures.1 in
    let refused : value_under name (node_of c.args.reply) ≡ Err w.0 =
    made_of (named name) refl (node_of c.args.reply) ms c.in_ok-items.ensures
    ∙ stopped (many_by (entry_one text_one value_one) (entries ms)) (λ _. Ok (last_named name ms)) c.in_err-check_entries.field-0.0
    (sym c.in_err-check_entries.was ∙ c.check_entries.ensures)
    ∙ ap Err (sym w.2) in
    subst (NamedAs (value_under name (node_of c.args.reply))) (sym w.1) refused

use Rattle.std.proofs.Common.{ap, ◌∙◌}
use Rattle.std.proofs.lemmas.Slice.Eq.{slice_eq-Decides}
use Rattle.reply.specs.View.{node_of}
use Rattle.kinds.specs.Same.{key_of_text, same_key, text_key}
use Rattle.kinds.proofs.SameTexts.{same_name}
use Rattle.collections.proofs.field.is_named.Goals as goal
use Rattle.std.proofs.lemmas.Bool.Decides.{Decides-eqb}

pub returns : goal.returns
returns c =
    same_name (node_of c.unwrapped.result) _ _ c.eq.result c.text.ensures.says (slice_eq-Decides Decides-eqb _ _ _ c.eq.ensures)
    ∙ ap (λ n. same_key (text_key n) (key_of_text c.args.name.now)) c.unwrapped.ensures.tree

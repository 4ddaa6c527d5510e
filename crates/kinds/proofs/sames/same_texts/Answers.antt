use Rattle.reply.specs.View.{node_of}
use Rattle.std.proofs.lemmas.Slice.Eq.{slice_eq-Decides}
use Rattle.kinds.proofs.SameTexts.{same_bytes}
use Rattle.kinds.proofs.sames.same_texts.Goals as goal
use Rattle.std.proofs.lemmas.Bool.Decides.{Decides-eqb}

pub returns : goal.returns
returns c =
    same_bytes (node_of c.args.a) (node_of c.args.b) _ _ c.eq.result c.text.ensures.says c.text-2.ensures.says (slice_eq-Decides Decides-eqb _ _ _ c.eq.ensures)

use Rattle.std.proofs.Common.{rules, ◌≡◌, Bool, true, false, not, ◌||◌, cond, ap, ◌∙◌, refl}
use Rattle.std.specs.Prelude.{MatchOption}
use Rattle.reply.specs.Rows.{Over, Passes}
use Rattle.reply.specs.View.{node_of, nodes_of}
use Rattle.kinds.specs.Tuples.{is_tuple, tuple_flat}
use Rattle.kinds.proofs.Anys.{any_is}
use Rattle.kinds.proofs.tuple.tuple_flat.Goals as goal

or_else : (t r : Bool) → cond t r true ≡ (not t || r)
or_else true r = refl
or_else false r = refl

pub returns : goal.returns
returns g c =
    let beside = g.T.Tuple.BESIDE in
    any_is (λ row first others. MatchOption first (Over row others) (λ reply. Passes row reply others)) _ _ c.args.items _ _ c.any.ensures.ran (λ reply. not (is_tuple beside (node_of reply))) (λ s. tuple_flat beside (nodes_of s)) (λ y r q k. search rules)
    (λ s u over. ap (tuple_flat beside) over.items)
    (λ s u reply passes. ap (tuple_flat beside) passes.items ∙ or_else (is_tuple beside (node_of reply)) (tuple_flat beside (nodes_of u)))

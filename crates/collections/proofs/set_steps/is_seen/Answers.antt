use Rattle.std.proofs.Common.{rules, take, ap, ◌∙◌}
use Rattle.std.specs.Iterator.Adapters.{take_count, take_source, take_steps}
use Rattle.std.specs.Prelude.{MatchOption}
use Rattle.reply.specs.Rows.{Over, Passes}
use Rattle.reply.specs.View.{node_of, nodes_of}
use Rattle.collections.specs.Sets.{seen_in}
use Rattle.kinds.proofs.Anys.{any_is}
use Rattle.collections.proofs.SetSteps.{seen_more, seen_none}
use Rattle.collections.proofs.set_steps.is_seen.Goals as goal

pub returns : goal.returns
returns g c =
    let alike = g.K.Same.alike c.args.kind.now in
    let x = node_of c.args.reply in
    any_is (take_steps (λ row first others. MatchOption first (Over row others) (λ reply. Passes row reply others))) _ _ c.take.result _ _ c.any.ensures.ran (λ earlier. alike (node_of earlier) x) (λ s. seen_in alike x (take (take_count s) (nodes_of (take_source s)))) (λ y r q k. search rules)
    (λ s u over. seen_none alike x (take_count s) (nodes_of (take_source s)) (λ h. (over h).items))
    (λ s u earlier passes. seen_more alike x _ _ (node_of earlier) _ _ passes.1 passes.0.items)
    ∙ ap (λ i. seen_in alike x (take c.take.result.n (nodes_of i))) c.take.ensures.source
    ∙ ap (λ n. seen_in alike x (take n (nodes_of c.args.all))) c.take.ensures.count

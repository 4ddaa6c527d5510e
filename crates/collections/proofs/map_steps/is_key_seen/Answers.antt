use Rattle.std.proofs.Common.{rules, ◌*◌, take, ap, ◌∙◌}
use Rattle.std.specs.Iterator.Adapters.{take_count, take_source, take_steps}
use Rattle.reply.specs.View.{node_of, nodes_of}
use Rattle.std.specs.Prelude.{MatchOption}
use Rattle.collections.specs.Entries.{NoEntry, PassesEntry}
use Rattle.collections.specs.Maps.{seen_key}
use Rattle.kinds.proofs.Anys.{any_is}
use Rattle.collections.proofs.SetSteps.{key_more, key_none}
use Rattle.collections.proofs.map_steps.is_key_seen.Goals as goal

pub returns : goal.returns
returns g c =
    let alike = g.K.Same.alike c.args.keys.now in
    let x = node_of c.args.key in
    any_is (take_steps (λ row first others. MatchOption first (NoEntry row others) (λ entry. PassesEntry row entry others))) _ _ c.take.result _ _ c.any.ensures.ran (λ earlier. alike (node_of earlier.key) x) (λ s. seen_key alike x (take (2 * take_count s) (nodes_of (take_source s).rest))) (λ y r q k. search rules)
    (λ s u over. key_none alike x (take_count s) (nodes_of (take_source s).rest) (λ h. (over h).few))
    (λ s u earlier passes. key_more alike x _ _ (node_of earlier.key) _ _ _ passes.1 passes.0.items)
    ∙ ap (λ i. seen_key alike x (take (2 * c.take.result.n) (nodes_of i.rest))) c.take.ensures.source
    ∙ ap (λ n. seen_key alike x (take (2 * n) (nodes_of c.args.all))) c.take.ensures.count

use Rattle.std.proofs.Common.{rules, refl, subst}
use Rattle.std.proofs.lemmas.Iterator.{YieldsList}
use Rattle.std.proofs.lemmas.Iterator.Consumers.{YieldsList-from_filter}
use Rattle.reply.specs.View.{node_of, nodes_of}
use Rattle.collections.specs.Maps.{entries}
use Rattle.collections.proofs.Yielded.{both_of, entries_yield, entry_steps, last_for_is, last_is}
use Rattle.collections.proofs.map_steps.last_value.Goals as goal

pub returns : goal.returns
returns g c =
    let alike = g.K.Same.alike c.args.keys.now in
    let k = node_of c.args.key in
    let ns = nodes_of c.args.items in
    let source : YieldsList entry_steps both_of c.filter.result.iter (entries ns) =
    subst (λ s. YieldsList entry_steps both_of c.filter.result.iter (entries (nodes_of s.rest))) c.filter.ensures.source (entries_yield c.filter.result.iter) in
    last_for_is alike k (node_of c.args.value) _ ns c.map_or.result c.args.value c.last.result refl c.map_or.ensures (λ e p. search rules)
    (last_is (YieldsList-from_filter _ (λ e. alike k e.0) source c.filter.ensures.closure (λ x b q k. search rules)) c.last.result c.last.ensures.ran)

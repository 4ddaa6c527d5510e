use Rattle.std.proofs.Common.{rules, subst}
use Rattle.std.proofs.lemmas.Iterator.{YieldsList}
use Rattle.std.proofs.lemmas.Iterator.Consumers.{YieldsList-from_filter}
use Rattle.reply.specs.View.{nodes_of}
use Rattle.collections.specs.Maps.{entries}
use Rattle.collections.specs.Picks.{is_named}
use Rattle.collections.proofs.Yielded.{both_of, entries_yield, entry_steps, last_is, last_named_is}
use Rattle.collections.proofs.field.last_named.Goals as goal

pub returns : goal.returns
returns c =
    let name = c.args.name.now in
    let ns = nodes_of c.args.items in
    let source : YieldsList entry_steps both_of c.filter.result.iter (entries ns) =
    subst (λ s. YieldsList entry_steps both_of c.filter.result.iter (entries (nodes_of s.rest))) c.filter.ensures.source (entries_yield c.filter.result.iter) in
    last_named_is name _ ns c.map.result c.last.result c.map.ensures.cases (λ e v p. search rules)
    (last_is (YieldsList-from_filter _ (λ e. is_named name e.0) source c.filter.ensures.closure (λ x b q k. search rules)) c.last.result c.last.ensures.ran)

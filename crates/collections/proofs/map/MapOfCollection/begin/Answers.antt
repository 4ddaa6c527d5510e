use Rattle.std.proofs.Common.{sym, refl, ap, ◌∙◌}
use Rattle.reply.specs.View.{node_of, nodes_of}
use Rattle.kinds.specs.Rows.{many_by}
use Rattle.collections.specs.Maps.{entries, entry_one, map_left, map_of, merged}
use Rattle.collections.proofs.EntrySteps.{done}
use Rattle.collections.proofs.MapSteps.{made_of}
use Rattle.collections.proofs.map.MapOfCollection.begin.Goals as goal

pub returns : goal.returns
returns g c =
    let key = g.K.FromRedisValue.one c.args.self.now.0 in
    let value = g.V.FromRedisValue.one c.args.self.now.1 in
    let alike = g.K.Same.alike c.args.self.now.0 in
    let ms = nodes_of c.in_ok-items.items in
    made_of (map_of key value alike) refl (node_of c.args.reply) ms c.in_ok-items.ensures
    ∙ done (many_by (entry_one key value) (entries ms)) (λ _. many_by (entry_one key value) (merged alike ms)) _ c.in_ok-check_entries.field-0
    (sym c.in_ok-check_entries.was ∙ c.check_entries.ensures) (λ _. sym (ap (map_left key value alike) c.distinct.ensures))

use Rattle.std.proofs.Common.{◌+◌, ◌-◌, ◌≡◌, ◌/◌, length, refl, ap, ◌∙◌, arith}
use Rattle.reply.specs.View.{node_of, nodes_of}
use Rattle.collections.specs.Maps.{entry_one, last_for, merged_in}
use Rattle.collections.proofs.SetSteps.{many_step, merged_here, merged_more}
use Rattle.collections.proofs.map.MapOf.next_key.Goals as goal

pub loop-entry-preserved : goal.loop-entry-preserved
loop-entry-preserved g c =
    let p = c.in_ok-entry.ensures.steps in
    let all = nodes_of c.loop-entry.classes.all in
    let ns = nodes_of c.loop-entry.entries.rest in
    let ms = nodes_of c.next.new.self.rest in
    let count : length ns ≡ length ms + 2 = omega (arith, ap length p.items) in
    let before : c.saturating_sub-before.result / 2 ≡ (length all - (length ms + 2)) / 2 = omega (arith, count, c.len.ensures.count, c.len-in-loop-entry.ensures.count, c.saturating_sub-before.ensures) in
    let more = merged_more (g.K.Same.alike c.args.self.now.0) all (node_of c.in_ok-entry.entry.key) (node_of c.in_ok-entry.entry.value) ns ms _ p.items before c.is_key_seen.result c.is_key_seen.ensures c.if-not-is_key_seen.false in
    let left = p.left in
    let less = c.loop-entry.invariant.1 in
    (c.loop-entry.invariant.0 ∙ more, omega arith, refl, c.loop-entry.invariant.3)

pub returns-then-not-is_key_seen-clause-step : goal.returns-then-not-is_key_seen-clause-step
returns-then-not-is_key_seen-clause-step g c =
    let p = c.in_ok-entry.ensures.steps in
    let alike = g.K.Same.alike c.args.self.now.0 in
    let all = nodes_of c.loop-entry.classes.all in
    let ns = nodes_of c.loop-entry.entries.rest in
    let ms = nodes_of c.next.new.self.rest in
    let key = node_of c.in_ok-entry.entry.key in
    let value = node_of c.in_ok-entry.entry.value in
    let count : length ns ≡ length ms + 2 = omega (arith, ap length p.items) in
    let before : c.saturating_sub-before.result / 2 ≡ (length all - (length ms + 2)) / 2 = omega (arith, count, c.len.ensures.count, c.len-in-loop-entry.ensures.count, c.saturating_sub-before.ensures) in
    let here = merged_here alike all key value ns ms _ p.items before c.is_key_seen.result c.is_key_seen.ensures c.if-not-is_key_seen.true in
    let one = entry_one (g.K.FromRedisValue.one c.args.self.now.0) (g.V.FromRedisValue.one c.args.self.now.1) in
    many_step one (key, last_for alike key value ms) (merged_in alike all ms) (merged_in alike (nodes_of c.args.classes.now.all) (nodes_of c.args.classes.now.rest)) c.read_entry.result
    (c.loop-entry.invariant.0 ∙ here) (c.read_entry.ensures ∙ ap (λ v. one (key, v)) c.last_value-value.ensures)

use Rattle.std.proofs.Common.{sym, ap, ◌∙◌}
use Rattle.reply.specs.Parted.{textual}
use Rattle.reply.specs.View.{node_of}
use Rattle.reply.specs.Tree.{wholly, node_at}
use Rattle.reply.proofs.LeafParts.{no_part, start_at}
use Rattle.reply.proofs.Sayings.{part_says}
use Rattle.reply.proofs.view.Reply.text_part.Goals as goal

pub returns-then-has_text : goal.returns-then-has_text
unfolding node_of wholly
returns-then-has_text c =
    let bs = c.args.self.bytes.now in
    let p = c.args.self.at in
    let m = c.args.self.pair in
    let is = c.leaf_part.ensures in
    let says = part_says bs m p c.args.self.inside c.args.self.whole c.leaf_part.result is in
    record { part = is; says = says.0; inside = says.1 }

pub returns : goal.returns
unfolding node_of wholly
returns c =
    let bs = c.args.self.bytes.now in
    let p = c.args.self.at in
    let m = c.args.self.pair in
    let is = no_part (node_at bs m p) p (start_at bs m p c.args.self.inside c.args.self.whole)
    (ap textual (sym c.case.ensures) ∙ sym c.if-has_text.ensures) in
    let says = part_says bs m p c.args.self.inside c.args.self.whole (record { start = p; len = 0 }) is in
    record { part = is; says = says.0; inside = says.1 }

use Rattle.std.proofs.Common.{refl}
use Rattle.reply.specs.View.{node_of}
use Rattle.reply.specs.Tree.{wholly}
use Rattle.reply.proofs.Views.{value_same, value_is}
use Rattle.reply.proofs.SingleRows.{key_ended}
use Rattle.reply.proofs.view.Reply.value.Goals as goal

pub returns-then-not-self : goal.returns-then-not-self
unfolding node_of wholly
returns-then-not-self c = record { tree = value_same c.args.self.bytes.now c.args.self.pair c.args.self.at c.if-not-self.true c.args.self.inside c.args.self.whole; bytes = refl }

pub invariant_of-result : goal.invariant_of-result
unfolding wholly
invariant_of-result c =
    let s = c.args.self in
    let v = value_is s.bytes.now s.pair s.at c.end.result c.if-not-self.false s.whole (key_ended c.key.result s c.end.result c.key.ensures.bytes c.key.ensures.place c.key.ensures.single c.end.ensures) in
    record { whole = v.whole; inside = v.inside }

pub returns : goal.returns
unfolding node_of wholly
returns c =
    let s = c.args.self in
    let v = value_is s.bytes.now s.pair s.at c.end.result c.if-not-self.false s.whole (key_ended c.key.result s c.end.result c.key.ensures.bytes c.key.ensures.place c.key.ensures.single c.end.ensures) in
    record { tree = v.node; bytes = refl }

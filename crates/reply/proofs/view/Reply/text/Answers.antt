use Rattle.std.proofs.Common.{◌≡◌, ◌+◌, ◌-◌, take, drop, subst, arith}
use Rattle.reply.specs.Says.{Says}
use Rattle.reply.specs.View.{node_of}
use Rattle.reply.proofs.view.Reply.text.Goals as goal

pub returns-clause-says : goal.returns-clause-says
returns-clause-says c =
    let part = c.text_part-start.result in
    let len : part.len ≡ part.start + part.len - part.start = omega arith in
    subst (λ n. Says (node_of c.args.self) (take n (drop part.start c.args.self.bytes.now))) len c.text_part-start.ensures.says

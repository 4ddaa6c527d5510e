use Rattle.std.proofs.Common.{◌∙◌}
use Rattle.reply.specs.Inside.{itself}
use Rattle.reply.specs.View.{node_of}
use Rattle.reply.proofs.Places.{views_hold}
use Rattle.writes.proofs.back.read_written.Goals as goal

pub returns : goal.returns
returns g c =
    record {
      read = c.from_redis_value.ensures;
      back = λ m can e.
          let tree = node_of c.args.reply in
          let (v, o, s) = g.met.K.Writes.one_back c.args.kind.now c.args.reply.bytes.now tree (views_hold c.args.reply) m tree itself can e in
          (v, c.from_redis_value.ensures ∙ o, s);
    }

use Rattle.reply.specs.View.{node_of}
use Rattle.collections.proofs.CountedRows.{counted_rows}
use Rattle.collections.proofs.inside.read_listed.Goals as goal

pub returns : goal.returns
returns g c =
    record {
      read = c.place_and_count.ensures;
      rows = counted_rows (g.C.Collection.rows c.args.shape.now) (node_of c.args.reply) c.place_and_count.result c.place_and_count.ensures;
    }

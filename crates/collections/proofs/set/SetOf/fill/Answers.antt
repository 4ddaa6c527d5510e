use Rattle.reply.specs.View.{node_of}
use Rattle.collections.specs.Sets.{set_rows}
use Rattle.collections.proofs.RowsRead.{set_rows_lem, table_rows}
use Rattle.collections.proofs.set.SetOf.fill.Goals as goal

pub returns : goal.returns
returns g c =
    let one = g.K.FromRedisValue.one c.args.self.now.0 in
    let alike = g.K.Same.alike c.args.self.now.0 in
    record {
      filled = c.fill_table.ensures;
      rows = λ count is.
          set_rows_lem one alike (g.met.K.Same.equality c.args.self.now.0) (node_of c.args.reply) _
          (table_rows (set_rows one alike (node_of c.args.reply)) c.args.table.now c.fill_table.new.table c.fill_table.result count c.fill_table.ensures is);
    }

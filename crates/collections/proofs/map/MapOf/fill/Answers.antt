use Rattle.reply.specs.View.{node_of}
use Rattle.collections.specs.Maps.{map_rows}
use Rattle.collections.proofs.RowsRead.{map_rows_lem, table_rows}
use Rattle.collections.proofs.map.MapOf.fill.Goals as goal

pub returns : goal.returns
returns g c =
    let key = g.K.FromRedisValue.one c.args.self.now.0 in
    let value = g.V.FromRedisValue.one c.args.self.now.1 in
    let alike = g.K.Same.alike c.args.self.now.0 in
    record {
      filled = c.fill_table.ensures;
      rows = λ count is.
          map_rows_lem key value alike (g.met.K.Same.equality c.args.self.now.0) (node_of c.args.reply) _
          (table_rows (map_rows key value alike (node_of c.args.reply)) c.args.table.now c.fill_table.new.table c.fill_table.result count c.fill_table.ensures is);
    }

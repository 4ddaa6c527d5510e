use Rattle.reply.specs.View.{node_of}
use Rattle.collections.specs.Lists.{list_rows}
use Rattle.collections.proofs.RowsRead.{list_none, list_rows_lem, table_none, table_rows}
use Rattle.collections.proofs.list.ListOf.fill.Goals as goal

pub returns : goal.returns
returns g c =
    let one = g.K.FromRedisValue.one c.args.self.now.0 in
    let flat = g.K.Rows.flat c.args.self.now.0 in
    let more = g.K.Rows.more c.args.self.now.0 in
    let joined = g.K.Rows.joined c.args.self.now.0 in
    let bytewise = g.K.Rows.bytewise c.args.self.now.0 in
    record {
      filled = c.fill_table.ensures;
      rows = λ count is.
          list_rows_lem one flat more joined bytewise (node_of c.args.reply) _
          (table_rows (list_rows one flat more joined bytewise (node_of c.args.reply)) c.args.table.now c.fill_table.new.table c.fill_table.result count c.fill_table.ensures is);
      none = λ array empty.
          table_none (list_rows one flat more joined bytewise (node_of c.args.reply)) c.args.table.now c.fill_table.new.table c.fill_table.result c.fill_table.ensures
          (list_none one flat more joined bytewise (node_of c.args.reply) array empty);
    }

use Rattle.std.proofs.Common.{refl, arith}
use Rattle.reply.specs.View.{node_of, nodes_of}
use Rattle.reply.specs.Tree.{wholly, wholly_row}
use Rattle.reply.proofs.Arounds.{no_more}
use Rattle.reply.proofs.Rows.{first_whole, row_after}
use Rattle.reply.proofs.row.ItemsIterator.next.Goals as goal

pub returns-then-self-eq0-clause-steps : goal.returns-then-self-eq0-clause-steps
returns-then-self-eq0-clause-steps c = record { none = omega arith; items = no_more c.args.self.now (omega arith); stays = refl }

pub invariant_of-reply : goal.invariant_of-reply
unfolding wholly wholly_row
invariant_of-reply c =
    let i = c.args.self.now in
    record { whole = first_whole i.bytes.now i.pairs i.at i.left (omega arith) i.whole; inside = i.inside }

pub invariant_of-self : goal.invariant_of-self
unfolding wholly_row
invariant_of-self c =
    let i = c.args.self.now in
    let after = row_after i.bytes.now i.pairs i.at i.left c.end-self.result (omega arith) i.whole c.end-self.ensures in
    record { whole = after.whole; inside = after.inside }

pub returns-clause-steps : goal.returns-clause-steps
unfolding wholly_row node_of nodes_of
returns-clause-steps c =
    let i = c.args.self.now in
    record {
      left = omega arith;
      items = (row_after i.bytes.now i.pairs i.at i.left c.end-self.result (omega arith) i.whole c.end-self.ensures).items;
      bytes = refl;
      stays = refl;
      ends = c.end-self.ensures;
    }

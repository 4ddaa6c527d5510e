use Rattle.std.proofs.Common.{◌+◌, ◌++◌, drop, ap, ◌∙◌}
use Rattle.station.specs.Listing.{noted}
use Rattle.station.proofs.Steps.{read_there}
use Rattle.station.proofs.report.print_reply.Goals as goal

pub returns : goal.returns
returns c n e =
    let there = read_there c.args.bytes.now c.args.at n e in
    let noting = c.in_ok-listed.ensures there.0 (drop (c.args.at + n) c.args.bytes.now) there.1 in
    record { tree = there.0; reads = there.1; all = noting.2 ∙ ap (λ l. l ++ noted 0 there.0) c.clear.ensures.items }

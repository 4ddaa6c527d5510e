use Rattle.std.proofs.Common.{sym, refl, arith}
use Rattle.std.proofs.lemmas.Bool.{ltb-false}
use Rattle.station.proofs.Ends.{set_ended, none_ended}
use Rattle.station.proofs.listing.set_end.Goals as goal

pub returns-in-Some : goal.returns-in-Some
returns-in-Some c =
    let some = c.in-Some.ensures.variant.0 refl in
    set_ended c.args.notes.now.items c.args.index c.args.end c.in-Some.note.now (omega (arith, some)) c.in-Some.ensures.item.1

pub returns-in_default : goal.returns-in_default
returns-in_default c = none_ended c.args.notes.now.items c.args.index c.args.end (ltb-false c.args.index _ (sym c.in_default.ensures.item.0))

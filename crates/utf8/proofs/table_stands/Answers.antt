use Rattle.utf8.proofs.Verdict.{accepts, locates}
use Rattle.utf8.proofs.Chars.{standard}
use Rattle.utf8.proofs.table_stands.Goals as goal

pub returns : goal.returns
returns c = record { accepts = accepts; locates = locates; standard = standard }

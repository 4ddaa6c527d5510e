use Rattle.std.proofs.Common.{refl}
use Rattle.kinds.specs.Numbers.{text_integer}
use Rattle.collections.proofs.laws.examples_stand.Goals as goal

pub returns : goal.returns
unfolding text_integer
returns c = record { nil = refl; text = refl; range = refl; around = refl; within = refl; cut = refl; attribute = refl; triple = refl }

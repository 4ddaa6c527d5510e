-- Lists: bytes, and what a nil has.
use Rattle.std.proofs.Common.{◌≡◌, [], refl}
use Rattle.resp.specs.declared.case.Case.TheVariants as case
use Rattle.resp.specs.Node.{Node, OneAt, ArrayAt, SetAt, PushAt, MapAt, AttributeAt, PairAt}
use Rattle.reply.specs.Parts.{parts_of}
use Rattle.kinds.specs.Texts.{case_at}

pub nil_parts : (n : Node) → case_at n ≡ case.Nil → parts_of n ≡ []
nil_parts (OneAt p e l) h = refl
nil_parts (ArrayAt p e ns) h = absurd cc
nil_parts (SetAt p e ns) h = absurd cc
nil_parts (PushAt p e ns) h = absurd cc
nil_parts (MapAt p e ps) h = absurd cc
nil_parts (AttributeAt p e ps n) h = absurd cc
nil_parts (PairAt p e k v) h = absurd cc

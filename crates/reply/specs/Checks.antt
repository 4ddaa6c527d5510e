-- Which whole reply begins the bytes, or why none does.
use Rattle.std.specs.Prelude.{◌≡◌, ℕ, List, Some, None, Ok, Err, Option, Result}
use Rattle.resp.specs.declared.fault.WireFault.{WireFault}
use Rattle.resp.specs.Out.{ok}
use Rattle.resp.specs.Node.{Node}
use Rattle.resp.specs.Answer.{located}

-- why there is none, if there is none
abbrev pub fault_of : {T : Type 0} → Result T WireFault → Option WireFault
fault_of (Ok t) = None
fault_of (Err f) = Some f

-- the bytes begin with the reply whose located tree is n
pub record Shows (bs : List ℕ) (n : Node) : Type 0 where
  pub rest : List ℕ
  pub reads : located bs ≡ ok n rest

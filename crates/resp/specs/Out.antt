-- What a reader of bytes answers.
use Rattle.std.specs.Prelude.{ℕ, List}
use Rattle.resp.specs.declared.fault.WireReason.{WireReason}

-- What was read, and the bytes after it; or a reason, and the bytes from its place on.
pub data Out (A : Type 0) : Type 0 where
  ok : A → List ℕ → Out A
  fault : WireReason → List ℕ → Out A

abbrev pub and_then : {A B : Type 0} → Out A → (A → List ℕ → Out B) → Out B
and_then (ok a rest) k = k a rest
and_then (fault n at) k = fault n at

abbrev pub map_out : {A B : Type 0} → (A → B) → Out A → Out B
map_out f (ok a rest) = ok (f a) rest
map_out f (fault n at) = fault n at

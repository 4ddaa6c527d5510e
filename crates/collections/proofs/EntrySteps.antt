-- The entries of a map, read one by one up to the first refusal.
use Rattle.std.proofs.Common.{◌≡◌, List, Ok, Err, Result, refl, ap, ◌∙◌}
use Rattle.kinds.specs.declared.fault.Fault.{Fault}
use Rattle.kinds.specs.Rows.{and_then}
use Rattle.collections.specs.Steps.{judged}

judged_ok : {V : Type 0} (r : Result (List V) Fault) (u : Unit {0}) → Ok u ≡ judged r → (vs : List V) × (r ≡ Ok vs)
judged_ok (Ok vs) u e = (vs, refl)
judged_ok (Err f) u e = cc

judged_err : {V : Type 0} (r : Result (List V) Fault) (f : Fault) → Err f ≡ judged r → r ≡ Err f
judged_err (Ok vs) f e = cc
judged_err (Err g) f e = cc

-- all entries are read, so what follows is done; or the first refusal stays
pub done : {V W : Type 0} (r : Result (List V) Fault) (k : List V → Result W Fault) (w : Result W Fault) (u : Unit {0}) → Ok u ≡ judged r → ((vs : List V) → k vs ≡ w) → and_then r k ≡ w
done r k w u e same = let p = judged_ok r u e in ap (λ o. and_then o k) p.1 ∙ same p.0

pub stopped : {V W : Type 0} (r : Result (List V) Fault) (k : List V → Result W Fault) (f : Fault) → Err f ≡ judged r → and_then r k ≡ Err f
stopped r k f e = ap (λ o. and_then o k) (judged_err r f e)

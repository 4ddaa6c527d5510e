-- The cuts of a list, one after another.
use Rattle.std.proofs.Common.{◌≡◌, ℕ, zero, suc, ◌-◌, ◌<◌, true, List, [], ◌∷◌, length, take, drop, is_ok, Some, Ok, Err, Result, sym, refl, ap, ◌∙◌, arith, length-drop}
use Rattle.kinds.specs.declared.fault.Fault.{Fault}
use Rattle.kinds.specs.Rows.{and_then, onto, many_by, cuts_from, cuts}
use Rattle.collections.specs.Steps.{Steps, Falls}

cuts_skip : {A : Type 0} (m k : ℕ) (ns : List A) → cuts_from m k ns ≡ cuts m (drop k ns)
cuts_skip m zero ns = refl
cuts_skip m (suc k) [] = refl
cuts_skip m (suc k) (n ∷ ns) = cuts_skip m k ns

pub cuts_step : {A : Type 0} (m : ℕ) (ns : List A) → 0 < length ns → cuts m ns ≡ take (suc m) ns ∷ cuts m (drop (suc m) ns)
cuts_step m [] h = absurd (omega arith)
cuts_step m (n ∷ ns) h = ap (λ cs. take (suc m) (n ∷ ns) ∷ cs) (cuts_skip m m ns)

pub many_none : {A V : Type 0} (one : A → Result V Fault) (ns : List A) → ns ≡ [] → many_by one ns ≡ Ok []
many_none one ns e = ap (many_by one) e

module _ {A V : Type 0} (joined : List A → Result V Fault) (m : ℕ) where
  open_cut : (ns : List A) (r : Result V Fault) → 0 < length ns → r ≡ joined (take (suc m) ns)
      → many_by joined (cuts m ns) ≡ and_then r (λ v. onto v (many_by joined (cuts m (drop (suc m) ns))))
  open_cut ns r h e = ap (many_by joined) (cuts_step m ns h) ∙ ap (λ x. and_then x (λ v. onto v (many_by joined (cuts m (drop (suc m) ns))))) (sym e)

  pub cut_step : (ns ms : List A) (r : Result V Fault) → 0 < length ns → r ≡ joined (take (suc m) ns) → (is_ok r ≡ true → ms ≡ drop (suc m) ns)
      → Steps (many_by joined (cuts m ns)) (Some r) (many_by joined (cuts m ms))
  cut_step ns ms (Ok v) h e d = open_cut ns (Ok v) h e ∙ ap (λ l. onto v (many_by joined (cuts m l))) (sym (d refl))
  cut_step ns ms (Err f) h e d = open_cut ns (Err f) h e

pub cut_falls : {A V : Type 0} (m : ℕ) (ns ms : List A) (r : Result V Fault) (a b : ℕ) → 0 < length ns → a ≡ length ns → b ≡ length ms → (is_ok r ≡ true → ms ≡ drop (suc m) ns) → Falls a (Some r) b
cut_falls m ns ms (Ok v) a b h p q d = let l : length ms ≡ length ns - suc m = ap length (d refl) ∙ length-drop (suc m) ns in omega arith
cut_falls m ns ms (Err f) a b h p q d = tt

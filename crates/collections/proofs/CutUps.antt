-- The cuts of a list are the list, in parts of one size.
use Rattle.std.proofs.Common.{◌≡◌, ℕ, zero, suc, ◌<◌, ◌≤◌, List, [], ◌∷◌, ◌++◌, length, take, drop, sym, refl, ap, ◌∙◌, subst, arith, length-append, length-drop, take-append-drop, length-take}
use Rattle.kinds.specs.Rows.{cuts}
use Rattle.collections.specs.Theorems.{joined_up, Sized, CutUp}
use Rattle.collections.proofs.CutSteps.{cuts_step}

not_empty : {A : Type 0} (m : ℕ) (c : List A) (cs : List (List A)) → Sized m (c ∷ cs) → 1 ≤ length c
not_empty m c [] (a, b) = a
not_empty m c (d ∷ cs) (a, b) = omega arith

-- a part of some, and those after it
sized_more : {A : Type 0} (m : ℕ) (ns : List A) (cs : List (List A)) → 0 < length ns → joined_up cs ≡ drop (suc m) ns → Sized m cs → Sized m (take (suc m) ns ∷ cs)
sized_more m ns [] h j s = let l = length-take (suc m) ns in (omega arith, omega arith)
sized_more m ns (c ∷ cs) h j s =
    let l = length-take (suc m) ns in
    let r = length-drop (suc m) ns in
    let e : length (joined_up (c ∷ cs)) ≡ length (drop (suc m) ns) = ap length j in
    let a = length-append c (joined_up cs) in
    let some = not_empty m c cs s in
    (omega arith, s)

-- k bounds the length
go : {A : Type 0} (m k : ℕ) (ns : List A) → length ns ≤ k → CutUp m ns (cuts m ns)
go m k [] h = record { joined = refl; sized = tt }
go m zero (n ∷ ns) h = absurd (omega arith)
go m (suc k) (n ∷ ns) h =
    let l = length-drop (suc m) (n ∷ ns) in
    let next = go m k (drop (suc m) (n ∷ ns)) (omega arith) in
    subst (CutUp m (n ∷ ns)) (sym (cuts_step m (n ∷ ns) (omega arith)))
    (record {
      joined = ap (λ t. take (suc m) (n ∷ ns) ++ t) next.joined ∙ take-append-drop (suc m) (n ∷ ns);
      sized = sized_more m (n ∷ ns) (cuts m (drop (suc m) (n ∷ ns))) (omega arith) next.joined next.sized;
    })

pub cuts_whole : {A : Type 0} (m : ℕ) (ns : List A) → CutUp m ns (cuts m ns)
cuts_whole m ns = go m (length ns) ns (omega arith)

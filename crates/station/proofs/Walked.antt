-- The loop over the replies of a recording.
use Rattle.std.proofs.Common.{◌≡◌, ℕ, ◌+◌, ◌-◌, ◌^◌, ◌<◌, ◌≤◌, min, List, [], ◌∷◌, ◌++◌, length, take, drop, Some, None, Err, sym, refl, subst, append_assoc, append-nil, arith}
use Rattle.std.proofs.Math.Seq.{take-add}
use Rattle.std.proofs.lemmas.List.{length-append, length-drop, drop_all}
use Rattle.resp.specs.declared.fault.WireFault.{WireFault}
use Rattle.resp.specs.Limits.{deepest}
use Rattle.resp.specs.Grammar.{Each, Whole, none, more}
use Rattle.resp.specs.Answer.{answer, Found}
use Rattle.station.specs.Surveyed.{Replies, Surveyed}

-- the first n bytes are k replies; each has a byte at least
pub record Walked (bs : List ℕ) (k n : ℕ) : Type 0 where
  pub inside : n ≤ length bs
  pub few : k ≤ n
  pub replies : Replies k (take n bs)

pub at_start : (bs : List ℕ) → Walked bs 0 0
at_start bs = record { inside = omega arith; few = omega arith; replies = ([], none, refl) }

-- one more, after the others
each_more : {A : Type 0} {W : A → List ℕ → Type 0} (l : List A) (x : List ℕ) (a : A) (y : List ℕ) → Each W l x → W a y → Each W (l ++ (a ∷ [])) (x ++ y)
each_more {W = W} _ _ a y none w = subst (Each W (a ∷ [])) (append-nil y) (more w none)
each_more {W = W} _ _ a y (more {a = b} {l = l} {x = x} {y = z} v e) w = subst (Each W (b ∷ (l ++ (a ∷ [])))) (sym (append_assoc x z y)) (more v (each_more l z a y e w))

pub one_more : (bs : List ℕ) (k n m j : ℕ) → Walked bs k n → Found (drop n bs) m → length bs < 2 ^ 64 → j ≡ min (k + 1) (2 ^ 64 - 1) → Walked bs j (n + m)
one_more bs k n m j w f small is =
    let (rs, e, count) = w.replies in
    let (within, form) = f.whole in
    let (r, whole) = form in
    let some = f.some in
    let len = length-drop n bs in
    let next : j ≡ k + 1 = omega (arith, w.few, w.inside) in
    let longer = length-append rs (r ∷ []) in
    let one : length (r ∷ []) ≡ 1 = refl in
    record {
      inside = omega (arith, w.inside);
      few = omega (arith, w.few);
      replies = (rs ++ (r ∷ []), subst (Each (Whole deepest) (rs ++ (r ∷ []))) (sym (take-add n m bs)) (each_more rs (take n bs) r (take m (drop n bs)) e whole), omega arith);
    }

pub all_walked : (bs : List ℕ) (k n : ℕ) → Walked bs k n → length bs ≤ n → Surveyed bs (record { replies = k; bytes = n; fault = None })
all_walked bs k n w h = record { inside = w.inside; replies = w.replies; stopped = drop_all n bs h }

pub stopped_there : (bs : List ℕ) (k n : ℕ) (f : WireFault) → Walked bs k n → answer (drop n bs) ≡ Err f → Surveyed bs (record { replies = k; bytes = n; fault = Some (record f { place = n + f.place }) })
stopped_there bs k n f w e = record { inside = w.inside; replies = w.replies; stopped = (f, e, refl) }

-- What the answers of the parts say.
use Rattle.std.proofs.Common.{◌≡◌, ℕ, ◌+◌, ◌-◌, ◌<◌, ◌⊎◌, List, ◌∷◌, ◌++◌, length, take, drop, Some, None, Ok, Err, Option, Result, sym, refl, ap, ◌∙◌, subst, inl, inr, arith}
use Rattle.std.proofs.lemmas.List.{drop-drop, length-drop, length-take-le, drop-append-le, take-append-drop}
use Rattle.utf8.specs.Scan.{ill_formed, Located}
use Rattle.resp.specs.declared.fault.WireReason.{WireReason}
use Rattle.resp.specs.declared.fault.WireReason.TheVariants.{NotUtf8}
use Rattle.resp.specs.declared.fault.WireFault.{WireFault}
use Rattle.resp.specs.declared.kind.Kind.{Kind}
use Rattle.resp.specs.declared.kind.Kind.TheVariants as kind
use Rattle.resp.specs.declared.closed.Closed.{Closed}
use Rattle.resp.specs.declared.opening.Opening.{Opening}
use Rattle.resp.specs.Reply.{Leaf}
use Rattle.resp.specs.Out.{Out, ok, fault, and_then, map_out}
use Rattle.resp.specs.Reading.{lined, or_ill, text, leaf_of, a_leaf, head}
use Rattle.resp.specs.Told.{held, left_after, Told, Faulty, Ends, Opens, leaf_opening}

pub told_ok : {A V : Type 0} (P : A → List ℕ → V → Type 0) (bs : List ℕ) (o : Out A) (v : V) → Told P bs o (Ok v)
    → (a : A) × (rest : List ℕ) × (o ≡ ok a rest) × P a rest v
told_ok P bs (ok a rest) v h = (a, rest, refl, h)
told_ok P bs (fault k at) v h = absurd h

pub told_err : {A V : Type 0} (P : A → List ℕ → V → Type 0) (bs : List ℕ) (o : Out A) (f : WireFault) → Told P bs o (Err f)
    → (k : WireReason) × (at : List ℕ) × (o ≡ fault k at) × Faulty bs k at f
told_err P bs (ok a rest) f h = absurd h
told_err P bs (fault k at) f h = (k, at, refl, h)

-- a fault stays the fault of what goes on from there
pub told_stop : {A B V W : Type 0} (P : A → List ℕ → V → Type 0) (Q : B → List ℕ → W → Type 0) (k : A → List ℕ → Out B) (bs : List ℕ) (o : Out A) (f : WireFault)
    → Told P bs o (Err f) → Told Q bs (and_then o k) (Err f)
told_stop P Q k bs (ok a rest) f h = absurd h
told_stop P Q k bs (fault n at) f h = h

pub told_stop_map : {A B V W : Type 0} (P : A → List ℕ → V → Type 0) (Q : B → List ℕ → W → Type 0) (g : A → B) (bs : List ℕ) (o : Out A) (f : WireFault)
    → Told P bs o (Err f) → Told Q bs (map_out g o) (Err f)
told_stop_map P Q g bs (ok a rest) f h = absurd h
told_stop_map P Q g bs (fault n at) f h = h

-- texts
module _ (v : Closed) where
  pub text_ill : (i : ℕ) → Located (held v) (ill_formed (held v)) (Some i)
      → Told (Ends v.bytes.now) v.bytes.now (text (held v) (left_after v)) (Err (record { reason = NotUtf8; place = v.from + i }))
  text_ill i h = go (ill_formed (held v)) h
    where
      place : i < length (held v) → drop i (held v) ++ (13 ∷ 10 ∷ left_after v) ≡ drop (v.from + i) v.bytes.now
      place lt =
          let bs = v.bytes.now in
          let m = v.end - v.from in
          let l = drop v.from bs in
          let back : drop m l ≡ drop v.end bs = drop-drop m v.from bs ∙ ap (λ k. drop k bs) (let z : v.from + (v.end - v.from) ≡ v.end = omega (arith, v.ordered) in z) in
          ap (λ z. drop i (take m l) ++ z) (sym (back ∙ v.closed)) ∙ sym (drop-append-le i (take m l) (drop m l) (omega arith)) ∙ ap (drop i) (take-append-drop m l) ∙ drop-drop i v.from bs

      go : (o : Option (List ℕ)) → Located (held v) o (Some i) → Told (Ends v.bytes.now) v.bytes.now (or_ill o (held v) (left_after v)) (Err (record { reason = NotUtf8; place = v.from + i }))
      go None h = absurd h
      go (Some t) h =
          let len : length (held v) ≡ v.end - v.from = length-take-le (v.end - v.from) (drop v.from v.bytes.now) (rw length-drop (omega (arith, v.inside))) in
          (refl, omega (arith, h.0, v.inside, v.ordered), ap (λ z. z ++ (13 ∷ 10 ∷ left_after v)) h.1 ∙ place h.0)

-- a leaf, as an opening
pub told_leaf : {A : Type 0} (g : A → Leaf) (bs : List ℕ) (o : Out A) (r : Result ℕ WireFault) → Told (Ends bs) bs o r → Told (Opens bs) bs (map_out (λ a. a_leaf (g a)) o) (leaf_opening r)
told_leaf g bs (ok a rest) (Ok e) h = (refl, refl, h.0, h.1)
told_leaf g bs (ok a rest) (Err f) h = h
told_leaf g bs (fault k at) (Ok e) h = h
told_leaf g bs (fault k at) (Err f) h = h

pub told_kind : (bs : List ℕ) (j k : Kind) (s l : List ℕ) (r : Result Opening WireFault) (q : Result ℕ WireFault) → j ≡ k → r ≡ leaf_opening q
    → Told (Opens bs) bs (head k s l) (leaf_opening q) → Told (Opens bs) bs (head j s l) r
told_kind bs j k s l r q is e h = rw (is, e) h

-- the kinds whose line is all
pub told_lined : (bs : List ℕ) (j : Kind) (s l : List ℕ) (r : Result Opening WireFault) (q : Result ℕ WireFault) → r ≡ leaf_opening q → Told (Ends bs) bs (lined (leaf_of j) s l) q
    → (j ≡ kind.Integer) ⊎ (j ≡ kind.Null) ⊎ (j ≡ kind.Boolean) ⊎ (j ≡ kind.Double) ⊎ (j ≡ kind.BigNumber) → Told (Opens bs) bs (head j s l) r
told_lined bs j s l r q e h is = by is
  where
    lined_as : (k : Kind) → j ≡ k → Told (Opens bs) bs (map_out a_leaf (lined (leaf_of k) s l)) (leaf_opening q)
    lined_as k is = told_leaf (λ a. a) bs (lined (leaf_of k) s l) q (subst (λ i. Told (Ends bs) bs (lined (leaf_of i) s l) q) is h)

    by : (j ≡ kind.Integer) ⊎ (j ≡ kind.Null) ⊎ (j ≡ kind.Boolean) ⊎ (j ≡ kind.Double) ⊎ (j ≡ kind.BigNumber) → Told (Opens bs) bs (head j s l) r
    by (inl is) = told_kind bs j kind.Integer s l r q is e (lined_as kind.Integer is)
    by (inr (inl is)) = told_kind bs j kind.Null s l r q is e (lined_as kind.Null is)
    by (inr (inr (inl is))) = told_kind bs j kind.Boolean s l r q is e (lined_as kind.Boolean is)
    by (inr (inr (inr (inl is)))) = told_kind bs j kind.Double s l r q is e (lined_as kind.Double is)
    by (inr (inr (inr (inr is)))) = told_kind bs j kind.BigNumber s l r q is e (lined_as kind.BigNumber is)

-- What `try_fold` over a slice gives, where each call answers an option.
use Rattle.std.proofs.Common.{◌≡◌, Iter, List, [], ◌∷◌, Some, None, Option, sym, ap, ◌∙◌, subst}
use Rattle.std.specs.Prelude.{option_and_then, MatchOption}
use Rattle.std.specs.Fn.{Called}
use Rattle.std.specs.Iterator.{AlwaysYields, Yields, TryFoldTurn, TryFoldsItems}
use Rattle.std.specs.List.{FoldsTo}
use Rattle.std.specs.ControlFlow.{continue_value}
use Rattle.std.specs.declared.ops.ControlFlow.{ControlFlow}
use Rattle.std.specs.declared.ops.ControlFlow.TheVariants.{Continue, Break}
use Rattle.std.proofs.lemmas.Fn.{slice_gives}
use Rattle.std.proofs.iter.Yields.{fronts}
use Rattle.std.specs.Slice.Iter.{iter_rest}
use denote.Param.Members.{Mut}
use denote.Ref.{Bor}

-- the steps h from a over a list, up to the first that gives none
abbrev pub try_fold : {B C : Type 0} → (B → C → Option B) → B → List C → Option B
try_fold h a [] = Some a
try_fold h a (x ∷ xs) = option_and_then (λ b. try_fold h b xs) (h a x)

-- what `?` goes on with, and what it returns
abbrev Goes : {E B : Type 0} → Option B → ControlFlow E B → Type 0
Goes r s = r ≡ continue_value s

abbrev Stops : {E B : Type 0} → E → Option B → Type 0
Stops _ r = r ≡ None

module _ {A B F : Type 0} (E : Type 0) (g : Mut F (B × (Bor A × Unit {0})) (Option B)) (f : F) (h : B → A → Option B)
    (acts : (b : B) (x : Bor A) (r : Option B) (q : F) → Called g f (b, (x, tt)) r q → (q ≡ f) × (r ≡ h b x.now)) where
  turns : (xs : List (Bor A)) (o : Option (Bor A)) (s t u : Iter A) (a b : B) (q : F) (r : Option B) (all : List A) →
      AlwaysYields fronts (λ y. y.now) s all → Yields fronts s xs t → fronts t o u → FoldsTo {P = F × B} (TryFoldTurn g (Goes {E = E})) (f, a) xs (q, b) →
      MatchOption o (Goes {E = E} r (Continue b)) (λ x. (v : Option B) × (k : F) × (e : E) × Called g q (b, (x, tt)) v k × Goes v (Break e) × Stops e r) →
      r ≡ try_fold h a all
  turns [] None s t u a b q r [] y ys end c m = m ∙ ap Some (sym (ap (λ p. p.1) c))
  turns [] None s t u a b q r (z ∷ all) y ys end c m = absurd (y.0 u (subst (λ k. fronts k None u) (sym ys) end))
  turns [] (Some x) s t u a b q r [] y ys end c m = absurd (y x u (subst (λ k. fronts k (Some x) u) (sym ys) end))
  turns [] (Some x) s t u a b q r (z ∷ all) y ys end c m =
      let is : x.now ≡ z = (y.1 x u (subst (λ k. fronts k (Some x) u) (sym ys) end)).0 in
      let called : Called g f (a, (x, tt)) m.0 m.1 = subst (λ (p : F × B). Called g p.0 (p.1, (x, tt)) m.0 m.1) (sym c) m.3 in
      let none : h a z ≡ None = ap (h a) (sym is) ∙ sym (acts a x m.0 m.1 called).1 ∙ m.4 in
      m.5 ∙ sym (ap (option_and_then (λ b. try_fold h b all)) none)
  turns (x ∷ xs) o s t u a b q r [] y (j, first, ys) end c m = absurd (y x j first)
  turns (x ∷ xs) o s t u a b q r (z ∷ all) y (j, first, ys) end (p, (v, called, goes), c) m =
      let next = y.1 x j first in
      let did = acts a x v p.0 called in
      let some : h a z ≡ Some p.1 = ap (h a) (sym next.0) ∙ sym did.1 ∙ goes in
      turns xs o j t u p.1 b q r all next.1 ys end (subst (λ (i : F). FoldsTo {P = F × B} (TryFoldTurn g (Goes {E = E})) (i, p.1) xs (q, b)) did.0 c) m
      ∙ sym (ap (option_and_then (λ b. try_fold h b all)) some)

  pub try_fold_is : (s u : Iter A) (init : B) (r : Option B) → TryFoldsItems fronts g (Goes {E = E}) Stops s f init r u → r ≡ try_fold h init (iter_rest s)
  try_fold_is s u init r (xs, o, q, b, (t, ys, end), c, m) = turns xs o s t u init b q r (iter_rest s) (slice_gives s) ys end c m

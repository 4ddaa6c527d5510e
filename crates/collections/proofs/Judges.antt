-- What `try_for_each` over an iterator gives, where each item is read up to the first refusal.
use Rattle.std.proofs.Common.{◌≡◌, List, [], ◌∷◌, Some, None, Ok, Err, Option, Result, sym, refl, ap, ◌∙◌, subst}
use Rattle.std.specs.Prelude.{IsErr, IsErrAnd, MatchOption}
use Rattle.std.specs.Fn.{Called}
use Rattle.std.specs.Iterator.{ActsAs, AlwaysYields, TryCallsOnEach, TryForEachTurn, Yields}
use Rattle.std.specs.List.{FoldsTo}
use Rattle.std.specs.declared.ops.ControlFlow.{ControlFlow}
use Rattle.std.specs.declared.ops.ControlFlow.TheVariants.{Continue, Break}
use Rattle.std.proofs.lemmas.Iterator.{YieldsList}
use Rattle.std.proofs.lemmas.Result.{err_from_is_err_and}
use Rattle.kinds.specs.declared.fault.Fault.{Fault}
use Rattle.kinds.specs.Rows.{and_then, onto, many_by}
use Rattle.collections.specs.Steps.{judged}
use denote.Param.Members.{Mut}

-- whether one reading was refused
abbrev pub judged_one : {V : Type 0} → Result V Fault → Result (Unit {0}) Fault
judged_one (Ok v) = Ok tt
judged_one (Err f) = Err f

judged_onto : {V : Type 0} (v : V) (r : Result (List V) Fault) → judged (onto v r) ≡ judged r
judged_onto v (Ok vs) = refl
judged_onto v (Err f) = refl

opened : {V : Type 0} (o : Result V Fault) (rest : Result (List V) Fault) → judged (and_then o (λ v. onto v rest)) ≡ and_then (judged_one o) (λ _. judged rest)
opened (Ok v) rest = judged_onto v rest
opened (Err f) rest = refl

-- what `?` does at a refusal
pub stopped : (fault : Fault) (w r : Result (Unit {0}) Fault) → w ≡ Err fault → IsErr r × IsErrAnd r (λ f. f ≡ fault) → (f : Fault) × (w ≡ Err f) × (r ≡ Err f)
stopped fault w r breaks stops = let p = err_from_is_err_and r stops.1 in (fault, breaks, p.1 ∙ ap Err p.2)

module _ {S A B F V E : Type 0} (steps : S → Option A → S → Type 0) (v : A → B) (g : Mut F (A × Unit {0}) (Result (Unit {0}) Fault)) (f : F) (one : B → Result V Fault)
    (acts : ActsAs g f (λ x. judged_one (one (v x))))
    (branches : Result (Unit {0}) Fault → ControlFlow E (Unit {0}) → Type 0) (resumes : E → Result (Unit {0}) Fault → Type 0) (goes : (w : Result (Unit {0}) Fault) → branches w (Continue tt) → w ≡ Ok tt)
    (stops : (w r : Result (Unit {0}) Fault) (e : E) → branches w (Break e) → resumes e r → (f : Fault) × (w ≡ Err f) × (r ≡ Err f)) where
  turns : (xs : List A) (o : Option A) (s t u : S) (q : F) (r : Result (Unit {0}) Fault) (all : List B) → AlwaysYields steps v s all → Yields steps s xs t → steps t o u
      → FoldsTo (TryForEachTurn g branches) f xs q
      → MatchOption o (branches r (Continue tt)) (λ x. (w : Result (Unit {0}) Fault) × (h : F) × (e : E) × Called g q (x, tt) w h × branches w (Break e) × resumes e r)
      → r ≡ judged (many_by one all)
  turns [] None s t u q r [] y ys end c m = goes r m
  turns [] None s t u q r (b ∷ all) y ys end c m = absurd (y.0 u (subst (λ k. steps k None u) (sym ys) end))
  turns [] (Some x) s t u q r [] y ys end c m = absurd (y x u (subst (λ k. steps k (Some x) u) (sym ys) end))
  turns [] (Some x) s t u q r (b ∷ all) y ys end c (w, h, e, called, breaks, resumed) =
      let is : v x ≡ b = (y.1 x u (subst (λ k. steps k (Some x) u) (sym ys) end)).0 in
      let did = acts x w h (subst (λ k. Called g k (x, tt) w h) (sym c) called) in
      let fault = stops w r e breaks resumed in
      let read : judged_one (one b) ≡ Err fault.0 = ap (λ z. judged_one (one z)) (sym is) ∙ sym did.1 ∙ fault.1 in
      fault.2 ∙ sym (opened (one b) (many_by one all) ∙ ap (λ o. and_then o (λ _. judged (many_by one all))) read)
  turns (x ∷ xs) o s t u q r [] y (j, first, ys) end c m = absurd (y x j first)
  turns (x ∷ xs) o s t u q r (b ∷ all) y (j, first, ys) end (p, (w, called, on), c) m =
      let next = y.1 x j first in
      let did = acts x w p called in
      let read : judged_one (one b) ≡ Ok tt = ap (λ z. judged_one (one z)) (sym next.0) ∙ sym did.1 ∙ goes w on in
      turns xs o j t u q r all next.1 ys end (subst (λ k. FoldsTo (TryForEachTurn g branches) k xs q) did.0 c) m
      ∙ sym (opened (one b) (many_by one all) ∙ ap (λ o. and_then o (λ _. judged (many_by one all))) read)

pub judges : {S A B F V E : Type 0} {steps : S → Option A → S → Type 0} {v : A → B} {s : S} {all : List B} → YieldsList steps v s all
    → (g : Mut F (A × Unit {0}) (Result (Unit {0}) Fault)) (f : F) (u : S) (r : Result (Unit {0}) Fault) (branches : Result (Unit {0}) Fault → ControlFlow E (Unit {0}) → Type 0)
    → (resumes : E → Result (Unit {0}) Fault → Type 0) → TryCallsOnEach steps g branches resumes s f r u → (one : B → Result V Fault) → ActsAs g f (λ x. judged_one (one (v x)))
    → ((w : Result (Unit {0}) Fault) → branches w (Continue tt) → w ≡ Ok tt)
    → ((w r : Result (Unit {0}) Fault) (e : E) → branches w (Break e) → resumes e r → (f : Fault) × (w ≡ Err f) × (r ≡ Err f)) → r ≡ judged (many_by one all)
judges {steps = steps} {v = v} {s = s} {all = all} y g f u r branches resumes (xs, o, q, (t, ys, end), c, m) one acts goes stops =
    turns steps v g f one acts branches resumes goes stops xs o s t u q r all y.runs ys end c m

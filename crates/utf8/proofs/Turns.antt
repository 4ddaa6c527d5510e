-- The turns of the loop: each reads the byte at i as the scan does.
use Rattle.std.proofs.Common.{◌≡◌, ℕ, zero, suc, ◌+◌, ◌-◌, ◌<◌, ◌≤◌, true, false, ◌||◌, eqb, ltb, List, length, get_or, drop, Some, None, Ok, Err, Option, Result, sym, refl, ap, ◌∙◌, ⊎_elim, sub-one, arith}
use Rattle.std.specs.Int.{IsInRange}
use Rattle.std.proofs.lemmas.List.{drop_more, drop_all}
use Rattle.std.proofs.lemmas.Bool.{cases_Bool, cases_lt, and_parts, lt-ltb, le-ltb, ltb-true, eqb-true}
use Rattle.std.proofs.lemmas.Bool.Decides.{nat_tests}
use Rattle.utf8.specs.declared.State.{State}
use Rattle.utf8.specs.Scan.{count, least, greatest, scan, ill_formed, Located}
use Rattle.utf8.specs.Step.{following, beginning, passing, step_of, at_end}
use Rattle.utf8.specs.Theorems.{Tells}
use Rattle.utf8.proofs.Steps.{begun, stray, followed, broken, fresh}
use Rattle.utf8.proofs.Verdict.{accepts, locates}

-- the text, read on from i in this state, gives the answer
pub record Reads (text : List ℕ) (start due lo hi i : ℕ) : Type 0 where
  pub same : ill_formed text ≡ scan (drop start text) due lo hi (drop i text)
  pub inside : 0 < due → start < length text

abbrev pub Answer : List ℕ → Option ℕ → Type 0
Answer text r = record { located : Located text (ill_formed text) r; tells : Tells text r }

at : (text : List ℕ) (i : ℕ) → i < length text → ill_formed text ≡ Some (drop i text) → Answer text (Some i)
at text i h e = record { located = rw e (h, refl); tells = locates text (drop i text) e }

nowhere : (text : List ℕ) → ill_formed text ≡ None → Answer text None
nowhere text e = record { located = rw e tt; tells = (accepts text).0 e }

module _ {text : List ℕ} {start lo hi i : ℕ} where
  turn_due : {due : ℕ} → Reads text start due lo hi i → i < length text → 0 < due → IsInRange lo hi (get_or text i 0) → Reads text start (due - 1) 128 191 (i + 1)
  turn_due {due = zero} r h d f = absurd (omega arith)
  turn_due {due = suc n} r h d f = record { same = rw sub-one (r.same ∙ followed (drop start text) lo hi (drop_more text i 0 h) n f); inside = λ _. r.inside d }

  turn_lead : {due n : ℕ} → Reads text start due lo hi i → i < length text → due ≤ 0 → n ≡ count (get_or text i 0) → 0 < n → Reads text i (n - 1) (least (get_or text i 0)) (greatest (get_or text i 0)) (i + 1)
  turn_lead {due = suc _} r h d e p = absurd (omega arith)
  turn_lead {due = zero} {n = zero} r h d e p = absurd (omega arith)
  turn_lead {due = zero} {n = suc n} r h d e p = record { same = rw sub-one (r.same ∙ begun (drop start text) lo hi (drop_more text i 0 h) (sym e)); inside = λ _. h }

  turn_ascii : {due : ℕ} → Reads text start due lo hi i → i < length text → due ≤ 0 → get_or text i 0 < 128 → Reads text start due lo hi (i + 1)
  turn_ascii {due = suc _} r h d a = absurd (omega arith)
  turn_ascii {due = zero} r h d a =
      let one : count (get_or text i 0) ≡ 1 = grind (arith, nat_tests) in
      record { same = r.same ∙ begun (drop start text) lo hi (drop_more text i 0 h) one ∙ fresh (drop i text) (drop start text) _ _ lo hi (drop (i + 1) text); inside = r.inside }

  stop_due : {due : ℕ} → Reads text start due lo hi i → i < length text → 0 < due → (IsInRange lo hi (get_or text i 0) → ⊥) → Answer text (Some start)
  stop_due {due = zero} r h d f = absurd (omega arith)
  stop_due {due = suc n} r h d f = at text start (r.inside d) (r.same ∙ broken (drop start text) lo hi (drop_more text i 0 h) n f)

  stop_lead : {due : ℕ} → Reads text start due lo hi i → i < length text → due ≤ 0 → count (get_or text i 0) ≡ 0 → Answer text (Some i)
  stop_lead {due = suc _} r h d e = absurd (omega arith)
  stop_lead {due = zero} r h d e = at text i h (r.same ∙ stray (drop start text) lo hi (drop_more text i 0 h) e)

  stop_end : {due : ℕ} → Reads text start due lo hi i → length text ≤ i → 0 < due → Answer text (Some start)
  stop_end {due = zero} r h d = absurd (omega arith)
  stop_end {due = suc n} r h d = at text start (r.inside d) (r.same ∙ ap (scan (drop start text) (suc n) lo hi) (drop_all i text h))

  end : {due : ℕ} → Reads text start due lo hi i → length text ≤ i → due ≤ 0 → Answer text None
  end {due = suc _} r h d = absurd (omega arith)
  end {due = zero} r h d = nowhere text (r.same ∙ ap (scan (drop start text) 0 lo hi) (drop_all i text h))

-- The same by the state.

abbrev pub ReadsAt : List ℕ → State → ℕ → Type 0
ReadsAt text s i = Reads text s.start s.due s.low s.high i

-- what is known after a step
abbrev pub After : List ℕ → ℕ → Result State ℕ → Type 0
After text i (Ok s) = ReadsAt text s (i + 1)
After text i (Err p) = Answer text (Some p)

inside_from : (lo hi b : ℕ) → (ltb b lo || ltb hi b) ≡ false → IsInRange lo hi b
inside_from lo hi b e = grind (arith, nat_tests)

outside_from : (lo hi b : ℕ) → (ltb b lo || ltb hi b) ≡ true → IsInRange lo hi b → ⊥
outside_from lo hi b e h = grind (arith, nat_tests)

module _ {text : List ℕ} {i : ℕ} (s : State) (r : ReadsAt text s i) where
  due_turn : i < length text → 0 < s.due → After text i (following s (get_or text i 0))
  due_turn h d =
      ⊎_elim
      (λ e. rw e (stop_due r h d (outside_from _ _ _ e)))
      (λ e. rw e (turn_due r h d (inside_from _ _ _ e)))
      (cases_Bool (ltb (get_or text i 0) s.low || ltb s.high (get_or text i 0)))

  first_turn : i < length text → s.due ≤ 0 → After text i (beginning i (get_or text i 0))
  first_turn h d =
      ⊎_elim
      (λ e. rw e (stop_lead r h d (eqb-true (count (get_or text i 0)) 0 e)))
      (λ e. rw e (turn_lead r h d refl (nonzero (count (get_or text i 0)) e)))
      (cases_Bool (eqb (count (get_or text i 0)) 0))
    where
      nonzero : (n : ℕ) → eqb n 0 ≡ false → 0 < n
      nonzero n e = grind (arith, nat_tests)

  pub turn : i < length text → After text i (step_of s i (get_or text i 0))
  turn h = ⊎_elim (λ d. rw (lt-ltb 0 s.due d) (due_turn h d)) (λ d. rw (le-ltb 0 s.due d) (first_turn h d)) (cases_lt 0 s.due)

  pub pass : i < length text → passing s (get_or text i 0) ≡ true → ReadsAt text s (i + 1)
  pass h e = let p = and_parts (eqb s.due 0) _ e in turn_ascii r h (none s.due p.0) (ltb-true _ _ p.1)
    where
      none : (n : ℕ) → eqb n 0 ≡ true → n ≤ 0
      none n e = grind (arith, nat_tests)

  pub finish : length text ≤ i → Answer text (at_end s)
  finish h = ⊎_elim (λ d. rw (lt-ltb 0 s.due d) (stop_end r h d)) (λ d. rw (le-ltb 0 s.due d) (end r h d)) (cases_lt 0 s.due)

-- A reader beside a relation, and one item after another.
use Rattle.std.proofs.Common.{◌≡◌, ℕ, zero, suc, List, [], ◌++◌, length, sym, refl, ap, ◌∙◌, append_assoc}
use Rattle.resp.specs.Out.{Out, ok}
use Rattle.resp.specs.Grammar.{Each, none, more, Two, two}
use Rattle.resp.specs.Reading.{items, pair}
use Rattle.resp.proofs.Outs.{and_then_ok, map_out_ok}

-- f reads just the bytes that W relates
pub record Agrees {A : Type 0} (f : List ℕ → Out A) (W : A → List ℕ → Type 0) : Type 0 where
  pub sound : (bs : List ℕ) (a : A) (rest : List ℕ) → f bs ≡ ok a rest → (x : List ℕ) × (bs ≡ x ++ rest) × W a x
  pub complete : (x : List ℕ) (a : A) (rest : List ℕ) → W a x → f (x ++ rest) ≡ ok a rest

-- one front after another
pub joined : (bs x m y rest : List ℕ) → bs ≡ x ++ m → m ≡ y ++ rest → bs ≡ (x ++ y) ++ rest
joined bs x m y rest h k = h ∙ ap (λ l. x ++ l) k ∙ sym (append_assoc x y rest)

pub items_sound : {A : Type 0} (f : List ℕ → Out A) (W : A → List ℕ → Type 0) → Agrees f W → (n : ℕ) (bs : List ℕ) (l : List A) (rest : List ℕ) → items f n bs ≡ ok l rest
    → (x : List ℕ) × (bs ≡ x ++ rest) × Each W l x × (length l ≡ n)
items_sound f W ag zero bs l rest e = let n : [] ≡ l = cc in rw (← n) ([], cc, none, refl)
items_sound f W ag (suc n) bs l rest e =
    let (a, m, p, q) = and_then_ok (f bs) _ l rest e in
    let (as', r, s) = map_out_ok (items f n m) _ l rest q in
    let (x, h, w) = ag.sound bs a m p in
    let (y, h', ws, len) = items_sound f W ag n m as' rest r in
    rw (← s) (x ++ y, joined bs x m y rest h h', more w ws, ap suc len)

pub items_complete : {A : Type 0} (f : List ℕ → Out A) (W : A → List ℕ → Type 0) → Agrees f W → (l : List A) (x rest : List ℕ) → Each W l x → items f (length l) (x ++ rest) ≡ ok l rest
items_complete f W ag _ _ rest none = refl
items_complete f W ag _ _ rest (more {a = a} {l = l} {x = x} {y = y} w ws) =
    rw (append_assoc, ag.complete x a (y ++ rest) w, items_complete f W ag l y rest ws)

pub pair_agrees : {A : Type 0} (f : List ℕ → Out A) (W : A → List ℕ → Type 0) → Agrees f W → Agrees (pair f) (Two W)
pair_agrees f W ag = record { sound = s; complete = λ x p rest w. c x p rest w }
  where
    s : (bs : List ℕ) (p : _) (rest : List ℕ) → pair f bs ≡ ok p rest → (x : List ℕ) × (bs ≡ x ++ rest) × Two W p x
    s bs p rest e =
        let (a, m, p1, q) = and_then_ok (f bs) _ p rest e in
        let (b, r, is) = map_out_ok (f m) _ p rest q in
        let (x, h, w) = ag.sound bs a m p1 in
        let (y, h', w') = ag.sound m b rest r in
        rw (← is) (x ++ y, joined bs x m y rest h h', two w w')

    c : (x : List ℕ) (p : _) (rest : List ℕ) → Two W p x → pair f (x ++ rest) ≡ ok p rest
    c _ _ rest (two {a = a} {b = b} {x = x} {y = y} w w') = rw (append_assoc, ag.complete x a (y ++ rest) w, ag.complete y b rest w')

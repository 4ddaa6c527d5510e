-- What is said of bytes is right.
use Rattle.std.proofs.Common.{◌≡◌, ℕ, ◌+◌, ◌-◌, ◌≤◌, ◌≢◌, List, ◌++◌, length, take, drop, Ok, Err, Result, sym, refl, ap, ◌∙◌, subst, ap₂, arith}
use Rattle.std.proofs.lemmas.List.{length-append, length-drop, length-take-le, take-append-drop, take_at}
use Rattle.resp.specs.declared.fault.WireReason.{WireReason}
use Rattle.resp.specs.declared.fault.WireReason.TheVariants.{NotWhole}
use Rattle.resp.specs.declared.fault.WireFault.{WireFault}
use Rattle.resp.specs.Limits.{deepest}
use Rattle.resp.specs.Out.{Out, ok, fault}
use Rattle.resp.specs.Reply.{Reply}
use Rattle.resp.specs.Grammar.{Whole}
use Rattle.resp.specs.Node.{Node, erase, reading, offset}
use Rattle.resp.specs.Told.{Told, Ends, Faulty}
use Rattle.resp.specs.Answer.{located, answered, answer, Begins, Found, Refused, Right}
use Rattle.resp.proofs.Outs.{clash}
use Rattle.resp.proofs.Unique.{reads_a_front, reads_all, one_front, lasts, fault_plainly, plainly_fault}

-- a place from what is left there
place_is : (bs rest : List ℕ) (e : ℕ) → e ≤ length bs → rest ≡ drop e bs → e ≡ length bs - length rest
place_is bs rest e le is = let l : length rest ≡ length bs - e = ap length is ∙ length-drop e bs in omega arith

fault_is : (bs : List ℕ) (k : WireReason) (at : List ℕ) (f : WireFault) → Faulty bs k at f → f ≡ record { reason = k; place = length bs - length at }
fault_is bs k at f h = ap₂ (λ r p. record { reason = r; place = p }) h.0 (place_is bs at f.place h.1 h.2)

pub told_answer : {A : Type 0} (bs : List ℕ) (o : Out A) (r : Result ℕ WireFault) → Told (Ends bs) bs o r → r ≡ answered bs o
told_answer bs (ok a rest) (Ok e) h = ap Ok (place_is bs rest e h.0 h.1)
told_answer bs (ok a rest) (Err f) h = absurd h
told_answer bs (fault k at) (Ok e) h = absurd h
told_answer bs (fault k at) (Err f) h = ap Err (fault_is bs k at f h)

-- a front of the bytes and its length
front_length : (bs x rest : List ℕ) → bs ≡ x ++ rest → length x ≡ length bs - length rest
front_length bs x rest h = let l : length bs ≡ length x + length rest = ap length h ∙ length-append x rest in omega arith

whole_answer : (r : Reply) (x more : List ℕ) → Whole deepest r x → answer (x ++ more) ≡ Ok (length x)
whole_answer r x more w =
    let inside : length x ≤ length (x ++ more) = rw length-append (omega arith) in
    let front : take (length x) (x ++ more) ≡ x = take_at x more (length x) refl in
    let (t, e, is) = reads_all (offset (length (x ++ more))) deepest (x ++ more) r (length x) inside (subst (Whole deepest r) (sym front) w) in
    let l = length-drop (length x) (x ++ more) in
    ap (answered (x ++ more)) e ∙ ap Ok (let z : length (x ++ more) - length (drop (length x) (x ++ more)) ≡ length x = omega arith in z)

found : (bs : List ℕ) (t : Node) (rest : List ℕ) → located bs ≡ ok t rest → Found bs (length bs - length rest)
found bs t rest e =
    let (x, split, some, w) = reads_a_front (offset (length bs)) deepest bs t rest e in
    let n : length x ≡ length bs - length rest = front_length bs x rest split in
    let front : take (length bs - length rest) bs ≡ x = ap₂ take (sym n) split ∙ take_at x rest (length x) refl in
    record {
      some = omega arith;
      whole = (omega arith, (erase t, subst (Whole deepest (erase t)) (sym front) w));
      only = λ m b. only x split w n m b;
      lasting = λ more. ap (λ y. answer (y ++ more)) front ∙ whole_answer (erase t) x more w ∙ ap Ok n;
    }
  where
    only : (x : List ℕ) → bs ≡ x ++ rest → Whole deepest (erase t) x → length x ≡ length bs - length rest → (m : ℕ) → Begins m bs → m ≡ length bs - length rest
    only x split w n m b =
        let (r, v) = b.1 in
        let (same, is) = one_front deepest (erase t) r x (take m bs) rest (drop m bs) w v (sym split ∙ sym (take-append-drop m bs)) in
        let l : length x ≡ m = ap length is ∙ length-take-le m bs b.0 in
        sym l ∙ n

refused : (bs : List ℕ) (k : WireReason) (place : List ℕ) → located bs ≡ fault k place → Refused bs (record { reason = k; place = length bs - length place })
refused bs k place e = record { none = none; lasting = lasting }
  where
    none : (m : ℕ) → Begins m bs → ⊥
    none m b =
        let (r, v) = b.1 in
        let (t, o, is) = reads_all (offset (length bs)) deepest bs r m b.0 v in
        clash (sym e ∙ o)

    lasting : k ≢ NotWhole → (more : List ℕ) → answer (bs ++ more) ≡ Err (record { reason = k; place = length bs - length place })
    lasting not more =
        let at = offset (length (bs ++ more)) in
        let here = plainly_fault at deepest bs k place (fault_plainly (offset (length bs)) deepest bs k place e) in
        let o : reading at deepest (bs ++ more) ≡ fault k (place ++ more) = (lasts at deepest bs k place more here).1 not in
        let a = length-append bs more in
        let b = length-append place more in
        let z : length (bs ++ more) - length (place ++ more) ≡ length bs - length place = omega arith in
        ap (answered (bs ++ more)) o ∙ ap (λ p. Err (record { reason = k; place = p })) z

pub right : (bs : List ℕ) → Right bs (answer bs)
right bs = go (located bs) refl
  where
    go : (o : Out Node) → located bs ≡ o → Right bs (answered bs o)
    go (ok t rest) e = found bs t rest e
    go (fault k place) e = refused bs k place e

-- The theorems.
use Rattle.std.proofs.Common.{◌≡◌, ℕ, zero, suc, ◌<◌, ◌≢◌, List, [], ◌∷◌, ◌++◌, length, take, drop, sym, refl, ap, ◌∙◌, subst, arith}
use Rattle.std.proofs.lemmas.List.{append_cancel_right, take-append-drop}
use Rattle.resp.specs.declared.fault.WireReason.{WireReason}
use Rattle.resp.specs.declared.fault.WireReason.TheVariants.{NotWhole, UnknownKind, BrokenLine, LongLine, Content, Limit, NotClosed, NotUtf8}
use Rattle.resp.specs.Out.{Out, ok, fault, map_out}
use Rattle.resp.specs.Reply.{Reply}
use Rattle.resp.specs.Grammar.{Whole}
use Rattle.resp.specs.Reading.{items}
use Rattle.resp.specs.Node.{Node, erase, reading}
use Rattle.resp.specs.Theorems.{ReadsOnly, ReadsAll, ReadsAFront, OneFront, OneSplit, Stays, Lasts}
use Rattle.resp.proofs.Outs.{clash, map_out_ok}
use Rattle.resp.proofs.Lists.{items_complete}
use Rattle.resp.proofs.Plainly.{plainly, erases}
use Rattle.resp.proofs.Whole.{plainly_agrees}
use Rattle.resp.proofs.Firm.{Kept, Extends, firm_plainly}

-- the reading without its places, and back
pub read_plainly : (at : List ℕ → ℕ) (d : ℕ) (bs : List ℕ) (t : Node) (rest : List ℕ) → reading at d bs ≡ ok t rest → plainly d bs ≡ ok (erase t) rest
read_plainly at d bs t rest e = sym (erases at d bs) ∙ ap (map_out erase) e

pub plainly_read : (at : List ℕ → ℕ) (d : ℕ) (bs : List ℕ) (r : Reply) (rest : List ℕ) → plainly d bs ≡ ok r rest
    → (t : Node) × (reading at d bs ≡ ok t rest) × (erase t ≡ r)
plainly_read at d bs r rest e = map_out_ok (reading at d bs) erase r rest (erases at d bs ∙ e)

pub fault_plainly : (at : List ℕ → ℕ) (d : ℕ) (bs : List ℕ) (k : WireReason) (place : List ℕ) → reading at d bs ≡ fault k place → plainly d bs ≡ fault k place
fault_plainly at d bs k place e = sym (erases at d bs) ∙ ap (map_out erase) e

map_fault : {A B : Type 0} (g : A → B) (o : Out A) (k : WireReason) (place : List ℕ) → map_out g o ≡ fault k place → o ≡ fault k place
map_fault g (ok a rest) k place e = absurd (clash (sym e))
map_fault g (fault n at) k place e = cc

pub plainly_fault : (at : List ℕ → ℕ) (d : ℕ) (bs : List ℕ) (k : WireReason) (place : List ℕ) → plainly d bs ≡ fault k place → reading at d bs ≡ fault k place
plainly_fault at d bs k place e = map_fault erase (reading at d bs) k place (erases at d bs ∙ e)

none_front : (d : ℕ) (r : Reply) (rest : List ℕ) → plainly d [] ≡ ok r rest → ⊥
none_front zero r rest e = clash e
none_front (suc d) r rest e = clash e

pub whole_some : (d : ℕ) (r : Reply) (x : List ℕ) → Whole d r x → 0 < length x
whole_some d r [] w = absurd (none_front d r [] ((plainly_agrees d).complete [] r [] w))
whole_some d r (b ∷ x) w = omega arith

pub reads_a_front : ReadsAFront
reads_a_front at d bs t rest e =
    let (x, h, w) = (plainly_agrees d).sound bs (erase t) rest (read_plainly at d bs t rest e) in
    (x, h, whole_some d (erase t) x w, w)

pub reads_only : ReadsOnly
reads_only at d bs t n le e =
    let (x, h, w) = (plainly_agrees d).sound bs (erase t) (drop n bs) (read_plainly at d bs t (drop n bs) e) in
    subst (Whole d (erase t)) (sym (append_cancel_right (take n bs) x (drop n bs) (take-append-drop n bs ∙ h))) w

pub reads_all : ReadsAll
reads_all at d bs r n le w =
    plainly_read at d bs r (drop n bs) (ap (plainly d) (sym (take-append-drop n bs)) ∙ (plainly_agrees d).complete (take n bs) r (drop n bs) w)

same : {A : Type 0} (a b : A) (x y s t : List ℕ) (o : Out A) → o ≡ ok a s → o ≡ ok b t → x ++ s ≡ y ++ t → (a ≡ b) × (x ≡ y)
same a b x y s t o p q h =
    let e : a ≡ b = cc in
    let f : s ≡ t = cc in
    (e, append_cancel_right x y t (ap (λ l. x ++ l) (sym f) ∙ h))

pub one_front : OneFront
one_front d r q x y s t v w h =
    let ag = plainly_agrees d in
    same r q x y s t (plainly d (x ++ s)) (ag.complete x r s v) (ap (plainly d) h ∙ ag.complete y q t w) h

pub one_split : OneSplit
one_split d rs qs x y s t v w len h =
    let ag = plainly_agrees d in
    same rs qs x y s t (items (plainly d) (length rs) (x ++ s)) (items_complete (plainly d) (Whole d) ag rs x s v)
    (ap (λ n. items (plainly d) n (x ++ s)) len ∙ ap (items (plainly d) (length qs)) h ∙ items_complete (plainly d) (Whole d) ag qs y t w) h

pub stays : Stays
stays at d bs t rest more e =
    let h : plainly d (bs ++ more) ≡ ok (erase t) (rest ++ more) =
    subst (λ o. Extends o (plainly d (bs ++ more)) more) (read_plainly at d bs t rest e) (firm_plainly d bs more) in
    plainly_read at d (bs ++ more) (erase t) (rest ++ more) h

-- what was kept of a fault's reason
kept_place : (k : WireReason) (at : List ℕ) (P : Type 0) → Kept k at P → k ≡ NotWhole → at ≡ []
kept_place NotWhole at P h is = h
kept_place UnknownKind at P h is = absurd (cc)
kept_place BrokenLine at P h is = absurd (cc)
kept_place LongLine at P h is = absurd (cc)
kept_place Content at P h is = absurd (cc)
kept_place Limit at P h is = absurd (cc)
kept_place NotClosed at P h is = absurd (cc)
kept_place NotUtf8 at P h is = absurd (cc)

kept_fact : (k : WireReason) (at : List ℕ) {P : Type 0} → Kept k at P → k ≢ NotWhole → P
kept_fact NotWhole at h not = absurd (not refl)
kept_fact UnknownKind at h not = h
kept_fact BrokenLine at h not = h
kept_fact LongLine at h not = h
kept_fact Content at h not = h
kept_fact Limit at h not = h
kept_fact NotClosed at h not = h
kept_fact NotUtf8 at h not = h

pub lasts : Lasts
lasts at d bs k place more e =
    let h : Kept k place (plainly d (bs ++ more) ≡ fault k (place ++ more)) =
    subst (λ o. Extends o (plainly d (bs ++ more)) more) (fault_plainly at d bs k place e) (firm_plainly d bs more) in
    (λ is. kept_place k place _ h is, λ not. plainly_fault at d (bs ++ more) k (place ++ more) (kept_fact k place h not))

-- Views and rows of them, from where they begin to where they end.
use Rattle.std.proofs.Common.{◌≡◌, ℕ, zero, suc, ◌+◌, ◌-◌, ◌<◌, ◌≤◌, Bool, true, false, List, [], ◌∷◌, length, drop, Ok, Err, Result, sym, refl, ap, ◌∙◌, arith}
use Rattle.std.proofs.lemmas.List.{drop_at, drop-drop, length-drop, length-append}
use Rattle.resp.specs.declared.fault.WireFault.{WireFault}
use Rattle.resp.specs.Limits.{deepest}
use Rattle.resp.specs.Out.{Out, ok, fault}
use Rattle.resp.specs.Reply.{Nil}
use Rattle.resp.specs.Reading.{items, pair}
use Rattle.resp.specs.Node.{Node, OneAt, erase, reading, offset}
use Rattle.resp.specs.Answer.{located, answered, answer}
use Rattle.resp.proofs.Outs.{and_then_ok, map_out_ok}
use Rattle.resp.proofs.Unique.{read_plainly, plainly_read, reads_a_front}
use Rattle.reply.specs.Parts.{pair_node}
use Rattle.reply.specs.Tree.{view, view_at, row_at, is_read, read_or, node_at, nodes_at, Ended}

pub read_ok : {A : Type 0} (o : Out A) → is_read o ≡ true → (a : A) × (rest : List ℕ) × (o ≡ ok a rest)
read_ok (ok a rest) h = (a, rest, refl)
read_ok (fault k x) h = absurd cc

pub ok_read : {A : Type 0} (o : Out A) (a : A) (rest : List ℕ) → o ≡ ok a rest → is_read o ≡ true
ok_read o a rest e = ap is_read e

pub node_is : (bs : List ℕ) (m : Bool) (p : ℕ) (t : Node) (rest : List ℕ) → view_at bs m p ≡ ok t rest → node_at bs m p ≡ t
unfolding node_at
node_is bs m p t rest e = ap (read_or (OneAt p p Nil)) e

pub nodes_are : (bs : List ℕ) (m : Bool) (p n : ℕ) (ns : List Node) (rest : List ℕ) → row_at bs m p n ≡ ok ns rest → nodes_at bs m p n ≡ ns
unfolding nodes_at
nodes_are bs m p n ns rest e = ap (read_or []) e

apart : {n : ℕ} {f : WireFault} → ◌≡◌ {A = Result ℕ WireFault} (Ok n) (Err f) → ⊥
apart h = cc

-- what `walk` says of the bytes from a place on
pub walk_ended : (bs : List ℕ) (p n : ℕ) → p ≤ length bs → answer (drop p bs) ≡ Ok n → Ended bs false p (p + n)
walk_ended bs p n le e = go (located (drop p bs)) refl e
  where
    go : (o : Out Node) → located (drop p bs) ≡ o → answered (drop p bs) o ≡ Ok n → Ended bs false p (p + n)
    go (fault k x) i h = absurd (apart (sym h))
    go (ok t rest) i h =
        let l = drop p bs in
        let (x, split, some, w) = reads_a_front (offset (length l)) deepest l t rest i in
        let is : length l - length rest ≡ n = cc in
        let len : length l ≡ length x + length rest = ap length split ∙ length-append x rest in
        let back : rest ≡ drop n l = sym (drop_at x rest n (omega arith)) ∙ ap (drop n) (sym split) in
        let (u, o, same) = plainly_read (offset (length bs)) deepest l (erase t) rest (read_plainly (offset (length l)) deepest l t rest i) in
        let short : length l ≡ length bs - p = length-drop p bs in
        record { tree = u; reads = o ∙ ap (ok u) (back ∙ drop-drop n p bs); inside = omega arith }

pub first_read : (bs : List ℕ) (m : Bool) (p : ℕ) → is_read (view_at bs m p) ≡ true → is_read (view_at bs false p) ≡ true
first_read bs false p h = h
first_read bs true p h =
    let (n, rest, e) = read_ok (view_at bs true p) h in
    let (q, o, _) = map_out_ok (pair (reading (offset (length bs)) deepest) (drop p bs)) pair_node n rest e in
    let (a, more, o', _) = and_then_ok (view_at bs false p) _ q rest o in
    ok_read (view_at bs false p) a more o'

-- a row with something in it
row_first : {A : Type 0} (f : List ℕ → Out A) (l : List ℕ) (n : ℕ) → 0 < n → is_read (items f n l) ≡ true
    → (a : A) × (xs : List A) × (more rest : List ℕ) × (f l ≡ ok a more) × (items f (n - 1) more ≡ ok xs rest) × (items f n l ≡ ok (a ∷ xs) rest)
row_first f l zero lt h = absurd (omega arith)
row_first f l (suc n) lt h =
    let (xs, rest, e) = read_ok (items f (suc n) l) h in
    let (a, more, o, q) = and_then_ok (f l) _ xs rest e in
    let (as', r, s) = map_out_ok (items f n more) _ xs rest q in
    let z : n ≡ suc n - 1 = omega arith in
    (a, as', more, rest, o, ap (λ k. items f k more) (sym z) ∙ r, e ∙ ap (λ x. ok x rest) (sym s))

pub first_whole : (bs : List ℕ) (m : Bool) (p n : ℕ) → 0 < n → is_read (row_at bs m p n) ≡ true → is_read (view_at bs m p) ≡ true
first_whole bs m p n lt h = let (a, l, more, rest, o, q, e) = row_first (view (offset (length bs)) m) (drop p bs) n lt h in ok_read (view_at bs m p) a more o

-- those after the first begin where it ends
pub record After (bs : List ℕ) (m : Bool) (p n e : ℕ) : Type 0 where
  pub whole : is_read (row_at bs m e (n - 1)) ≡ true
  pub inside : e ≤ length bs
  pub items : nodes_at bs m p n ≡ node_at bs m p ∷ nodes_at bs m e (n - 1)

pub row_after : (bs : List ℕ) (m : Bool) (p n e : ℕ) → 0 < n → is_read (row_at bs m p n) ≡ true → Ended bs m p e → After bs m p n e
row_after bs m p n e lt h t =
    let f = view (offset (length bs)) m in
    let (a, l, more, rest, o, q, w) = row_first f (drop p bs) n lt h in
    let k = t.reads in
    let s : more ≡ drop e bs = cc in
    let r : row_at bs m e (n - 1) ≡ ok l rest = ap (items f (n - 1)) (sym s) ∙ q in
    record {
      whole = ok_read (row_at bs m e (n - 1)) l rest r;
      inside = t.inside;
      items = nodes_are bs m p n (a ∷ l) rest w ∙ ap (λ x. x ∷ l) (sym (node_is bs m p a more o)) ∙ ap (λ x. node_at bs m p ∷ x) (sym (nodes_are bs m e (n - 1) l rest r));
    }

-- a row has as many trees as it says
items_length : {A : Type 0} (f : List ℕ → Out A) (n : ℕ) (l : List ℕ) (as' : List A) (rest : List ℕ) → items f n l ≡ ok as' rest → length as' ≡ n
items_length f zero l as' rest e = let z : [] ≡ as' = cc in ap length (sym z)
items_length f (suc n) l as' rest e =
    let (a, more, o, q) = and_then_ok (f l) _ as' rest e in
    let (bs', r, s) = map_out_ok (items f n more) _ as' rest q in
    ap length (sym s) ∙ ap suc (items_length f n more bs' rest r)

pub count_is : (bs : List ℕ) (m : Bool) (p n : ℕ) → is_read (row_at bs m p n) ≡ true → n ≡ length (nodes_at bs m p n)
count_is bs m p n h =
    let (ns, rest, o) = read_ok (row_at bs m p n) h in
    sym (ap length (nodes_are bs m p n ns rest o) ∙ items_length (view (offset (length bs)) m) n (drop p bs) ns rest o)

-- The loop over the replies right below one: what is noted so far, and what is left to read.
use Rattle.std.proofs.Common.{◌≡◌, ℕ, zero, suc, ◌+◌, ◌-◌, ◌<◌, ◌≤◌, List, [], ◌∷◌, ◌++◌, length, drop, Some, Ok, Err, None, Option, Result, false, sym, ap, ◌∙◌, append_assoc, append-nil, ⊎_elim, arith}
use Rattle.std.proofs.lemmas.List.{drop_all, length-drop, length-append}
use Rattle.std.specs.Option.{is_some}
use Rattle.std.proofs.lemmas.Bool.{cases_lt}
use Rattle.resp.specs.declared.case.Case.{Case}
use Rattle.resp.specs.declared.opening.Opening.{Opening}
use Rattle.resp.specs.declared.fault.WireFault.{WireFault}
use Rattle.resp.specs.Limits.{deepest}
use Rattle.resp.specs.Out.{Out, ok}
use Rattle.resp.specs.Reading.{items}
use Rattle.resp.specs.Node.{Node, erase, reading, offset}
use Rattle.resp.specs.Cases.{case_of, Cased}
use Rattle.resp.specs.Told.{items_in, is_push, opened, opened_as}
use Rattle.resp.proofs.Outs.{clash, and_then_ok, map_out_ok}
use Rattle.resp.specs.Answer.{answer}
use Rattle.resp.proofs.Unique.{reads_a_front}
use Rattle.reply.proofs.Grows.{grows}
use Rattle.reply.proofs.Opening.{front, case_told}
use Rattle.reply.proofs.Rows.{ok_read, walk_ended}
use Rattle.station.specs.declared.listing.Note.{Note}
use Rattle.station.specs.Listing.{noted, tree_at, Noted, end_at}
use Rattle.station.proofs.Ends.{end_after}
use Rattle.station.proofs.Notes.{listing, listing_append, own, structure}

-- reading at d levels of the bytes
abbrev pub reader : List ℕ → ℕ → List ℕ → Out Node
reader bs d = reading (offset (length bs)) d

-- the first i of n replies are noted after the reply's own note, whose end is still to come
pub record Going (bs : List ℕ) (p level : ℕ) (t : Node) (rest : List ℕ) (old now : List Note) (n i end : ℕ) : Type 0 where
  pub done : List Node
  pub left : List Node
  pub reads : items (reader bs (deepest - suc level)) (n - i) (drop end bs) ≡ ok left rest
  pub inside : end ≤ length bs
  pub notes : noted level t ≡ own p (offset (length bs) rest) level n t ∷ listing (suc level) (done ++ left)
  pub so_far : now ≡ old ++ (own p p level n t ∷ listing (suc level) done)

place : (bs : List ℕ) (p : ℕ) → p ≤ length bs → offset (length bs) (drop p bs) ≡ p
place bs p le = let len = length-drop p bs in omega arith

-- one more reply is read there, and then the others
pub record Child (bs : List ℕ) (level : ℕ) (rest : List ℕ) (left : List Node) (n i end : ℕ) : Type 0 where
  pub node : Node
  pub more : List ℕ
  pub others : List Node
  pub reads : tree_at bs end (level + 1) ≡ ok node more
  pub then : items (reader bs (deepest - suc level)) (n - (i + 1)) more ≡ ok others rest
  pub is : node ∷ others ≡ left

pub child : (bs : List ℕ) (p level : ℕ) (t : Node) (rest : List ℕ) (old now : List Note) (n i end : ℕ) (w : Going bs p level t rest old now n i end) → i < n → Child bs level rest w.left n i end
unfolding tree_at
child bs p level t rest old now n i end w lt =
    let f = reader bs (deepest - suc level) in
    let one : n - i ≡ suc (n - (i + 1)) = omega arith in
    let (a, more, o, q) = and_then_ok (f (drop end bs)) _ w.left rest (ap (λ k. items f k (drop end bs)) (sym one) ∙ w.reads) in
    let (ls, r, s) = map_out_ok (items f (n - (i + 1)) more) _ w.left rest q in
    let below : deepest - (level + 1) ≡ deepest - suc level = omega arith in
    record { node = a; more = more; others = ls; reads = ap (λ d. reader bs d (drop end bs)) below ∙ o; then = r; is = s }

-- one more reply is noted
pub next :
    (bs : List ℕ) (p level : ℕ) (t : Node) (rest : List ℕ) (old now new : List Note) (n i end end' : ℕ) →
    Going bs p level t rest old now n i end → i < n →
    ((u : Node) (more : List ℕ) → tree_at bs end (level + 1) ≡ ok u more → Noted bs (level + 1) u more now new (Ok end')) →
    Going bs p level t rest old new n (i + 1) end'
next bs p level t rest old now new n i end end' w lt noting =
    let f = reader bs (deepest - suc level) in
    let one = child bs p level t rest old now n i end w lt in
    let a = one.node in
    let ls = one.others in
    let r = one.then in
    let s = one.is in
    let c = noting a one.more one.reads in
    let up : level + 1 ≡ suc level = omega arith in
    record {
      done = w.done ++ (a ∷ []);
      left = ls;
      reads = ap (items f (n - (i + 1))) (sym c.1) ∙ r;
      inside = c.0;
      notes = w.notes ∙ ap (λ l. own p (offset (length bs) rest) level n t ∷ listing (suc level) l) (ap (λ l. w.done ++ l) (sym s) ∙ sym (append_assoc w.done (a ∷ []) ls));
      so_far =
          c.2
          ∙ ap (λ l. now ++ noted l a) up
          ∙ ap (λ l. l ++ noted (suc level) a) w.so_far
          ∙ append_assoc old (own p p level n t ∷ listing (suc level) w.done) (noted (suc level) a)
          ∙ ap (λ l. old ++ (own p p level n t ∷ l)) (ap (λ m. listing (suc level) w.done ++ m) (sym (append-nil (noted (suc level) a))) ∙ sym (listing_append (suc level) w.done (a ∷ [])));
    }

-- a tree is read of some bytes, with some level left
stands : (bs : List ℕ) (p level : ℕ) (t : Node) (rest : List ℕ) → tree_at bs p level ≡ ok t rest → p < length bs
unfolding tree_at
stands bs p level t rest e =
    let (x, split, some, w) = reads_a_front (offset (length bs)) (deepest - level) (drop p bs) t rest e in
    let whole : length (drop p bs) ≡ length x + length rest = ap length split ∙ length-append x rest in
    let len = length-drop p bs in
    omega arith

pub stands_inside : (bs : List ℕ) (p level : ℕ) (t : Node) (rest : List ℕ) → tree_at bs p level ≡ ok t rest → length bs ≤ p → ⊥
stands_inside bs p level t rest e h = let some = stands bs p level t rest e in omega arith

pub not_too_deep : (bs : List ℕ) (p level : ℕ) (t : Node) (rest : List ℕ) → tree_at bs p level ≡ ok t rest → deepest ≤ level → ⊥
unfolding tree_at
not_too_deep bs p level t rest e h = let none : deepest - level ≡ 0 = omega arith in go (drop p bs) (ap (λ d. reader bs d (drop p bs)) (sym none) ∙ e)
  where
    go : (l : List ℕ) → reader bs 0 l ≡ ok t rest → ⊥
    go [] o = clash o
    go (b ∷ l) o = clash o

opens : (bs : List ℕ) (p level : ℕ) (t : Node) (rest : List ℕ) → level < deepest → tree_at bs p level ≡ ok t rest → reader bs (suc (deepest - suc level)) (drop p bs) ≡ ok t rest
unfolding tree_at
opens bs p level t rest lt e = let one : deepest - level ≡ suc (deepest - suc level) = omega arith in ap (λ d. reader bs d (drop p bs)) (sym one) ∙ e

-- with all levels left it is read the same
grown : (bs : List ℕ) (k d : ℕ) (l : List ℕ) (t : Node) (rest : List ℕ) → reader bs d l ≡ ok t rest → reader bs (k + d) l ≡ ok t rest
grown bs zero d l t rest e = let same : 0 + d ≡ d = omega arith in ap (λ n. reader bs n l) same ∙ e
grown bs (suc k) d l t rest e = let same : suc k + d ≡ suc (k + d) = omega arith in ap (λ n. reader bs n l) same ∙ grows (offset (length bs)) (k + d) l t rest (grown bs k d l t rest e)

wholly_read : (bs : List ℕ) (p level : ℕ) (t : Node) (rest : List ℕ) → level < deepest → tree_at bs p level ≡ ok t rest → reader bs deepest (drop p bs) ≡ ok t rest
unfolding tree_at
wholly_read bs p level t rest lt e = let all : level + (deepest - level) ≡ deepest = omega arith in ap (λ d. reader bs d (drop p bs)) (sym all) ∙ grown bs level (deepest - level) (drop p bs) t rest e

-- the case that the code is told is the tree's
pub told_case : (bs : List ℕ) (p level : ℕ) (t : Node) (rest : List ℕ) → level < deepest → tree_at bs p level ≡ ok t rest → (r : Option Case) → Cased (drop p bs) r → r ≡ Some (case_of (erase t))
told_case bs p level t rest lt e r cased =
    let o = wholly_read bs p level t rest lt e in
    case_told bs p (ok_read (reader bs deepest (drop p bs)) t rest o) r cased t rest o

-- an item that opens is no fault
pub no_fault : (bs : List ℕ) (p level : ℕ) (t : Node) (rest : List ℕ) → level < deepest → tree_at bs p level ≡ ok t rest → (f : WireFault) → Err f ≡ opened (drop p bs) → ⊥
no_fault bs p level t rest lt e f is =
    let (h, more, o, b) = structure (offset (length bs)) (deepest - suc level) (drop p bs) t rest (opens bs p level t rest lt e) in
    apart _ _ (is ∙ ap (opened_as (drop p bs)) o)
  where
    apart : (f : WireFault) (v : Opening) → ◌≡◌ {A = Result Opening WireFault} (Err f) (Ok v) → ⊥
    apart f v e = cc

-- nothing below it is noted yet
pub record Start (bs : List ℕ) (p level : ℕ) (t : Node) (rest : List ℕ) (v : Opening) : Type 0 where
  pub fits : p + v.start ≤ length bs
  pub going : (old now : List Note) (k : Case) (end : ℕ) → k ≡ case_of (erase t) → now ≡ old ++ (record { at = p; end = p; level = level; items = v.items; case = k } ∷ []) → end ≡ p + v.start
      → Going bs p level t rest old now v.items 0 end

pub start : (bs : List ℕ) (p level : ℕ) (t : Node) (rest : List ℕ) → level < deepest → tree_at bs p level ≡ ok t rest → (v : Opening) → Ok v ≡ opened (drop p bs) → Start bs p level t rest v
start bs p level t rest lt e v is =
    let some = stands bs p level t rest e in
    let le : p ≤ length bs = omega arith in
    let l = drop p bs in
    let (h, more, o, b) = structure (offset (length bs)) (deepest - suc level) l t rest (opens bs p level t rest lt e) in
    let (x, hd, after, in') = front bs p h more le o in
    let same : v ≡ record { items = items_in h; named = is_push h; start = length l - length more } = oks _ _ (is ∙ ap (opened_as l) o) in
    let count : v.items ≡ items_in h = ap (λ v. v.items) same in
    let begin : v.start ≡ length l - length more = ap (λ v. v.start) same in
    let f = reader bs (deepest - suc level) in
    let from : p + v.start ≡ p + (length l - length more) = ap (λ n. p + n) begin in
    let none : v.items - 0 ≡ items_in h = omega arith in
    record {
      fits = omega arith;
      going = λ old now k end case note at. record {
        done = [];
        left = b.ns;
        reads = ap (λ n. items f n (drop end bs)) none ∙ ap (λ q. items f (items_in h) (drop q bs)) (at ∙ from) ∙ ap (items f (items_in h)) (sym after) ∙ b.reads;
        inside = omega arith;
        notes = b.notes level ∙ ap (λ q. own q (offset (length bs) rest) level (items_in h) t ∷ listing (suc level) b.ns) (place bs p le) ∙ ap (λ n. own p (offset (length bs) rest) level n t ∷ listing (suc level) b.ns) (sym count);
        so_far = note ∙ ap (λ c. let one : Note = record { at = p; end = p; level = level; items = v.items; case = c } in old ++ (one ∷ [])) case;
      };
    }
  where
    oks : (v w : Opening) → ◌≡◌ {A = Result Opening WireFault} (Ok v) (Ok w) → v ≡ w
    oks v w e = cc

-- all is noted
pub finish :
    (bs : List ℕ) (p level : ℕ) (t : Node) (rest : List ℕ) (old now new : List Note) (n i end index : ℕ) →
    Going bs p level t rest old now n i end → n ≤ i → index ≡ length old → new ≡ end_at index end now →
    (end ≤ length bs) × (rest ≡ drop end bs) × (new ≡ old ++ noted level t)
finish bs p level t rest old now new n i end index w le at set =
    let none : n - i ≡ 0 = omega arith in
    let o : ok [] (drop end bs) ≡ ok w.left rest = ap (λ k. items (reader bs (deepest - suc level)) k (drop end bs)) (sym none) ∙ w.reads in
    let empty : [] ≡ w.left = cc in
    let after : drop end bs ≡ rest = cc in
    let here : offset (length bs) rest ≡ end = ap (offset (length bs)) (sym after) ∙ place bs end w.inside in
    let all : w.done ++ w.left ≡ w.done = ap (λ l. w.done ++ l) (sym empty) ∙ append-nil w.done in
    let noted_is : noted level t ≡ own p end level n t ∷ listing (suc level) w.done =
    w.notes ∙ ap (λ q. own p q level n t ∷ listing (suc level) (w.done ++ w.left)) here ∙ ap (λ l. own p end level n t ∷ listing (suc level) l) all in (
      w.inside,
      sym after,
      set
          ∙ ap (λ k. end_at k end now) at
          ∙ ap (end_at (length old) end) w.so_far
          ∙ end_after old (listing (suc level) w.done) (own p p level n t) end
          ∙ ap (λ l. old ++ l) (sym noted_is),
    )

-- where the walk finds a whole reply, a tree is read
pub read_there : (bs : List ℕ) (p n : ℕ) → answer (drop p bs) ≡ Ok n → (t : Node) × (tree_at bs p 0 ≡ ok t (drop (p + n) bs))
unfolding tree_at
read_there bs p n e = ⊎_elim (λ past. absurd (none (sym (ap answer (drop_all p bs (omega arith))) ∙ e))) (λ le. let w = walk_ended bs p n le e in (w.tree, w.reads)) (cases_lt (length bs) p)
  where
    none : answer [] ≡ Ok n → ⊥
    none o = cc

-- a case that there is, and one that there is not
pub no_case : (r : Option Case) (k : Case) → false ≡ is_some r → r ≡ Some k → ⊥
no_case None k v e = cc
no_case (Some j) k v e = cc

-- The parts of a view lie within it.
use Rattle.std.proofs.Common.{◌≡◌, ℕ, zero, suc, ◌+◌, ◌<◌, ◌≤◌, Bool, true, false, ◌⊎◌, List, [], ◌∷◌, length, drop, Some, None, Option, sym, refl, ap, ◌∙◌, subst, inl, inr, arith}
use Rattle.std.proofs.lemmas.List.{drop_at, drop-drop, length-drop, length-append}
use Rattle.resp.specs.Limits.{deepest}
use Rattle.resp.specs.Out.{ok, and_then, map_out}
use Rattle.resp.specs.Reading.{items}
use Rattle.resp.specs.Node.{Node, reading, offset}
use Rattle.resp.proofs.Outs.{and_then_ok, map_out_ok}
use Rattle.resp.proofs.Unique.{reads_a_front}
use Rattle.reply.specs.declared.open.Row.{Row}
use Rattle.reply.specs.declared.spot.Spot.{Spot}
use Rattle.reply.specs.Parts.{start_of, inner_of, pair_node}
use Rattle.reply.specs.Inside.{Among, first, later, Inside, itself, below}
use Rattle.reply.specs.Find.{find, find_among}
use Rattle.reply.specs.Opened.{Inner}
use Rattle.reply.specs.Tree.{view, view_at, row_at, is_read, node_at, nodes_at, wholly_row, Ended}
use Rattle.reply.proofs.Rows.{read_ok, ok_read, node_is, nodes_are}
use Rattle.reply.proofs.Views.{halves, pair_flat, pair_inner}
use Rattle.reply.proofs.Opening.{row_is}
use Rattle.reply.proofs.LeafParts.{start_at}
use Rattle.reply.proofs.Finds.{find_is, among_is}

-- where a view that was read ends
pub record Ends (bs : List ℕ) (p : ℕ) (rest : List ℕ) : Type 0 where
  pub end : ℕ
  pub after : p < end
  pub inside : end ≤ length bs
  pub is : rest ≡ drop end bs

pub reply_ends : (bs : List ℕ) (p : ℕ) (t : Node) (rest : List ℕ) → p ≤ length bs → view_at bs false p ≡ ok t rest → Ends bs p rest
reply_ends bs p t rest le o =
    let (x, split, some, w) = reads_a_front (offset (length bs)) deepest (drop p bs) t rest o in
    let len : length (drop p bs) ≡ length x + length rest = ap length split ∙ length-append x rest in
    let short = length-drop p bs in
    record { end = p + length x; after = omega arith; inside = omega arith; is = sym (drop_at x rest (length x) refl) ∙ ap (drop (length x)) (sym split) ∙ drop-drop (length x) p bs }

view_ends : (bs : List ℕ) (m : Bool) (p : ℕ) (t : Node) (rest : List ℕ) → p ≤ length bs → view_at bs m p ≡ ok t rest → Ends bs p rest
view_ends bs false p t rest le o = reply_ends bs p t rest le o
view_ends bs true p t rest le o =
    let (k, v, more, rest', a, b, w) = halves bs p (ok_read (view_at bs true p) t rest o) in
    let same : rest' ≡ rest = cc in
    let E = reply_ends bs p k more le a in
    let F = reply_ends bs E.end v rest' E.inside (ap (reading (offset (length bs)) deepest) (sym E.is) ∙ b) in
    let x = E.after in
    let y = F.after in
    record { end = F.end; after = omega arith; inside = F.inside; is = sym same ∙ F.is }

pub same_end : (bs : List ℕ) (a b : ℕ) → a ≤ length bs → b ≤ length bs → drop a bs ≡ drop b bs → a ≡ b
same_end bs a b x y e = let l = length-drop a bs in let r = length-drop b bs in let s : length (drop a bs) ≡ length (drop b bs) = ap length e in omega arith

ended_after : (bs : List ℕ) (m : Bool) (p e : ℕ) → p ≤ length bs → Ended bs m p e → p < e
ended_after bs m p e le t =
    let E = view_ends bs m p t.tree (drop e bs) le t.reads in
    let same = same_end bs e E.end t.inside E.inside E.is in
    let x = E.after in
    omega arith

ended_read : (bs : List ℕ) (m : Bool) (p e : ℕ) → Ended bs m p e → is_read (view_at bs m p) ≡ true
ended_read bs m p e t = ok_read (view_at bs m p) t.tree (drop e bs) t.reads

-- one of a row is a view
pub record Member (bs : List ℕ) (m : Bool) (p : ℕ) (rest : List ℕ) (k : Node) : Type 0 where
  pub place : ℕ
  pub end : ℕ
  pub from : p ≤ place
  pub inside : place ≤ length bs
  pub ended : Ended bs m place end
  pub node : k ≡ node_at bs m place
  pub before : end + length rest ≤ length bs

none_among : (k : Node) (ns : List Node) → Among k ns → [] ≡ ns → ⊥
none_among _ _ (first {n = n} {ns = ns}) e = cc
none_among _ _ (later {n = n} {m = m} {ns = ns} a) e = cc

one_among : (k n : Node) (ns all : List Node) → Among k all → n ∷ ns ≡ all → (k ≡ n) ⊎ Among k ns
one_among _ n ns _ (first {n = k} {ns = ms}) e = let same : k ≡ n = cc in inl same
one_among _ n ns _ (later {n = k} {m = m} {ns = ms} a) e = let same : ms ≡ ns = cc in inr (subst (Among k) same a)

row_length : (bs : List ℕ) (m : Bool) (p n : ℕ) (ns : List Node) (rest : List ℕ) → p ≤ length bs → row_at bs m p n ≡ ok ns rest → p + length rest ≤ length bs
row_length bs m p zero ns rest le o = let same : drop p bs ≡ rest = cc in let a : length (drop p bs) ≡ length rest = ap length same in let b = length-drop p bs in omega arith
row_length bs m p (suc n) ns rest le o =
    let f = view (offset (length bs)) m in
    let (a, more, o1, q) = and_then_ok (f (drop p bs)) _ ns rest o in
    let (as', r, s) = map_out_ok (items f n more) _ ns rest q in
    let E = view_ends bs m p a more le o1 in
    let x = E.after in
    omega (arith, row_length bs m E.end n as' rest E.inside (ap (items f n) (sym E.is) ∙ r))

-- so does a row
pub row_ends : (bs : List ℕ) (m : Bool) (p n : ℕ) (ns : List Node) (rest : List ℕ) → p ≤ length bs → row_at bs m p n ≡ ok ns rest → (e : ℕ) × (e ≤ length bs) × (rest ≡ drop e bs)
row_ends bs m p zero ns rest le o = let same : drop p bs ≡ rest = cc in (p, le, sym same)
row_ends bs m p (suc n) ns rest le o =
    let f = view (offset (length bs)) m in
    let (a, more, o1, q) = and_then_ok (f (drop p bs)) _ ns rest o in
    let (as', r, s) = map_out_ok (items f n more) _ ns rest q in
    let E = view_ends bs m p a more le o1 in
    row_ends bs m E.end n as' rest E.inside (ap (items f n) (sym E.is) ∙ r)

pub row_member : (bs : List ℕ) (m : Bool) (p n : ℕ) (ns : List Node) (rest : List ℕ) (k : Node) → p ≤ length bs → row_at bs m p n ≡ ok ns rest → Among k ns → Member bs m p rest k
row_member bs m p zero ns rest k le o mem = let none : [] ≡ ns = cc in absurd (none_among k ns mem none)
row_member bs m p (suc n) ns rest k le o mem =
    let f = view (offset (length bs)) m in
    let (a, more, o1, q) = and_then_ok (f (drop p bs)) _ ns rest o in
    let (as', r, s) = map_out_ok (items f n more) _ ns rest q in
    let E = view_ends bs m p a more le o1 in
    let r' : row_at bs m E.end n ≡ ok as' rest = ap (items f n) (sym E.is) ∙ r in
    go a as' E.end E.after E.inside r' (o1 ∙ ap (ok a) E.is) (row_member bs m E.end n as' rest k E.inside r') (one_among k a as' ns mem s)
  where
    go : (a : Node) (as' : List Node) (e : ℕ) → p < e → e ≤ length bs → row_at bs m e n ≡ ok as' rest → view_at bs m p ≡ ok a (drop e bs) → (Among k as' → Member bs m e rest k)
        → (k ≡ a) ⊎ Among k as' → Member bs m p rest k
    go a as' e lt in' r o next (inl is) =
        record {
          place = p;
          end = e;
          from = omega arith;
          inside = le;
          ended = record { tree = a; reads = o; inside = in' };
          node = is ∙ sym (node_is bs m p a (drop e bs) o);
          before = row_length bs m e n as' rest in' r;
        }
    go a as' e lt in' r o next (inr mem) =
        let M = next mem in
        let from = M.from in
        record { place = M.place; end = M.end; from = omega arith; inside = M.inside; ended = M.ended; node = M.node; before = M.before }

-- all that stands below a view
inner_row_lem : (bs : List ℕ) (m : Bool) (p : ℕ) → p ≤ length bs → is_read (view_at bs m p) ≡ true → (r : Row) × Inner bs m p r
unfolding wholly_row
inner_row_lem bs false p le h =
    let (t, rest, o) = read_ok (view_at bs false p) h in
    let (hd, more, i, in', w) = row_is bs p t rest le o in
    (_, w.spread.inner)
inner_row_lem bs true p le h =
    let (k, v, more, rest, o, i, w) = halves bs p h in
    let (a, b) = pair_flat bs true p refl h in
    (record { at = p; left = 2; pairs = false }, made a (b ∙ pair_inner bs true p refl h) k v more rest o i w)
  where
    made : is_read (row_at bs false p 2) ≡ true → nodes_at bs false p 2 ≡ inner_of (node_at bs true p) → (k v : Node) (more rest : List ℕ) → view_at bs false p ≡ ok k more
        → reading (offset (length bs)) deepest more ≡ ok v rest → view_at bs true p ≡ ok (pair_node (k, v)) rest → Inner bs true p (record { at = p; left = 2; pairs = false })
    made a b k v more rest o i w =
        let row : row_at bs false p 2 ≡ ok (k ∷ v ∷ []) rest =
        ap (λ o. and_then o (λ a l. map_out (λ ns. a ∷ ns) (and_then (reading (offset (length bs)) deepest l) (λ b l. ok (b ∷ []) l)))) o ∙ ap (λ o. map_out (λ ns. k ∷ ns) (and_then o (λ b l. ok (b ∷ []) l))) i in
        record {
          whole = a;
          inside = le;
          from = omega arith;
          parts = b;
          ends = λ e t. let reads = t.reads in let back : rest ≡ drop e bs = cc in record { trees = k ∷ v ∷ []; reads = row ∙ ap (ok (k ∷ v ∷ [])) back; inside = t.inside };
        }

pub bounded : (bs : List ℕ) (part n : Node) → Inside part n → (m : Bool) (p e : ℕ) → n ≡ node_at bs m p → p ≤ length bs → Ended bs m p e → (p ≤ start_of part) × (start_of part < e)
bounded bs _ _ (itself {n = n}) m p e is le t =
    let s : start_of n ≡ p = ap start_of is ∙ start_at bs m p le (ended_read bs m p e t) in
    let lt = ended_after bs m p e le t in
    (omega arith, omega arith)
bounded bs _ _ (below {part = part} {m = k} {n = n} a i) m p e is le t =
    let (r, I) = inner_row_lem bs m p le (ended_read bs m p e t) in
    let E = I.ends e t in
    let same : inner_of n ≡ E.trees = ap inner_of is ∙ sym I.parts ∙ nodes_are bs r.pairs r.at r.left E.trees (drop e bs) E.reads in
    let M = row_member bs r.pairs r.at r.left E.trees (drop e bs) k I.inside E.reads (subst (Among k) same a) in
    let (x, y) = bounded bs part k i r.pairs M.place M.end M.node M.inside M.ended in
    let before = M.before in
    let from = M.from in
    let down = I.from in
    let in' = t.inside in
    let len = length-drop e bs in
    (omega arith, omega arith)

-- nothing that begins past a view's end is in it
pub skipped : (bs : List ℕ) (m : Bool) (p e : ℕ) (s : Spot) → p ≤ length bs → Ended bs m p e → e ≤ s.at → find s (node_at bs m p) ≡ None
skipped bs m p e s le t past = go (find s (node_at bs m p)) refl
  where
    go : (o : Option Node) → find s (node_at bs m p) ≡ o → o ≡ None
    go None is = refl
    go (Some k) is =
        let b = find_is s (node_at bs m p) k is in
        let at : start_of k ≡ s.at = ap (λ z. z.at) b.spot in
        let (x, y) = bounded bs k (node_at bs m p) b.part m p e refl le t in
        absurd (omega arith)

-- nor is anything that begins before a row in the row
pub none_before : (bs : List ℕ) (m : Bool) (p n : ℕ) (s : Spot) → p ≤ length bs → is_read (row_at bs m p n) ≡ true → s.at < p → find_among s (nodes_at bs m p n) ≡ None
none_before bs m p n s le h early = go (find_among s (nodes_at bs m p n)) refl
  where
    go : (o : Option Node) → find_among s (nodes_at bs m p n) ≡ o → o ≡ None
    go None is = refl
    go (Some k) is =
        let (ns, rest, o) = read_ok (row_at bs m p n) h in
        let F = among_is s (nodes_at bs m p n) k is in
        let M = row_member bs m p n ns rest F.tree le o (subst (Among F.tree) (nodes_are bs m p n ns rest o) F.among) in
        let at : start_of k ≡ s.at = ap (λ z. z.at) F.begins.spot in
        let (x, y) = bounded bs k F.tree F.begins.part m M.place M.end M.node M.inside M.ended in
        let from = M.from in
        absurd (omega arith)

-- Each part of a view is what begins at its place.
use Rattle.std.proofs.Common.{◌≡◌, ℕ, ◌≤◌, Bool, true, false, List, length, take, drop, Some, None, Option, sym, refl, ap, ◌∙◌, subst}
use Rattle.resp.specs.Node.{Node}
use Rattle.reply.specs.declared.spot.Spot.{Spot}
use Rattle.reply.specs.declared.view.Reply.{Reply}
use Rattle.reply.specs.Parts.{inner_of, is_pair, spot_of, start_of}
use Rattle.reply.specs.Inside.{Among, Inside, itself, below}
use Rattle.reply.specs.Find.{find}
use Rattle.reply.specs.Parted.{part_of}
use Rattle.reply.specs.Says.{Says}
use Rattle.reply.specs.Tree.{view_at, row_at, is_read, node_at, nodes_at, wholly, wholly_row}
use Rattle.reply.specs.View.{node_of}
use Rattle.reply.specs.Theorems.{PartsAreViews, OnlyOne, FindsEach, ViewsHold}
use Rattle.reply.proofs.Rows.{read_ok, ok_read, nodes_are}
use Rattle.reply.proofs.Views.{spot_is, pair_flat, pair_inner}
use Rattle.reply.proofs.Opening.{row_is}
use Rattle.reply.proofs.Finds.{find_is, find_none}
use Rattle.reply.proofs.Bounds.{row_member}
use Rattle.reply.proofs.Sayings.{part_says}

-- a view of the bytes, by its tree
record Viewed (bs : List ℕ) (k : Node) : Type 0 where
  pub place : ℕ
  pub pair : Bool
  pub inside : place ≤ length bs
  pub read : is_read (view_at bs pair place) ≡ true
  pub node : k ≡ node_at bs pair place

-- one of a row is a view
in_row : (bs : List ℕ) (m : Bool) (p n : ℕ) (k : Node) → p ≤ length bs → is_read (row_at bs m p n) ≡ true → Among k (nodes_at bs m p n) → Viewed bs k
in_row bs m p n k le h a =
    let (ns, rest, o) = read_ok (row_at bs m p n) h in
    let M = row_member bs m p n ns rest k le o (subst (Among k) (nodes_are bs m p n ns rest o) a) in
    let E = M.ended in
    record { place = M.place; pair = m; inside = M.inside; read = ok_read (view_at bs m M.place) E.tree _ E.reads; node = M.node }

-- what stands right below a view are views
in_view : (bs : List ℕ) (m : Bool) (p : ℕ) (k : Node) → p ≤ length bs → is_read (view_at bs m p) ≡ true → Among k (inner_of (node_at bs m p)) → Viewed bs k
unfolding wholly_row
in_view bs false p k le h a =
    let (t, rest, o) = read_ok (view_at bs false p) h in
    let (hd, more, i, in', w) = row_is bs p t rest le o in
    let I = w.spread.inner in
    in_row bs _ _ _ k I.inside I.whole (subst (Among k) (sym I.parts) a)
in_view bs true p k le h a =
    let (r, is) = pair_flat bs true p refl h in
    in_row bs false p 2 k le r (subst (Among k) (sym (is ∙ pair_inner bs true p refl h)) a)

-- and so is all that stands below it
inside_view : (bs : List ℕ) (part n : Node) → Inside part n → Viewed bs n → Viewed bs part
inside_view bs _ _ (itself {n = n}) v = v
inside_view bs _ _ (below {part = part} {m = k} {n = n} a i) v =
    inside_view bs part k i (in_view bs v.pair v.place k v.inside v.read (subst (λ t. Among k (inner_of t)) v.node a))

viewed_at : (bs : List ℕ) (n : Node) → Viewed bs n → n ≡ node_at bs (is_pair n) (start_of n)
viewed_at bs n v =
    let is = spot_is bs v.pair v.place v.inside v.read ∙ ap spot_of (sym v.node) in
    v.node ∙ ap (λ (s : Spot). node_at bs s.pair s.at) is

the_view : (r : Reply) → Viewed r.bytes.now (node_of r)
unfolding node_of wholly
the_view r = record { place = r.at; pair = r.pair; inside = r.inside; read = r.whole; node = refl }

pub parts_are_views : PartsAreViews
parts_are_views r n i = viewed_at r.bytes.now n (inside_view r.bytes.now n (node_of r) i (the_view r))

pub only_one : OnlyOne
only_one r n m i j e = parts_are_views r n i ∙ ap (λ (s : Spot). node_at r.bytes.now s.pair s.at) e ∙ sym (parts_are_views r m j)

pub finds_each : FindsEach
finds_each r n i = go (find (spot_of n) (node_of r)) refl
  where
    go : (o : Option Node) → find (spot_of n) (node_of r) ≡ o → o ≡ Some n
    go None is = absurd (find_none (spot_of n) (node_of r) is n (record { part = i; spot = refl }))
    go (Some k) is = let b = find_is (spot_of n) (node_of r) k is in ap Some (only_one r k n b.part i b.spot)

-- the text of a view stands at its place
viewed_says : (bs : List ℕ) (n : Node) → Viewed bs n → Says n (take (part_of n).len (drop (part_of n).start bs))
unfolding wholly
viewed_says bs n v =
    let t = node_at bs v.pair v.place in
    subst (λ k. Says k (take (part_of k).len (drop (part_of k).start bs))) (sym v.node) (part_says bs v.pair v.place v.inside v.read (part_of t) refl).0

pub views_hold : ViewsHold
views_hold r = record {
  texts = λ n i. viewed_says r.bytes.now n (inside_view r.bytes.now n (node_of r) i (the_view r));
  found = finds_each r;
}

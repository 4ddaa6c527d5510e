-- The search for a place in a row.
use Rattle.std.proofs.Common.{◌≡◌, ℕ, ◌<◌, ◌≤◌, Bool, true, List, [], ◌∷◌, drop, None, sym, refl, ap, ◌∙◌, subst}
use Rattle.resp.specs.Out.{ok}
use Rattle.resp.specs.Node.{Node}
use Rattle.resp.proofs.Outs.{and_then_ok}
use Rattle.reply.specs.declared.spot.Spot.{Spot}
use Rattle.reply.specs.declared.view.Items.{Items}
use Rattle.reply.specs.declared.view.Reply.{Reply}
use Rattle.reply.specs.Inside.{Among, first, later}
use Rattle.reply.specs.Find.{Narrows, or_else, find, find_among}
use Rattle.reply.specs.Rows.{Passes}
use Rattle.reply.specs.Tree.{view_at, row_at, is_read, node_at, nodes_at, wholly_row, Ended}
use Rattle.reply.specs.View.{node_of, nodes_of}
use Rattle.reply.proofs.Rows.{read_ok, node_is, nodes_are}
use Rattle.reply.proofs.Finds.{or_none}
use Rattle.reply.proofs.Bounds.{skipped, none_before}

-- nothing is left
pub no_more : (i : Items) → i.left ≡ 0 → nodes_of i ≡ []
unfolding nodes_of
no_more i none = ap (nodes_at i.bytes.now i.pairs i.at) none ∙ nodes_are i.bytes.now i.pairs i.at 0 [] (drop i.at i.bytes.now) refl

-- a row of one
one_row : (bs : List ℕ) (m : Bool) (p n : ℕ) → n ≡ 1 → is_read (row_at bs m p n) ≡ true → nodes_at bs m p n ≡ node_at bs m p ∷ []
one_row bs m p n one h =
    let (ns, rest, o) = read_ok (row_at bs m p 1) (subst (λ k. is_read (row_at bs m p k) ≡ true) one h) in
    let (a, more, i, q) = and_then_ok (view_at bs m p) (λ a more. ok (a ∷ []) more) ns rest o in
    let same : a ∷ [] ≡ ns = cc in
    ap (nodes_at bs m p) one ∙ nodes_are bs m p 1 ns rest o ∙ sym same ∙ ap (λ n. n ∷ []) (sym (node_is bs m p a more i))

-- the only one left
pub only_one : (i : Items) → i.left ≡ 1 → nodes_of i ≡ node_at i.bytes.now i.pairs i.at ∷ []
unfolding nodes_of wholly_row
only_one i one = one_row i.bytes.now i.pairs i.at i.left one i.whole

-- what was to be found among some is to be found among others
pub record Searching (s : Spot) (i here : Items) : Type 0 where
  pub some : 0 < here.left
  pub bytes : here.bytes ≡ i.bytes
  pub holds : find_among s (nodes_of i) ≡ find_among s (nodes_of here)
  pub among : (k : Node) → Among k (nodes_of here) → Among k (nodes_of i)

pub all_of_them : (s : Spot) (i : Items) → 0 < i.left → Searching s i i
all_of_them s i some = record { some = some; bytes = refl; holds = refl; among = λ k a. a }

-- the first is passed by
gone : (s : Spot) (reply : Reply) (e : ℕ) → Ended reply.bytes.now reply.pair reply.at e → e ≤ s.at → find s (node_of reply) ≡ None
unfolding node_of
gone s reply e end past = skipped reply.bytes.now reply.pair reply.at e s reply.inside end past

pub at_next : (s : Spot) (i here : Items) (reply : Reply) (others : Items) → Searching s i here → Passes here reply others → 0 < others.left → others.at ≤ s.at
    → Searching s i others
at_next s i here reply others w p some past =
    record {
      some = some;
      bytes = p.stays ∙ w.bytes;
      holds = w.holds ∙ ap (find_among s) p.items ∙ ap (λ o. or_else o (find_among s (nodes_of others))) (gone s reply others.at p.ends past);
      among = λ k a. w.among k (subst (Among k) (sym p.items) (later a));
    }

-- it is in the first or nowhere
from_first : (s : Spot) (i here : Items) (reply : Reply) (ns : List Node) → Searching s i here → reply.bytes ≡ here.bytes → nodes_of here ≡ node_of reply ∷ ns → find_among s ns ≡ None
    → Narrows s i reply
from_first s i here reply ns w bytes items none =
    record {
      among = w.among (node_of reply) (subst (Among (node_of reply)) (sym items) first);
      holds = w.holds ∙ ap (find_among s) items ∙ ap (or_else (find s (node_of reply))) none ∙ or_none (find s (node_of reply));
      bytes = bytes ∙ w.bytes;
    }

begins_before : (s : Spot) (rest : Items) → s.at < rest.at → find_among s (nodes_of rest) ≡ None
unfolding nodes_of wholly_row
begins_before s rest early = none_before rest.bytes.now rest.pairs rest.at rest.left s rest.inside rest.whole early

pub stopped : (s : Spot) (i here : Items) (reply : Reply) (others : Items) → Searching s i here → Passes here reply others → s.at < others.at → Narrows s i reply
stopped s i here reply others w p early = from_first s i here reply (nodes_of others) w p.bytes p.items (begins_before s others early)

pub at_the_last : (s : Spot) (i here : Items) (reply : Reply) → Searching s i here → reply.bytes ≡ here.bytes → nodes_of here ≡ node_of reply ∷ [] → Narrows s i reply
at_the_last s i here reply w bytes items = from_first s i here reply [] w bytes items refl

-- A row of one view, and a row of pairs as a row of replies.
use Rattle.std.proofs.Common.{◌≡◌, ℕ, zero, suc, ◌+◌, ◌≤◌, Bool, true, false, List, [], ◌∷◌, length, drop, sym, ap, ◌∙◌, subst}
use Rattle.resp.specs.Limits.{deepest}
use Rattle.resp.specs.Out.{ok, and_then, map_out}
use Rattle.resp.specs.Reading.{items, pair}
use Rattle.resp.specs.Node.{Node, reading, offset}
use Rattle.resp.proofs.Outs.{and_then_ok, map_out_ok}
use Rattle.reply.specs.declared.view.Reply.{Reply}
use Rattle.reply.specs.Opened.{singles}
use Rattle.reply.specs.Parts.{pair_node}
use Rattle.reply.specs.Tree.{view, view_at, row_at, is_read, node_at, nodes_at, Ended, RowEnded}
use Rattle.reply.proofs.Rows.{read_ok, ok_read, node_is, nodes_are}
use Rattle.reply.proofs.Opening.{items_in_turn}
use Rattle.reply.proofs.Passes.{row_room}

one_row : (bs : List ℕ) (m : Bool) (p : ℕ) (t : Node) (rest : List ℕ) → view_at bs m p ≡ ok t rest → row_at bs m p 1 ≡ ok (t ∷ []) rest
one_row bs m p t rest e = ap (λ o. and_then o (λ a l. map_out (λ ns. a ∷ ns) (items (view (offset (length bs)) m) 0 l))) e

pub alone_row : (bs : List ℕ) (m : Bool) (p : ℕ) → is_read (view_at bs m p) ≡ true → (is_read (row_at bs m p 1) ≡ true) × (nodes_at bs m p 1 ≡ node_at bs m p ∷ [])
alone_row bs m p h =
    let r = read_ok (view_at bs m p) h in
    let e = one_row bs m p r.0 r.1 r.2 in
    (ok_read (row_at bs m p 1) (r.0 ∷ []) r.1 e, nodes_are bs m p 1 (r.0 ∷ []) r.1 e ∙ ap (λ t. t ∷ []) (sym (node_is bs m p r.0 r.1 r.2)))

-- it ends where the view does
pub alone_ended : (bs : List ℕ) (m : Bool) (p e : ℕ) → RowEnded bs m p 1 e → Ended bs m p e
alone_ended bs m p e t =
    let (a, more, o, q) = and_then_ok (view_at bs m p) (λ a more. ok (a ∷ []) more) t.trees (drop e bs) t.reads in
    let same : more ≡ drop e bs = cc in
    record { tree = a; reads = o ∙ ap (ok a) same; inside = t.inside }

pairs_read : (at : List ℕ → ℕ) (n : ℕ) (l : List ℕ) (ns : List Node) (rest : List ℕ) → items (view at true) n l ≡ ok ns rest → (ps : List (Node × Node)) × (items (pair (reading at deepest)) n l ≡ ok ps rest)
pairs_read at zero l ns rest e = let same : l ≡ rest = cc in ([], ap (ok []) same)
pairs_read at (suc n) l ns rest e =
    let f = reading at deepest in
    let (a, more, o, q) = and_then_ok (view at true l) _ ns rest e in
    let (as', r, s) = map_out_ok (items (view at true) n more) _ ns rest q in
    let (p, u, v) = map_out_ok (pair f l) pair_node a more o in
    let (ps, w) = pairs_read at n more as' rest r in
    (p ∷ ps, ap (λ o. and_then o (λ a l. map_out (λ ns. a ∷ ns) (items (pair f) n l))) u ∙ ap (map_out (λ ns. p ∷ ns)) w)

-- a row is a row of replies, a pair being two, and ends where that does
pub record Singly (bs : List ℕ) (m : Bool) (p n : ℕ) : Type 0 where
  pub whole : is_read (row_at bs false p (singles m n)) ≡ true
  pub room : p + singles m n ≤ length bs
  pub ends : (e : ℕ) → RowEnded bs false p (singles m n) e → RowEnded bs m p n e

pub singly : (bs : List ℕ) (m : Bool) (p n : ℕ) → p ≤ length bs → is_read (row_at bs m p n) ≡ true → Singly bs m p n
singly bs false p n le h =
    let (ns, rest, o) = read_ok (row_at bs false p n) h in
    record { whole = h; room = row_room bs p n ns rest le o; ends = λ e t. t }
singly bs true p n le h =
    let (ns, rest, o) = read_ok (row_at bs true p n) h in
    let (ps, w) = pairs_read (offset (length bs)) n (drop p bs) ns rest o in
    let t = items_in_turn (reading (offset (length bs)) deepest) n (drop p bs) ps rest w in
    record {
      whole = ok_read (row_at bs false p (singles true n)) _ rest t;
      room = row_room bs p (singles true n) _ rest le t;
      ends = λ e r. let reads = r.reads in let same : rest ≡ drop e bs = cc in record { trees = ns; reads = o ∙ ap (ok ns) same; inside = r.inside };
    }

-- a view of the key ends where the key does
pub key_ended : (k s : Reply) (e : ℕ) → k.bytes ≡ s.bytes → k.at ≡ s.at → k.pair ≡ false → Ended k.bytes.now k.pair k.at e → Ended s.bytes.now false s.at e
key_ended k s e bytes place single t = subst (λ b. Ended b.now false s.at e) bytes (subst (λ p. Ended k.bytes.now false p e) place (subst (λ m. Ended k.bytes.now m k.at e) single t))

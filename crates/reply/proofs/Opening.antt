-- The row below a reply is its parts.
use Rattle.std.proofs.Common.{◌≡◌, ℕ, zero, suc, ◌+◌, ◌-◌, ◌*◌, ◌/◌, ◌<◌, ◌≤◌, Bool, true, false, List, [], ◌∷◌, ◌++◌, map as each, length, drop, Some, Option, sym, refl, ap, ◌∙◌, subst, arith}
use Rattle.std.proofs.lemmas.List.{drop_at, drop-drop, length-drop, length-append}
use Rattle.std.proofs.lemmas.Bool.{false≢true}
use Rattle.resp.specs.declared.case.Case.{Case}
use Rattle.resp.specs.Limits.{deepest, items_most, pairs_most}
use Rattle.resp.specs.Out.{Out, ok, and_then, map_out}
use Rattle.resp.specs.Reply.{Leaf, Nil, Int, BulkString, SimpleString, Okay, Double, Boolean, VerbatimString, BigNumber, ServerError}
use Rattle.resp.specs.Reading.{Head, a_leaf, of_array, of_set, of_push, of_map, of_attribute, Form, leaf, array, set, push, map, attribute, opening, items, pair, named, parts}
use Rattle.resp.specs.Node.{Node, OneAt, ArrayAt, SetAt, PushAt, MapAt, AttributeAt, PairAt, nodes, node_pairs, erase, is_string_node, knit, reading, offset}
use Rattle.resp.specs.Cases.{case_of, case_of_leaf, Cased}
use Rattle.resp.specs.Told.{items_in}
use Rattle.resp.proofs.Outs.{clash, and_then_ok, map_out_ok, by_test}
use Rattle.resp.proofs.Heads.{Headed, opening_agrees}
use Rattle.resp.proofs.Plainly.{items_natural}
use Rattle.resp.proofs.Unique.{read_plainly, plainly_read}
use Rattle.reply.specs.Parts.{pair_node, listed, paired, parts_of, flattened, flat_of, inner_of, is_attribute, unwrapped}
use Rattle.reply.specs.Tree.{view, view_at, row_at, is_read, node_at, wholly, wholly_row, RowEnded}
use Rattle.reply.specs.declared.open.Row.{Row}
use Rattle.resp.specs.Grammar.{Header, header, Leafed}
use Rattle.reply.specs.Parted.{textual}
use Rattle.reply.specs.Opened.{row_from, singles, inner_row, Inner, Opened, Spread}
use Rattle.reply.proofs.Grows.{grows, grows_items, grows_pair}
use Rattle.reply.proofs.Rows.{read_ok, ok_read, node_is, nodes_are}
use Rattle.reply.proofs.Views.{level}

listed_nodes : (ns : List Node) → listed (nodes ns) ≡ ns
listed_nodes [] = refl
listed_nodes (n ∷ ns) = ap (λ ms. n ∷ ms) (listed_nodes ns)

paired_nodes : (ps : List (Node × Node)) → paired (node_pairs ps) ≡ each pair_node ps
paired_nodes [] = refl
paired_nodes (p ∷ ps) = ap (λ ms. pair_node p ∷ ms) (paired_nodes ps)

-- keys and values one after another
abbrev pub in_turn : {A : Type 0} → List (A × A) → List A
in_turn [] = []
in_turn (p ∷ ps) = p.0 ∷ p.1 ∷ in_turn ps

flattened_nodes : (ps : List (Node × Node)) → flattened (node_pairs ps) ≡ in_turn ps
flattened_nodes [] = refl
flattened_nodes (p ∷ ps) = ap (λ ms. p.0 ∷ p.1 ∷ ms) (flattened_nodes ps)

-- pairs are twice as many items
pub items_in_turn : {A : Type 0} (f : List ℕ → Out A) (n : ℕ) (l : List ℕ) (ps : List (A × A)) (rest : List ℕ) → items (pair f) n l ≡ ok ps rest → items f (2 * n) l ≡ ok (in_turn ps) rest
items_in_turn f zero l ps rest e = let none : [] ≡ ps = cc in let same : l ≡ rest = cc in ap (ok []) same ∙ ap (λ qs. ok (in_turn qs) rest) none
items_in_turn f (suc n) l ps rest e =
    let twice : 2 * suc n ≡ suc (suc (2 * n)) = omega arith in
    let (p, more, o, q) = and_then_ok (pair f l) _ ps rest e in
    let (a, m, o1, o2) = and_then_ok (f l) _ p more o in
    let (b, o3, i) = map_out_ok (f m) _ p more o2 in
    let (qs, r, s) = map_out_ok (items (pair f) n more) _ ps rest q in
    let below = items_in_turn f n more qs rest r in
    rw twice (ap (λ o. and_then o (λ a more. map_out (λ l. a ∷ l) (items f (suc (2 * n)) more))) o1
    ∙ ap (λ o. map_out (λ l. a ∷ l) (and_then o (λ b more. map_out (λ l. b ∷ l) (items f (2 * n) more)))) o3
    ∙ ap (λ o. map_out (λ l. a ∷ l) (map_out (λ l. b ∷ l) o)) below
    ∙ ap (λ p. ok (p.0 ∷ p.1 ∷ in_turn qs) rest) i ∙ ap (λ x. ok (in_turn x) rest) s)

-- one item more
pub items_and_one : {A : Type 0} (f : List ℕ → Out A) (m : ℕ) (l : List ℕ) (as' : List A) (more : List ℕ) (a : A) (rest : List ℕ) → items f m l ≡ ok as' more → f more ≡ ok a rest
    → items f (m + 1) l ≡ ok (as' ++ (a ∷ [])) rest
items_and_one f zero l as' more a rest e o =
    let none : [] ≡ as' = cc in
    let same : l ≡ more = cc in
    ap (λ o. and_then o (λ a more. ok (a ∷ []) more)) (ap f same ∙ o) ∙ ap (λ x. ok (x ++ (a ∷ [])) rest) none
items_and_one f (suc m) l as' more a rest e o =
    let next : suc m + 1 ≡ suc (m + 1) = omega arith in
    let (b, l', o1, q) = and_then_ok (f l) _ as' more e in
    let (bs', r, s) = map_out_ok (items f m l') _ as' more q in
    rw next (ap (λ o. and_then o (λ a more. map_out (λ l. a ∷ l) (items f (m + 1) more))) o1 ∙ ap (map_out (λ l. b ∷ l)) (items_and_one f m l' bs' more a rest r o) ∙ ap (λ x. ok (x ++ (a ∷ [])) rest) s)

-- all that is said of the row of the reply at p
pub record Rowed (bs : List ℕ) (p : ℕ) (r : Row) : Type 0 where
  pub opened : Opened bs p r
  pub spread : Spread bs p r

module _ (bs : List ℕ) (p : ℕ) where
  at : List ℕ → ℕ
  at = offset (length bs)

  -- a row that was read, and what it is
  made : (m : Bool) (e n : ℕ) (ns fs : List Node) (rest : List ℕ) → e ≤ length bs → n ≤ items_most → row_at bs m e n ≡ ok ns rest → ns ≡ parts_of (node_at bs false p)
      → row_at bs false e (singles m n) ≡ ok fs rest → fs ≡ flat_of (node_at bs false p)
      → Inner bs false p (inner_row (is_attribute (node_at bs false p)) (record { at = e; left = n; pairs = m }))
      → (is_attribute (node_at bs false p) ≡ true → (q : ℕ) → RowEnded bs m e n q → (wholly bs false q ≡ true) × (node_at bs false q ≡ unwrapped (node_at bs false p)))
      → Rowed bs p (record { at = e; left = n; pairs = m })
  unfolding wholly_row
  made m e n ns fs rest le few o is o' is' inner b =
      record {
        opened = record { whole = ok_read (row_at bs m e n) ns rest o; inside = le; parts = nodes_are bs m e n ns rest o ∙ is; below = b };
        spread = record {
          few = few;
          singly = ok_read (row_at bs false e (singles m n)) fs rest o';
          flat = nodes_are bs false e (singles m n) fs rest o' ∙ is';
          inner = inner;
        };
      }

  f31 : List ℕ → Out Node
  f31 = reading (offset (length bs)) 31

leaf_row : (l : Leaf) (e n : ℕ) → row_from (case_of_leaf l) e n ≡ record { at = e; left = 0; pairs = false }
leaf_row Nil e n = refl
leaf_row (Int z) e n = refl
leaf_row (BulkString s) e n = refl
leaf_row (SimpleString c) e n = refl
leaf_row Okay e n = refl
leaf_row (Double c) e n = refl
leaf_row (Boolean v) e n = refl
leaf_row (VerbatimString f t) e n = refl
leaf_row (BigNumber c) e n = refl
leaf_row (ServerError c) e n = refl

-- items where one level less is left
row_list : (bs : List ℕ) (e n : ℕ) (more rest : List ℕ) (ns : List Node) → more ≡ drop e bs → items (reading (offset (length bs)) 31) n more ≡ ok ns rest → row_at bs false e n ≡ ok ns rest
row_list bs e n more rest ns is o =
    let at = offset (length bs) in
    ap (items (view at false) n) (sym is) ∙ grows_items (reading at 31) (reading at 32) (grows at 31) n more ns rest o

row_pairs : (bs : List ℕ) (e n : ℕ) (more rest : List ℕ) (ps : List (Node × Node)) → more ≡ drop e bs → items (pair (reading (offset (length bs)) 31)) n more ≡ ok ps rest
    → row_at bs true e n ≡ ok (each pair_node ps) rest
row_pairs bs e n more rest ps is o =
    let at = offset (length bs) in
    ap (items (view at true) n) (sym is)
    ∙ items_natural pair_node (pair (reading at 32)) n more
    ∙ ap (map_out (each pair_node)) (grows_items (pair (reading at 31)) (pair (reading at 32)) (grows_pair (reading at 31) (reading at 32) (grows at 31)) n more ps rest o)

row_flat : (bs : List ℕ) (e n : ℕ) (more rest : List ℕ) (ps : List (Node × Node)) → more ≡ drop e bs → items (pair (reading (offset (length bs)) 31)) n more ≡ ok ps rest
    → row_at bs false e (2 * n) ≡ ok (in_turn ps) rest
row_flat bs e n more rest ps is o = row_list bs e (2 * n) more rest (in_turn ps) is (items_in_turn (reading (offset (length bs)) 31) n more ps rest o)

-- a count is within its limit
counted : (b most n : ℕ) (x : List ℕ) → Header b most n x → most ≤ items_most → n ≤ items_most
counted b most n _ (header line q le) h = omega arith

-- a push's items
pub named_items : (f : List ℕ → Out Node) (string : Node → Bool) (n : ℕ) (bs : List ℕ) (ns : List Node) (rest : List ℕ) → 0 < n → named f string n bs ≡ ok ns rest → items f n bs ≡ ok ns rest
named_items f string zero bs ns rest lt e = absurd (omega arith)
named_items f string (suc n) bs ns rest lt e =
    let (a, more, o, q) = and_then_ok (f bs) _ ns rest e in
    let one : suc n - 1 ≡ n = omega arith in
    by_test (string a) _ _ _ q
    (λ t i. ap (λ o. and_then o (λ a more. map_out (λ l. a ∷ l) (items f n more))) o ∙ ap (λ k. map_out (λ l. a ∷ l) (items f k more)) (sym one) ∙ i)
    (λ t i. absurd (clash i))

module _ (bs : List ℕ) (p e s e' : ℕ) (more rest : List ℕ) (t : Node) (is : more ≡ drop e bs) (from : p ≤ e) (le : e ≤ length bs) (o : view_at bs false p ≡ ok t rest) where
  node : node_at bs false p ≡ t
  node = node_is bs false p t rest o

  never_below : (m : Bool) (n : ℕ) (f : Form Node) → is_attribute (knit s e' f) ≡ false → knit s e' f ≡ t
      → is_attribute (node_at bs false p) ≡ true → (q : ℕ) → RowEnded bs m e n q → (wholly bs false q ≡ true) × (node_at bs false q ≡ unwrapped (node_at bs false p))
  never_below m n f a k is q r = absurd (false≢true (sym a ∙ ap is_attribute (k ∙ sym node) ∙ is))

  -- all that stands below
  inner_made : (m : Bool) (n : ℕ) (ns : List Node) → row_at bs m e n ≡ ok ns rest → ns ≡ inner_of (node_at bs false p) → Inner bs false p (record { at = e; left = n; pairs = m })
  unfolding wholly_row
  inner_made m n ns row same =
      record {
        whole = ok_read (row_at bs m e n) ns rest row;
        inside = le;
        from = from;
        parts = nodes_are bs m e n ns rest row ∙ same;
        ends = λ q w. let reads = w.reads in let back : rest ≡ drop q bs = cc in record { trees = ns; reads = row ∙ ap (ok ns) back; inside = w.inside };
      }

  inner_other : (m : Bool) (n : ℕ) (ns : List Node) (f : Form Node) → is_attribute (knit s e' f) ≡ false → knit s e' f ≡ t → row_at bs m e n ≡ ok ns rest → ns ≡ inner_of (knit s e' f)
      → Inner bs false p (inner_row (is_attribute (node_at bs false p)) (record { at = e; left = n; pairs = m }))
  inner_other m n ns f a k row same =
      subst (λ b. Inner bs false p (inner_row b (record { at = e; left = n; pairs = m }))) (sym a ∙ ap is_attribute (k ∙ sym node)) (inner_made m n ns row (same ∙ ap inner_of (k ∙ sym node)))

  as_list : (n : ℕ) (ns : List Node) (g : List Node → Form Node) → items (reading (offset (length bs)) 31) n more ≡ ok ns rest → knit s e' (g ns) ≡ t
      → parts_of (knit s e' (g ns)) ≡ listed (nodes ns) → flat_of (knit s e' (g ns)) ≡ listed (nodes ns) → inner_of (knit s e' (g ns)) ≡ listed (nodes ns)
      → is_attribute (knit s e' (g ns)) ≡ false → n ≤ items_most
      → Rowed bs p (record { at = e; left = n; pairs = false })
  as_list n ns g i k q f z a few =
      let row = row_list bs e n more rest ns is i in
      made bs p false e n ns ns rest le few row (sym (listed_nodes ns) ∙ sym q ∙ ap parts_of (k ∙ sym node)) row (sym (listed_nodes ns) ∙ sym f ∙ ap flat_of (k ∙ sym node))
      (inner_other false n ns (g ns) a k row (sym (listed_nodes ns) ∙ sym z)) (never_below false n (g ns) a k)

  as_pairs : (n : ℕ) (ps : List (Node × Node)) (g : Form Node) (l : List ℕ) → items (pair (reading (offset (length bs)) 31)) n more ≡ ok ps l → knit s e' g ≡ t
      → parts_of (knit s e' g) ≡ paired (node_pairs ps) → flat_of (knit s e' g) ≡ flattened (node_pairs ps) → n ≤ items_most
      → Inner bs false p (inner_row (is_attribute (node_at bs false p)) (record { at = e; left = n; pairs = true }))
      → (is_attribute (node_at bs false p) ≡ true → (q : ℕ) → RowEnded bs true e n q → (wholly bs false q ≡ true) × (node_at bs false q ≡ unwrapped (node_at bs false p)))
      → Rowed bs p (record { at = e; left = n; pairs = true })
  as_pairs n ps g l i k q f few z b =
      made bs p true e n (each pair_node ps) (in_turn ps) l le few (row_pairs bs e n more l ps is i) (sym (paired_nodes ps) ∙ sym q ∙ ap parts_of (k ∙ sym node))
      (row_flat bs e n more l ps is i) (sym (flattened_nodes ps) ∙ sym f ∙ ap flat_of (k ∙ sym node)) z b

  -- what an attribute is about
  data_below : (n : ℕ) (ps : List (Node × Node)) (l : List ℕ) (d : Node) → items (pair (reading (offset (length bs)) 31)) n more ≡ ok ps l → reading (offset (length bs)) 31 l ≡ ok d rest
      → unwrapped t ≡ d → (q : ℕ) → RowEnded bs true e n q → (wholly bs false q ≡ true) × (node_at bs false q ≡ unwrapped (node_at bs false p))
  unfolding wholly
  data_below n ps l d i u un q r =
      let at = offset (length bs) in
      let row = row_pairs bs e n more l ps is i in
      let w = r.reads in
      let same : l ≡ drop q bs = cc in
      let v : view_at bs false q ≡ ok d rest = ap (reading at 32) (sym same) ∙ grows at 31 l d rest u in
      (ok_read (view_at bs false q) d rest v, node_is bs false q d rest v ∙ sym un ∙ ap unwrapped (sym node))

  -- an attribute's keys and values, and then its data
  inner_attribute : (n : ℕ) (ps : List (Node × Node)) (l : List ℕ) (d : Node) → items (pair (reading (offset (length bs)) 31)) n more ≡ ok ps l → reading (offset (length bs)) 31 l ≡ ok d rest
      → knit s e' (attribute ps d) ≡ t → Inner bs false p (inner_row (is_attribute (node_at bs false p)) (record { at = e; left = n; pairs = true }))
  inner_attribute n ps l d j u k =
      let f = reading (offset (length bs)) 31 in
      let row = row_list bs e (2 * n + 1) more rest (in_turn ps ++ (d ∷ [])) is (items_and_one f (2 * n) more (in_turn ps) l d rest (items_in_turn f n more ps l j) u) in
      subst (λ b. Inner bs false p (inner_row b (record { at = e; left = n; pairs = true }))) (ap is_attribute (k ∙ sym node))
      (inner_made false (2 * n + 1) (in_turn ps ++ (d ∷ [])) row (ap (λ x. x ++ (d ∷ [])) (sym (flattened_nodes ps)) ∙ ap inner_of (k ∙ sym node)))

  renamed : (r q : Row) → r ≡ q → Rowed bs p q → Rowed bs p r
  renamed r q e w = subst (Rowed bs p) (sym e) w

  collected : (h : Head) (x : List ℕ) → Headed h x → (f : Form Node) → parts (reading (offset (length bs)) 31) is_string_node h more ≡ ok f rest → knit s e' f ≡ t
      → Rowed bs p (row_from (case_of (erase t)) e (items_in h))
  collected (a_leaf l) x w f i k =
      let same : leaf l ≡ f = cc in
      let after : more ≡ rest = cc in
      let k' : OneAt s e' l ≡ t = ap (knit s e') same ∙ k in
      renamed _ _ (ap (λ n. row_from (case_of (erase n)) e 0) (sym k') ∙ leaf_row l e 0) (made bs p false e 0 [] [] (drop e bs) le (omega arith) refl (ap parts_of (k' ∙ sym node)) refl (ap flat_of (k' ∙ sym node)) (inner_other false 0 [] (leaf l) refl k' (ap (ok []) (sym is ∙ after)) refl) (never_below false 0 (leaf l) refl k'))
  collected (of_array n) x w f i k =
      let (ns, j, q) = map_out_ok (items (reading (offset (length bs)) 31) n more) array f rest i in
      let k' = ap (knit s e') q ∙ k in
      renamed _ _ (ap (λ m. row_from (case_of (erase m)) e n) (sym k')) (as_list n ns array j k' refl refl refl refl (counted 42 items_most n x w (omega arith)))
  collected (of_set n) x w f i k =
      let (ns, j, q) = map_out_ok (items (reading (offset (length bs)) 31) n more) set f rest i in
      let k' = ap (knit s e') q ∙ k in
      renamed _ _ (ap (λ m. row_from (case_of (erase m)) e n) (sym k')) (as_list n ns set j k' refl refl refl refl (counted 126 items_most n x w (omega arith)))
  collected (of_push n) x w f i k =
      let (ns, j, q) = map_out_ok (named (reading (offset (length bs)) 31) is_string_node n more) push f rest i in
      let k' = ap (knit s e') q ∙ k in
      renamed _ _ (ap (λ m. row_from (case_of (erase m)) e n) (sym k')) (as_list n ns push (named_items (reading (offset (length bs)) 31) is_string_node n more ns rest w.1 j) k' refl refl refl refl (counted 62 items_most n x w.0 (omega arith)))
  collected (of_map n) x w f i k =
      let (ps, j, q) = map_out_ok (items (pair (reading (offset (length bs)) 31)) n more) map f rest i in
      let k' = ap (knit s e') q ∙ k in
      let half : 2 * n / 2 ≡ n = omega arith in
      renamed _ _ (ap (λ m. row_from (case_of (erase m)) e (2 * n)) (sym k') ∙ ap (λ c. record { at = e; left = c; pairs = true }) half) (as_pairs n ps (map ps) rest j k' refl refl (counted 37 pairs_most n x w (omega arith))
      (inner_other true n (each pair_node ps) (map ps) refl k' (row_pairs bs e n more rest ps is j) (sym (paired_nodes ps))) (never_below true n (map ps) refl k'))
  collected (of_attribute n) x w f i k =
      let (ps, l, j, q) = and_then_ok (items (pair (reading (offset (length bs)) 31)) n more) _ f rest i in
      let (d, u, v) = map_out_ok (reading (offset (length bs)) 31 l) (attribute ps) f rest q in
      let k' = ap (knit s e') v ∙ k in
      let half : (2 * n + 1) / 2 ≡ n = omega arith in
      renamed _ _ (ap (λ m. row_from (case_of (erase m)) e (2 * n + 1)) (sym k') ∙ ap (λ c. record { at = e; left = c; pairs = true }) half) (as_pairs n ps (attribute ps d) l j k' refl refl (counted 124 pairs_most n x w (omega arith)) (inner_attribute n ps l d j u k') (λ _. data_below n ps l d j u (ap unwrapped (sym k'))))

-- where the parts begin
pub front : (bs : List ℕ) (p : ℕ) (h : Head) (more : List ℕ) → p ≤ length bs → opening (drop p bs) ≡ ok h more
    → (x : List ℕ) × Headed h x × (more ≡ drop (p + (length (drop p bs) - length more)) bs) × (p + (length (drop p bs) - length more) ≤ length bs)
front bs p h more le o =
    let l = drop p bs in
    let (x, split, w) = opening_agrees.sound l h more o in
    let len : length l ≡ length x + length more = ap length split ∙ length-append x more in
    let short : length l ≡ length bs - p = length-drop p bs in
    let n : length x ≡ length l - length more = omega arith in
    (x, w, sym (drop_at x more (length l - length more) n) ∙ ap (drop (length l - length more)) (sym split) ∙ drop-drop (length l - length more) p bs, omega arith)

pub row_is : (bs : List ℕ) (p : ℕ) (t : Node) (rest : List ℕ) → p ≤ length bs → view_at bs false p ≡ ok t rest
    → (h : Head) × (more : List ℕ) × (opening (drop p bs) ≡ ok h more) × (p + (length (drop p bs) - length more) ≤ length bs)
    × Rowed bs p (row_from (case_of (erase t)) (p + (length (drop p bs) - length more)) (items_in h))
row_is bs p t rest le e =
    let (f, o, k) = level bs p t rest e in
    let (h, more, i, j) = and_then_ok (opening (drop p bs)) (parts (reading (offset (length bs)) 31) is_string_node) f rest o in
    let (x, w, is, in') = front bs p h more le i in
    (h, more, i, in', collected bs p (p + (length (drop p bs) - length more)) (offset (length bs) (drop p bs)) (offset (length bs) rest) more rest t is (omega arith) in' e h x w f j k)

pub others : (t : Node) → is_attribute t ≡ false → unwrapped t ≡ t
others (OneAt p e l) h = refl
others (ArrayAt p e ns) h = refl
others (SetAt p e ns) h = refl
others (PushAt p e ns) h = refl
others (MapAt p e ps) h = refl
others (AttributeAt p e ps n) h = absurd (false≢true (sym h))
others (PairAt p e k v) h = refl

-- what the code is told of a whole reply
module _ (bs : List ℕ) (p : ℕ) (h : is_read (view_at bs false p) ≡ true) where
  pub case_told : (r : Option Case) → Cased (drop p bs) r → (t : Node) (rest : List ℕ) → view_at bs false p ≡ ok t rest → r ≡ Some (case_of (erase t))
  case_told r c t rest o =
      let l = drop p bs in
      let (u, q, same) = plainly_read (offset (length l)) deepest l (erase t) rest (read_plainly (offset (length bs)) deepest l t rest o) in
      c u rest q ∙ ap (λ n. Some (case_of n)) same

  pub case_found : (r : Option Case) → Cased (drop p bs) r → r ≡ Some (case_of (erase (node_at bs false p)))
  case_found r c =
      let (t, rest, o) = read_ok (view_at bs false p) h in
      case_told r c t rest o ∙ ap (λ n. Some (case_of (erase n))) (sym (node_is bs false p t rest o))

-- a reply that has a text is a leaf
module _ (g : List ℕ → Out Node) (s e : ℕ) where
  collection : {A : Type 0} (o : Out A) (k : A → Form Node) (f : Form Node) (rest : List ℕ) → map_out k o ≡ ok f rest → ((a : A) → textual (case_of (erase (knit s e (k a)))) ≡ false)
      → textual (case_of (erase (knit s e f))) ≡ true → ⊥
  collection o k f rest i no_text is = let (a, j, q) = map_out_ok o k f rest i in false≢true (sym (no_text a) ∙ ap (λ f. textual (case_of (erase (knit s e f)))) q ∙ is)

  leaf_form : (h : Head) (x : List ℕ) → Headed h x → (more : List ℕ) (f : Form Node) (rest : List ℕ) → parts g is_string_node h more ≡ ok f rest
      → textual (case_of (erase (knit s e f))) ≡ true → (l : Leaf) × Leafed l x × (leaf l ≡ f) × (more ≡ rest)
  leaf_form (a_leaf l) x w more f rest i is = (l, w, cc, cc)
  leaf_form (of_array n) x w more f rest i is = absurd (collection (items g n more) array f rest i (λ _. refl) is)
  leaf_form (of_set n) x w more f rest i is = absurd (collection (items g n more) set f rest i (λ _. refl) is)
  leaf_form (of_push n) x w more f rest i is = absurd (collection (named g is_string_node n more) push f rest i (λ _. refl) is)
  leaf_form (of_map n) x w more f rest i is = absurd (collection (items (pair g) n more) map f rest i (λ _. refl) is)
  leaf_form (of_attribute n) x w more f rest i is =
      let (ps, l, j, q) = and_then_ok (items (pair g) n more) _ f rest i in absurd (collection (g l) (attribute ps) f rest q (λ _. refl) is)

pub record LeafAt (bs : List ℕ) (p : ℕ) : Type 0 where
  pub it : Leaf
  pub front : List ℕ
  pub rest : List ℕ
  pub split : drop p bs ≡ front ++ rest
  pub formed : Leafed it front
  pub node : node_at bs false p ≡ OneAt p (p + length front) it
  pub reads : view_at bs false p ≡ ok (node_at bs false p) rest
  pub inside : p + length front ≤ length bs

pub leaf_at : (bs : List ℕ) (p : ℕ) → p ≤ length bs → is_read (view_at bs false p) ≡ true → textual (case_of (erase (node_at bs false p))) ≡ true → LeafAt bs p
leaf_at bs p le h is =
    let at = offset (length bs) in
    let (t, rest, o) = read_ok (view_at bs false p) h in
    let n : node_at bs false p ≡ t = node_is bs false p t rest o in
    let (f, j, k) = level bs p t rest o in
    let (hd, more, i, q) = and_then_ok (opening (drop p bs)) (parts (reading at 31) is_string_node) f rest j in
    let (x, split, w) = opening_agrees.sound (drop p bs) hd more i in
    let text : textual (case_of (erase (knit (at (drop p bs)) (at rest) f))) ≡ true = ap (λ m. textual (case_of (erase m))) (k ∙ sym n) ∙ is in
    let (l, formed, same, m) = leaf_form (reading at 31) (at (drop p bs)) (at rest) hd x w more f rest q text in
    let split' : drop p bs ≡ x ++ rest = split ∙ ap (λ z. x ++ z) m in
    let len : length (drop p bs) ≡ length x + length rest = ap length split' ∙ length-append x rest in
    let short : length (drop p bs) ≡ length bs - p = length-drop p bs in
    let a : at (drop p bs) ≡ p = omega arith in
    let b : at rest ≡ p + length x = omega arith in
    record {
      it = l;
      front = x;
      rest = rest;
      split = split';
      formed = formed;
      node = n ∙ sym k ∙ ap (knit (at (drop p bs)) (at rest)) (sym same) ∙ ap (λ z. OneAt z (at rest) l) a ∙ ap (λ z. OneAt p z l) b;
      reads = o ∙ ap (λ z. ok z rest) (sym n);
      inside = omega arith;
    }

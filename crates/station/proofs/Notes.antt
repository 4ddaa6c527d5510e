-- The notes of a tree are its own and those of the replies right below it.
use Rattle.std.proofs.Common.{◌≡◌, ℕ, zero, suc, ◌+◌, ◌*◌, List, [], ◌∷◌, ◌++◌, length, sym, refl, ap, ◌∙◌, append_assoc, append-nil, subst}
use Rattle.resp.specs.Out.{Out, ok}
use Rattle.resp.specs.Reading.{Head, a_leaf, of_array, of_set, of_push, of_map, of_attribute, Form, leaf, array, set, push, map, attribute, opening, items, pair, named, parts, form}
use Rattle.resp.specs.Node.{Node, nodes, node_pairs, erase, is_string_node, knit, reading}
use Rattle.resp.specs.Cases.{case_of}
use Rattle.resp.specs.Told.{items_in}
use Rattle.resp.proofs.Outs.{and_then_ok, map_out_ok}
use Rattle.resp.proofs.Heads.{Headed, opening_agrees}
use Rattle.resp.proofs.Opens.{ended_ok}
use Rattle.reply.proofs.Opening.{in_turn, items_in_turn, items_and_one, named_items}
use Rattle.station.specs.declared.listing.Note.{Note}
use Rattle.station.specs.Listing.{count, count_pairs, noted, noted_each, noted_pairs}

-- the notes of some replies, one after another
abbrev pub listing : ℕ → List Node → List Note
listing d [] = []
listing d (n ∷ ns) = noted d n ++ listing d ns

pub listing_append : (d : ℕ) (ns ms : List Node) → listing d (ns ++ ms) ≡ listing d ns ++ listing d ms
listing_append d [] ms = refl
listing_append d (n ∷ ns) ms = ap (λ l. noted d n ++ l) (listing_append d ns ms) ∙ sym (append_assoc (noted d n) (listing d ns) (listing d ms))

listing_one : (d : ℕ) (n : Node) → listing d (n ∷ []) ≡ noted d n
listing_one d n = append-nil (noted d n)

each_listed : (d : ℕ) (ns : List Node) → noted_each d (nodes ns) ≡ listing d ns
each_listed d [] = refl
each_listed d (n ∷ ns) = ap (λ l. noted d n ++ l) (each_listed d ns)

pairs_listed : (d : ℕ) (ps : List (Node × Node)) → noted_pairs d (node_pairs ps) ≡ listing d (in_turn ps)
pairs_listed d [] = refl
pairs_listed d (p ∷ ps) = ap (λ l. noted d p.0 ++ (noted d p.1 ++ l)) (pairs_listed d ps)

counted : (ns : List Node) → count (nodes ns) ≡ length ns
counted [] = refl
counted (n ∷ ns) = ap suc (counted ns)

counted_pairs : (ps : List (Node × Node)) → count_pairs (node_pairs ps) ≡ length ps
counted_pairs [] = refl
counted_pairs (p ∷ ps) = ap suc (counted_pairs ps)

-- as many are read as are wanted
items_length : {A : Type 0} (f : List ℕ → Out A) (n : ℕ) (l : List ℕ) (xs : List A) (rest : List ℕ) → items f n l ≡ ok xs rest → length xs ≡ n
items_length f zero l xs rest e = let none : [] ≡ xs = cc in sym (ap length none)
items_length f (suc n) l xs rest e =
    let (a, more, o, q) = and_then_ok (f l) _ xs rest e in
    let (ys, r, s) = map_out_ok (items f n more) _ xs rest q in
    sym (ap length s) ∙ ap suc (items_length f n more ys rest r)

-- the note of a reply itself
abbrev pub own : ℕ → ℕ → ℕ → ℕ → Node → Note
own s e v n t = record { at = s; end = e; level = v; items = n; case = case_of (erase t) }

-- the replies right below one level, one after another
pub record Below (f : List ℕ → Out Node) (n : ℕ) (more rest : List ℕ) (s e : ℕ) (t : Node) : Type 0 where
  pub ns : List Node
  pub reads : items f n more ≡ ok ns rest
  pub notes : (v : ℕ) → noted v t ≡ own s e v n t ∷ listing (suc v) ns

module _ (f : List ℕ → Out Node) (s e : ℕ) (more rest : List ℕ) where
  by_list : (n : ℕ) (ns : List Node) (g : List Node → Form Node) → items f n more ≡ ok ns rest
      → ((v : ℕ) → noted v (knit s e (g ns)) ≡ own s e v (count (nodes ns)) (knit s e (g ns)) ∷ noted_each (suc v) (nodes ns)) → Below f n more rest s e (knit s e (g ns))
  by_list n ns g j h =
      let len : count (nodes ns) ≡ n = counted ns ∙ items_length f n more ns rest j in
      record { ns = ns; reads = j; notes = λ v. h v ∙ ap (λ k. own s e v k (knit s e (g ns)) ∷ noted_each (suc v) (nodes ns)) len ∙ ap (λ l. own s e v n (knit s e (g ns)) ∷ l) (each_listed (suc v) ns) }

  pub below : (h : Head) (x : List ℕ) → Headed h x → (fm : Form Node) → parts f is_string_node h more ≡ ok fm rest → Below f (items_in h) more rest s e (knit s e fm)
  below (a_leaf l) x w fm i =
      let same : leaf l ≡ fm = cc in
      let after : more ≡ rest = cc in
      rw (← same) (record { ns = []; reads = ap (ok []) after; notes = λ v. refl })
  below (of_array n) x w fm i = let (ns, j, q) = map_out_ok (items f n more) array fm rest i in rw (← q) (by_list n ns array j (λ v. refl))
  below (of_set n) x w fm i = let (ns, j, q) = map_out_ok (items f n more) set fm rest i in rw (← q) (by_list n ns set j (λ v. refl))
  below (of_push n) x w fm i =
      let (ns, j, q) = map_out_ok (named f is_string_node n more) push fm rest i in
      rw (← q) (by_list n ns push (named_items f is_string_node n more ns rest w.1 j) (λ v. refl))
  below (of_map n) x w fm i =
      let (ps, j, q) = map_out_ok (items (pair f) n more) map fm rest i in
      let len : count_pairs (node_pairs ps) ≡ n = counted_pairs ps ∙ items_length (pair f) n more ps rest j in
      let t = knit s e (map ps) in
      rw (← q) (record {
        ns = in_turn ps;
        reads = items_in_turn f n more ps rest j;
        notes = λ v. ap (λ k. own s e v (2 * k) t ∷ noted_pairs (suc v) (node_pairs ps)) len ∙ ap (λ l. own s e v (2 * n) t ∷ l) (pairs_listed (suc v) ps);
      })
  below (of_attribute n) x w fm i =
      let (ps, l, j, q) = and_then_ok (items (pair f) n more) _ fm rest i in
      let (d, u, z) = map_out_ok (f l) (attribute ps) fm rest q in
      let len : count_pairs (node_pairs ps) ≡ n = counted_pairs ps ∙ items_length (pair f) n more ps l j in
      let t = knit s e (attribute ps d) in
      rw (← z) (record {
        ns = in_turn ps ++ (d ∷ []);
        reads = items_and_one f (2 * n) more (in_turn ps) l d rest (items_in_turn f n more ps l j) u;
        notes = λ v.
            ap (λ k. own s e v (2 * k + 1) t ∷ (noted_pairs (suc v) (node_pairs ps) ++ noted (suc v) d)) len
            ∙ ap (λ m. own s e v (2 * n + 1) t ∷ (m ++ noted (suc v) d)) (pairs_listed (suc v) ps)
            ∙ ap (λ m. own s e v (2 * n + 1) t ∷ (listing (suc v) (in_turn ps) ++ m)) (sym (listing_one (suc v) d))
            ∙ ap (λ m. own s e v (2 * n + 1) t ∷ m) (sym (listing_append (suc v) (in_turn ps) (d ∷ [])));
      })

-- of what was read where one level more is left
pub structure : (at : List ℕ → ℕ) (d : ℕ) (l : List ℕ) (t : Node) (rest : List ℕ) → reading at (suc d) l ≡ ok t rest
    → (h : Head) × (more : List ℕ) × (opening l ≡ ok h more) × Below (reading at d) (items_in h) more rest (at l) (at rest) t
structure at d l t rest e =
    let (fm, o, k) = ended_ok _ (form (reading at d) is_string_node l) t rest e in
    let (h, more, i, j) = and_then_ok (opening l) (parts (reading at d) is_string_node) fm rest o in
    let (x, split, w) = opening_agrees.sound l h more i in
    (h, more, i, subst (Below (reading at d) (items_in h) more rest (at l) (at rest)) k (below (reading at d) (at l) (at rest) more rest h x w fm j))

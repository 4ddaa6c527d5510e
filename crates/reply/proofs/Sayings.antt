-- The bytes of a reply's part are its text.
use Rattle.std.proofs.Common.{◌≡◌, ℕ, ◌+◌, ◌-◌, ◌≤◌, Bool, true, false, List, [], ◌∷◌, ◌++◌, length, take, drop, sym, refl, ap, ◌∙◌, subst, append_assoc, arith}
use Rattle.std.proofs.lemmas.List.{length-append, drop-drop, drop_at, take_at}
use Rattle.numerals.proofs.IntegerRules.{integers_agree}
use Rattle.resp.specs.Reply.{Leaf, Nil, Int, BulkString, SimpleString, Okay, Double, Boolean, VerbatimString, BigNumber, ServerError}
use Rattle.resp.specs.Grammar as grammar
use Rattle.resp.specs.Grammar.{Line, header, Leafed, crlf}
use Rattle.reply.specs.declared.part.Part.{Part}
use Rattle.reply.specs.Parted.{part_in, part_of, textual}
use Rattle.reply.specs.Says.{SaysLeaf, Says}
use Rattle.std.proofs.lemmas.Bool.{false≢true}
use Rattle.resp.specs.Cases.{case_of}
use Rattle.resp.specs.Node.{Node, OneAt, ArrayAt, SetAt, PushAt, MapAt, AttributeAt, PairAt, erase}
use Rattle.reply.specs.Tree.{view_at, is_read, node_at, wholly}
use Rattle.reply.proofs.Views.{single}
use Rattle.reply.proofs.Opening.{leaf_at}
use Rattle.reply.proofs.LeafParts.{text_single, no_part, start_at}

-- some bytes, then c, then others: c stands where they end
middle : (bs : List ℕ) (p e : ℕ) (a c d : List ℕ) → drop p bs ≡ a ++ (c ++ d) → (s n : ℕ) → s ≡ p + length a → n ≡ length c → take n (drop s bs) ≡ c
middle bs p e a c d split s n is len =
    ap (λ k. take n (drop k bs)) is ∙ ap (take n) (sym (drop-drop (length a) p bs) ∙ ap (drop (length a)) split ∙ drop_at a (c ++ d) (length a) refl) ∙ take_at c d n (sym len)

module _ (bs : List ℕ) (p e : ℕ) (rest : List ℕ) where
  -- a line
  line_says : (b : ℕ) (c : List ℕ) → drop p bs ≡ (b ∷ (c ++ crlf)) ++ rest → e ≡ p + length (b ∷ (c ++ crlf)) → take (length c) (drop (e - 2 - length c) bs) ≡ c
  line_says b c split is =
      let l = length-append c crlf in
      middle bs p e (b ∷ []) c (crlf ++ rest) (split ∙ ap (λ z. b ∷ z) (append_assoc c crlf rest)) (e - 2 - length c) (length c) (omega arith) refl

  -- a body
  body_says : (h s : List ℕ) → drop p bs ≡ (h ++ (s ++ crlf)) ++ rest → e ≡ p + length (h ++ (s ++ crlf)) → take (length s) (drop (e - 2 - length s) bs) ≡ s
  body_says h s split is =
      let a = length-append h (s ++ crlf) in
      let b = length-append s crlf in
      middle bs p e h s (crlf ++ rest) (split ∙ append_assoc h (s ++ crlf) rest ∙ ap (λ z. h ++ z) (append_assoc s crlf rest)) (e - 2 - length s) (length s) (omega arith) refl

  pub leaf_says : (l : Leaf) (x : List ℕ) → Leafed l x → drop p bs ≡ x ++ rest → e ≡ p + length x → SaysLeaf l (take (part_in p e l).len (drop (part_in p e l).start bs))
  leaf_says _ _ grammar.a_null split is = refl
  leaf_says _ _ grammar.a_null_bulk split is = refl
  leaf_says _ _ grammar.a_null_array split is = refl
  leaf_says _ _ (grammar.an_integer {z = z} {c = c} line i) split is =
      let l = length-append c crlf in
      subst (λ x. SaysLeaf (Int z) x) (sym (middle bs p e (58 ∷ []) c (crlf ++ rest) (split ∙ ap (λ z. 58 ∷ z) (append_assoc c crlf rest)) (p + 1) (e - 2 - (p + 1)) refl (omega arith))) ((integers_agree z c).1 i)
  leaf_says _ _ grammar.a_true split is = middle bs p e (35 ∷ []) (116 ∷ []) (crlf ++ rest) split (p + 1) 1 refl refl
  leaf_says _ _ grammar.a_false split is = middle bs p e (35 ∷ []) (102 ∷ []) (crlf ++ rest) split (p + 1) 1 refl refl
  leaf_says _ _ (grammar.a_double {c = c} line i) split is = line_says 44 c split is
  leaf_says _ _ (grammar.a_big_number {c = c} line i) split is = line_says 40 c split is
  leaf_says _ _ grammar.an_okay split is = middle bs p e (43 ∷ []) (79 ∷ 75 ∷ []) (crlf ++ rest) split (p + 1) 2 refl refl
  leaf_says _ _ (grammar.a_simple_string {c = c} line w m) split is = line_says 43 c split is
  leaf_says _ _ (grammar.a_simple_error {c = c} line w) split is = line_says 45 c split is
  leaf_says _ _ (grammar.a_bulk_string {s = s} {h = h} hd) split is = body_says h s split is
  leaf_says _ _ (grammar.a_bulk_error {s = s} {h = h} hd w) split is = body_says h s split is
  leaf_says _ _ (grammar.a_verbatim_string {f = f} {t = t} {h = h} three hd w) split is =
      let a = length-append h ((f ++ (58 ∷ t)) ++ crlf) in
      let b = length-append (f ++ (58 ∷ t)) crlf in
      let d = length-append f (58 ∷ t) in
      let g = length-append h (f ++ (58 ∷ [])) in
      let k = length-append f (58 ∷ []) in
      middle bs p e (h ++ (f ++ (58 ∷ []))) t (crlf ++ rest) (split ∙ spread h f t rest) (e - 2 - length t) (length t) (omega arith) refl
    where
      spread : (h f t rest : List ℕ) → (h ++ ((f ++ (58 ∷ t)) ++ crlf)) ++ rest ≡ (h ++ (f ++ (58 ∷ []))) ++ (t ++ (crlf ++ rest))
      spread h f t rest = simp append_assoc

-- a leaf's text ends before the leaf does
leaf_within : (p e : ℕ) (l : Leaf) (x : List ℕ) → Leafed l x → e ≡ p + length x → (part_in p e l).start + (part_in p e l).len ≤ e
leaf_within p e _ _ grammar.a_null is = omega arith
leaf_within p e _ _ grammar.a_null_bulk is = omega arith
leaf_within p e _ _ grammar.a_null_array is = omega arith
leaf_within p e _ _ (grammar.an_integer {z = z} {c = c} line i) is = let l = length-append c crlf in omega arith
leaf_within p e _ _ grammar.a_true is = omega arith
leaf_within p e _ _ grammar.a_false is = omega arith
leaf_within p e _ _ (grammar.a_double {c = c} line i) is = let l = length-append c crlf in omega arith
leaf_within p e _ _ (grammar.a_big_number {c = c} line i) is = let l = length-append c crlf in omega arith
leaf_within p e _ _ grammar.an_okay is = omega arith
leaf_within p e _ _ (grammar.a_simple_string {c = c} line w m) is = let l = length-append c crlf in omega arith
leaf_within p e _ _ (grammar.a_simple_error {c = c} line w) is = let l = length-append c crlf in omega arith
leaf_within p e _ _ (grammar.a_bulk_string {s = s} {h = h} hd) is = let a = length-append h (s ++ crlf) in let b = length-append s crlf in omega arith
leaf_within p e _ _ (grammar.a_bulk_error {s = s} {h = h} hd w) is = let a = length-append h (s ++ crlf) in let b = length-append s crlf in omega arith
leaf_within p e _ _ (grammar.a_verbatim_string {f = f} {t = t} {h = h} three hd w) is =
    let a = length-append h ((f ++ (58 ∷ t)) ++ crlf) in
    let b = length-append (f ++ (58 ∷ t)) crlf in
    let d = length-append f (58 ∷ t) in
    omega arith

-- what has no text
no_says : (bs : List ℕ) (n : Node) → textual (case_of (erase n)) ≡ false → Says n (take (part_of n).len (drop (part_of n).start bs))
no_says bs (OneAt p e Nil) h = refl
no_says bs (OneAt p e (Int z)) h = absurd (false≢true (sym h))
no_says bs (OneAt p e (BulkString c)) h = absurd (false≢true (sym h))
no_says bs (OneAt p e (SimpleString c)) h = absurd (false≢true (sym h))
no_says bs (OneAt p e Okay) h = absurd (false≢true (sym h))
no_says bs (OneAt p e (Double c)) h = absurd (false≢true (sym h))
no_says bs (OneAt p e (Boolean v)) h = absurd (false≢true (sym h))
no_says bs (OneAt p e (VerbatimString f t)) h = absurd (false≢true (sym h))
no_says bs (OneAt p e (BigNumber c)) h = absurd (false≢true (sym h))
no_says bs (OneAt p e (ServerError c)) h = absurd (false≢true (sym h))
no_says bs (ArrayAt p e ns) h = refl
no_says bs (SetAt p e ns) h = refl
no_says bs (PushAt p e ns) h = refl
no_says bs (MapAt p e ps) h = refl
no_says bs (AttributeAt p e ps n) h = refl
no_says bs (PairAt p e k v) h = refl

-- a part of the bytes that is the text of n
abbrev Stands : List ℕ → Node → Part → Type 0
Stands bs n r = Says n (take r.len (drop r.start bs)) × (r.start + r.len ≤ length bs)

-- what has one
text_says : (bs : List ℕ) (p : ℕ) → p ≤ length bs → is_read (view_at bs false p) ≡ true → textual (case_of (erase (node_at bs false p))) ≡ true
    → Stands bs (node_at bs false p) (part_of (node_at bs false p))
text_says bs p le h is =
    let L = leaf_at bs p le h is in
    let e = p + length L.front in
    let w = leaf_within p e L.it L.front L.formed refl in
    let in' = L.inside in
    subst (λ n. Stands bs n (part_of n)) (sym L.node) (leaf_says bs p e L.rest L.it L.front L.formed L.split refl, omega arith)

-- of a view
pub part_says : (bs : List ℕ) (m : Bool) (p : ℕ) → p ≤ length bs → wholly bs m p ≡ true → (r : Part) → r ≡ part_of (node_at bs m p) → Stands bs (node_at bs m p) r
unfolding wholly
part_says bs m p le h r is = subst (Stands bs (node_at bs m p)) (sym is) (go (textual (case_of (erase (node_at bs m p)))) refl)
  where
    go : (t : Bool) → textual (case_of (erase (node_at bs m p))) ≡ t → Stands bs (node_at bs m p) (part_of (node_at bs m p))
    go true t =
        let one = single bs m p (text_single bs m p h t) h in
        subst (λ n. Stands bs n (part_of n)) one.1 (text_says bs p le one.0 (ap (λ n. textual (case_of (erase n))) one.1 ∙ t))
    go false t =
        let none = no_part (node_at bs m p) p (start_at bs m p le h) t in
        (no_says bs (node_at bs m p) t, subst (λ r. r.start + r.len ≤ length bs) none (omega arith))

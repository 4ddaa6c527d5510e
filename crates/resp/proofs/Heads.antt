-- Every kind's rule agrees with the grammar of its wire forms.
use Rattle.std.proofs.Common.{◌≡◌, ℕ, ◌<◌, Bool, true, false, cond, eqb, ltb, List, [], ◌∷◌, ◌++◌, length, get_or, take, drop, ℤ, Some, None, Option, sym, refl, ap, ◌∙◌, subst, append_assoc, arith}
use Rattle.std.proofs.lemmas.List.{take-append-drop, drop_more, length-take-le, length-append, get_or_at, take_at, drop_at, drop-drop}
use Rattle.std.proofs.lemmas.Bool.{and_parts, and_from, false≢true, ltb-true, lt-ltb, eqb-true, eqb-false, ne_eqb, eq-eqb}
use Rattle.utf8.specs.Table.{WellFormed}
use Rattle.numerals.specs.Integer.{integer}
use Rattle.numerals.specs.Double.{is_double, is_big_number}
use Rattle.resp.specs.declared.kind.Kind.{Kind}
use Rattle.resp.specs.declared.kind.Kind.TheVariants as kind
use Rattle.resp.specs.Limits.{length_most, items_most, pairs_most}
use Rattle.resp.specs.Out.{Out, ok, and_then, map_out}
use Rattle.resp.specs.Reply.{Leaf, Nil, Int, BulkString, Okay, Double, Boolean, VerbatimString, BigNumber, ServerError}
use Rattle.resp.specs.Grammar.{Line, Header, header, Leafed, a_null, a_null_bulk, a_null_array, an_integer, a_true, a_false, a_double, a_big_number, an_okay, a_simple_string, a_simple_error, a_bulk_string, a_bulk_error, a_verbatim_string, crlf}
use Rattle.resp.specs.Reading.{kind_of, lined, integer_of, null_leaf, boolean_leaf, double_leaf, big_number_leaf, spells_ok, simple_leaf, text, text_line, size, size_or_null, body, is_verbatim, verbatim, bulk, Head, a_leaf, of_array, of_set, of_push, of_map, of_attribute, array_head, pushed, head, begun, opening}
use Rattle.resp.proofs.Outs.{clash, and_then_ok, map_out_ok, by_test}
use Rattle.resp.proofs.Lists.{Agrees, joined}
use Rattle.resp.proofs.Openings.{lined_sound, lined_complete, text_sound, text_complete, text_line_sound, text_line_complete, size_sound, size_complete, NullOr, null_sound, null_complete, body_sound, body_complete}
use Rattle.numerals.proofs.IntegerRules.{integers_agree}
use Rattle.numerals.proofs.DoubleRules.{doubles_agree, big_numbers_agree}

-- the first character of each kind
abbrev pub code_of : Kind → ℕ
code_of kind.SimpleString = 43
code_of kind.SimpleError = 45
code_of kind.Integer = 58
code_of kind.BulkString = 36
code_of kind.Array = 42
code_of kind.Null = 95
code_of kind.Boolean = 35
code_of kind.Double = 44
code_of kind.BigNumber = 40
code_of kind.BulkError = 33
code_of kind.VerbatimString = 61
code_of kind.Map = 37
code_of kind.Attribute = 124
code_of kind.Set = 126
code_of kind.Push = 62

-- x is a wire form up to the parts
abbrev pub Headed : Head → List ℕ → Type 0
Headed (a_leaf l) x = Leafed l x
Headed (of_array n) x = Header 42 items_most n x
Headed (of_set n) x = Header 126 items_most n x
Headed (of_push n) x = Header 62 items_most n x × (0 < n)
Headed (of_map n) x = Header 37 pairs_most n x
Headed (of_attribute n) x = Header 124 pairs_most n x

abbrev pub Fronts : List ℕ → Head → List ℕ → Type 0
Fronts bs h rest = (x : List ℕ) × (bs ≡ x ++ rest) × Headed h x

-- what the line of a leaf stands for
integer_leaf : (c : List ℕ) (l : Leaf) → Line c → integer_of (integer c) ≡ Some l → Leafed l (58 ∷ (c ++ crlf))
integer_leaf c l line e = go (integer c) refl e
  where
    go : (o : Option ℤ) → integer c ≡ o → integer_of o ≡ Some l → Leafed l (58 ∷ (c ++ crlf))
    go (Some z) i h = let is : Int z ≡ l = cc in subst (λ m. Leafed m (58 ∷ (c ++ crlf))) is (an_integer line ((integers_agree z c).0 i))
    go None i h = absurd (cc)

null_leaf_lem : (c : List ℕ) (l : Leaf) → null_leaf c ≡ Some l → Leafed l (95 ∷ (c ++ crlf))
null_leaf_lem [] l e = let is : Nil ≡ l = cc in subst (λ m. Leafed m (95 ∷ crlf)) is a_null
null_leaf_lem (b ∷ c) l e = absurd (cc)

boolean_leaf_lem : (c : List ℕ) (l : Leaf) → boolean_leaf c ≡ Some l → Leafed l (35 ∷ (c ++ crlf))
boolean_leaf_lem [] l e = absurd (cc)
boolean_leaf_lem (b ∷ []) l e =
    by_test (eqb b 116) _ _ _ e
    (λ t h. let is : Boolean true ≡ l = cc in subst (λ m. Leafed m (35 ∷ b ∷ crlf)) is (subst (λ y. Leafed (Boolean true) (35 ∷ y ∷ crlf)) (sym (eqb-true b 116 t)) a_true))
    (λ t h. by_test (eqb b 102) _ _ _ h
    (λ u i. let is : Boolean false ≡ l = cc in subst (λ m. Leafed m (35 ∷ b ∷ crlf)) is (subst (λ y. Leafed (Boolean false) (35 ∷ y ∷ crlf)) (sym (eqb-true b 102 u)) a_false))
    (λ u i. absurd (cc)))
boolean_leaf_lem (b ∷ d ∷ c) l e = absurd (cc)

double_leaf_lem : (c : List ℕ) (l : Leaf) → Line c → double_leaf c ≡ Some l → Leafed l (44 ∷ (c ++ crlf))
double_leaf_lem c l line e =
    by_test (is_double c) _ _ _ e
    (λ t h. let is : Double c ≡ l = cc in subst (λ m. Leafed m (44 ∷ (c ++ crlf))) is (a_double line ((doubles_agree c).0 t)))
    (λ t h. absurd (cc))

big_leaf : (c : List ℕ) (l : Leaf) → Line c → big_number_leaf c ≡ Some l → Leafed l (40 ∷ (c ++ crlf))
big_leaf c l line e =
    by_test (is_big_number c) _ _ _ e
    (λ t h. let is : BigNumber c ≡ l = cc in subst (λ m. Leafed m (40 ∷ (c ++ crlf))) is (a_big_number line ((big_numbers_agree c).0 t)))
    (λ t h. absurd (cc))

ok_is : (c : List ℕ) → spells_ok c ≡ true → c ≡ 79 ∷ 75 ∷ []
ok_is [] h = absurd (false≢true h)
ok_is (a ∷ []) h = absurd (false≢true h)
ok_is (a ∷ b ∷ []) h =
    let p = and_parts (eqb a 79) (eqb b 75) h in
    let x = eqb-true a 79 p.0 in
    let y = eqb-true b 75 p.1 in
    cc
ok_is (a ∷ b ∷ d ∷ c) h = absurd (false≢true h)

not_ok : (c : List ℕ) → (c ≡ 79 ∷ 75 ∷ [] → ⊥) → spells_ok c ≡ false
not_ok c n = go (spells_ok c) refl
  where
    go : (t : Bool) → spells_ok c ≡ t → spells_ok c ≡ false
    go true e = absurd (n (ok_is c e))
    go false e = e

simple_leaf_lem : (c : List ℕ) (l : Leaf) → Line c → WellFormed c → simple_leaf c ≡ l → Leafed l (43 ∷ (c ++ crlf))
simple_leaf_lem c l line w e =
    by_test (spells_ok c) _ _ _ e
    (λ t h. subst (λ m. Leafed m (43 ∷ (c ++ crlf))) h (subst (λ y. Leafed Okay (43 ∷ (y ++ crlf))) (sym (ok_is c t)) an_okay))
    (λ t h. subst (λ m. Leafed m (43 ∷ (c ++ crlf))) h (a_simple_string line w (λ is. false≢true (sym t ∙ ap spells_ok is))))

headed : (b : ℕ) (bs y rest : List ℕ) → bs ≡ y ++ rest → b ∷ bs ≡ (b ∷ y) ++ rest
headed b bs y rest h = ap (λ l. b ∷ l) h

lined_front : (b : ℕ) (judge : List ℕ → Option Leaf) (s bs : List ℕ) (h : Head) (rest : List ℕ)
    → ((c : List ℕ) (l : Leaf) → Line c → judge c ≡ Some l → Leafed l (b ∷ (c ++ crlf)))
    → map_out a_leaf (lined judge s bs) ≡ ok h rest → Fronts (b ∷ bs) h rest
lined_front b judge s bs h rest leafed e =
    let (l, p, q) = map_out_ok (lined judge s bs) a_leaf h rest e in
    let (c, split, line, i) = lined_sound judge s bs l rest p in
    subst (λ k. Fronts (b ∷ bs) k rest) q (b ∷ (c ++ crlf), headed b bs (c ++ crlf) rest split, leafed c l line i)

text_front : (b : ℕ) (g : List ℕ → Leaf) (s bs : List ℕ) (h : Head) (rest : List ℕ)
    → ((c : List ℕ) → Line c → WellFormed c → Leafed (g c) (b ∷ (c ++ crlf)))
    → map_out (λ c. a_leaf (g c)) (text_line s bs) ≡ ok h rest → Fronts (b ∷ bs) h rest
text_front b g s bs h rest leafed e =
    let (c, p, q) = map_out_ok (text_line s bs) (λ c. a_leaf (g c)) h rest e in
    let (split, line, w) = text_line_sound s bs c rest p in
    subst (λ k. Fronts (b ∷ bs) k rest) q (b ∷ (c ++ crlf), headed b bs (c ++ crlf) rest split, leafed c line w)

count_front : (b most : ℕ) (g : ℕ → Head) (s bs : List ℕ) (h : Head) (rest : List ℕ) → ((n : ℕ) (x : List ℕ) → Header b most n x → Headed (g n) x)
    → map_out g (size most s bs) ≡ ok h rest → Fronts (b ∷ bs) h rest
count_front b most g s bs h rest made e =
    let (n, p, q) = map_out_ok (size most s bs) g h rest e in
    let (x, split, w) = size_sound b most s bs n rest p in
    subst (λ k. Fronts (b ∷ bs) k rest) q (x, split, made n x w)

bulk_front : (s bs : List ℕ) (h : Head) (rest : List ℕ) → head kind.BulkString s bs ≡ ok h rest → Fronts (36 ∷ bs) h rest
bulk_front s bs h rest e =
    let (l, p, q) = map_out_ok (and_then (size_or_null length_most s bs) bulk) a_leaf h rest e in
    let (o, more, i, j) = and_then_ok (size_or_null length_most s bs) bulk l rest p in
    subst (λ k. Fronts (36 ∷ bs) k rest) q (go o more (null_sound 36 length_most s bs o more i) l j)
  where
    go : (o : Option ℕ) (more : List ℕ) → NullOr 36 length_most bs o more → (l : Leaf) → bulk o more ≡ ok l rest → Fronts (36 ∷ bs) (a_leaf l) rest
    go None more n l j =
        let is : Nil ≡ l = cc in
        let m : more ≡ rest = cc in
        subst (λ k. Fronts (36 ∷ bs) (a_leaf k) rest) is (36 ∷ 45 ∷ 49 ∷ crlf, ap (λ z. 36 ∷ z) (n ∙ ap (λ w. 45 ∷ 49 ∷ 13 ∷ 10 ∷ w) m), a_null_bulk)
    go (Some n) more w l j =
        let (s', p, q) = map_out_ok (body n more) BulkString l rest j in
        let (split, len) = body_sound n more s' rest p in
        let (x, front, hd) = w in
        subst (λ k. Fronts (36 ∷ bs) (a_leaf k) rest) q
        (x ++ (s' ++ crlf), joined (36 ∷ bs) x more (s' ++ crlf) rest front split, a_bulk_string (subst (λ m. Header 36 length_most m x) (sym len) hd))

array_front : (s bs : List ℕ) (h : Head) (rest : List ℕ) → head kind.Array s bs ≡ ok h rest → Fronts (42 ∷ bs) h rest
array_front s bs h rest e =
    let (o, p, q) = map_out_ok (size_or_null items_most s bs) array_head h rest e in
    subst (λ k. Fronts (42 ∷ bs) k rest) q (go o (null_sound 42 items_most s bs o rest p))
  where
    go : (o : Option ℕ) → NullOr 42 items_most bs o rest → Fronts (42 ∷ bs) (array_head o) rest
    go None n = (42 ∷ 45 ∷ 49 ∷ crlf, ap (λ z. 42 ∷ z) n, a_null_array)
    go (Some n) w = w

-- a size and a body that `judge` takes
sized_body : (b : ℕ) (judge : List ℕ → List ℕ → Out (List ℕ)) (s bs c rest : List ℕ)
    → and_then (size length_most s bs) (λ n more. and_then (body n more) judge) ≡ ok c rest
    → (d : List ℕ) × (more : List ℕ) × (x : List ℕ) × (b ∷ bs ≡ (x ++ (d ++ crlf)) ++ more) × Header b length_most (length d) x × (judge d more ≡ ok c rest)
sized_body b judge s bs c rest e =
    let (n, m, p, q) = and_then_ok (size length_most s bs) _ c rest e in
    let (d, more, i, j) = and_then_ok (body n m) judge c rest q in
    let (x, front, hd) = size_sound b length_most s bs n m p in
    let (split, len) = body_sound n m d more i in
    (d, more, x, joined (b ∷ bs) x m (d ++ crlf) more front split, subst (λ k. Header b length_most k x) (sym len) hd, j)

error_front : (s bs : List ℕ) (h : Head) (rest : List ℕ) → head kind.BulkError s bs ≡ ok h rest → Fronts (33 ∷ bs) h rest
error_front s bs h rest e =
    let (c, p, q) = map_out_ok _ (λ c. a_leaf (ServerError c)) h rest e in
    let (d, more, x, front, hd, j) = sized_body 33 text s bs c rest p in
    let (is, m, w) = text_sound d c more rest j in
    subst (λ k. Fronts (33 ∷ bs) k rest) (ap (λ k. a_leaf (ServerError k)) is ∙ q)
    (x ++ (d ++ crlf), front ∙ ap (λ z. (x ++ (d ++ crlf)) ++ z) m, a_bulk_error hd w)

verbatim_parts : (c : List ℕ) → is_verbatim c ≡ true → (c ≡ take 3 c ++ (58 ∷ drop 4 c)) × (length (take 3 c) ≡ 3)
verbatim_parts c t =
    let p = and_parts (ltb 3 (length c)) (eqb (get_or c 3 0) 58) t in
    let long = ltb-true 3 (length c) p.0 in
    let is : get_or c 3 0 ≡ 58 = eqb-true _ _ p.1 in
    (sym (take-append-drop 3 c) ∙ ap (λ z. take 3 c ++ z) (drop_more c 3 0 long ∙ ap (λ z. z ∷ drop 4 c) is), length-take-le 3 c (omega arith))

verbatim_front : (s bs : List ℕ) (h : Head) (rest : List ℕ) → head kind.VerbatimString s bs ≡ ok h rest → Fronts (61 ∷ bs) h rest
verbatim_front s bs h rest e =
    let g : List ℕ → Head = λ c. a_leaf (VerbatimString (take 3 c) (drop 4 c)) in
    let (c, p, q) = map_out_ok (and_then (size length_most s bs) λ n more. and_then (body n more) (verbatim s)) g h rest e in
    let (d, more, x, front, hd, j) = sized_body 61 (verbatim s) s bs c rest p in
    by_test (is_verbatim d) _ _ _ j
    (λ t i.
    let (is, m, w) = text_sound d c more rest i in
    let (made, three) = verbatim_parts d t in
    subst (λ k. Fronts (61 ∷ bs) k rest) (ap g is ∙ q) (
      x ++ ((take 3 d ++ (58 ∷ drop 4 d)) ++ crlf),
      front ∙ ap (λ z. (x ++ (d ++ crlf)) ++ z) m ∙ ap (λ z. (x ++ (z ++ crlf)) ++ rest) made,
      a_verbatim_string three (subst (λ z. Header 61 length_most (length z) x) made hd) (subst WellFormed made w),
    ))
    (λ t i. absurd (clash i))

push_front : (s bs : List ℕ) (h : Head) (rest : List ℕ) → head kind.Push s bs ≡ ok h rest → Fronts (62 ∷ bs) h rest
push_front s bs h rest e =
    let (n, more, p, q) = and_then_ok (size items_most s bs) (pushed s) h rest e in
    let (x, split, w) = size_sound 62 items_most s bs n more p in
    by_test (eqb n 0) _ _ _ q
    (λ t i. absurd (clash i))
    (λ t i.
    let is : of_push n ≡ h = cc in
    let m : more ≡ rest = cc in
    let some : n ≡ 0 → ⊥ = eqb-false n 0 t in
    subst (λ k. Fronts (62 ∷ bs) k rest) is (x, split ∙ ap (λ z. x ++ z) m, (w, omega arith)))

pub head_sound : (k : Kind) (s bs : List ℕ) (h : Head) (rest : List ℕ) → head k s bs ≡ ok h rest → Fronts (code_of k ∷ bs) h rest
head_sound kind.SimpleString s bs h rest e = text_front 43 simple_leaf s bs h rest (λ c line w. simple_leaf_lem c (simple_leaf c) line w refl) e
head_sound kind.SimpleError s bs h rest e = text_front 45 ServerError s bs h rest (λ c line w. a_simple_error line w) e
head_sound kind.Integer s bs h rest e = lined_front 58 _ s bs h rest integer_leaf e
head_sound kind.Null s bs h rest e = lined_front 95 _ s bs h rest (λ c l line i. null_leaf_lem c l i) e
head_sound kind.Boolean s bs h rest e = lined_front 35 _ s bs h rest (λ c l line i. boolean_leaf_lem c l i) e
head_sound kind.Double s bs h rest e = lined_front 44 _ s bs h rest double_leaf_lem e
head_sound kind.BigNumber s bs h rest e = lined_front 40 _ s bs h rest big_leaf e
head_sound kind.BulkString s bs h rest e = bulk_front s bs h rest e
head_sound kind.BulkError s bs h rest e = error_front s bs h rest e
head_sound kind.VerbatimString s bs h rest e = verbatim_front s bs h rest e
head_sound kind.Array s bs h rest e = array_front s bs h rest e
head_sound kind.Set s bs h rest e = count_front 126 items_most of_set s bs h rest (λ n x w. w) e
head_sound kind.Push s bs h rest e = push_front s bs h rest e
head_sound kind.Map s bs h rest e = count_front 37 pairs_most of_map s bs h rest (λ n x w. w) e
head_sound kind.Attribute s bs h rest e = count_front 124 pairs_most of_attribute s bs h rest (λ n x w. w) e

pub kind_is : (b : ℕ) (k : Kind) → kind_of b ≡ Some k → b ≡ code_of k
kind_is b k e =
    tried 43 kind.SimpleString _ refl e λ e. tried 45 kind.SimpleError _ refl e λ e. tried 58 kind.Integer _ refl e λ e.
    tried 36 kind.BulkString _ refl e λ e. tried 42 kind.Array _ refl e λ e. tried 95 kind.Null _ refl e λ e.
    tried 35 kind.Boolean _ refl e λ e. tried 44 kind.Double _ refl e λ e. tried 40 kind.BigNumber _ refl e λ e.
    tried 33 kind.BulkError _ refl e λ e. tried 61 kind.VerbatimString _ refl e λ e. tried 37 kind.Map _ refl e λ e.
    tried 124 kind.Attribute _ refl e λ e. tried 126 kind.Set _ refl e λ e. tried 62 kind.Push _ refl e λ e. absurd (cc)
  where
    tried : (m : ℕ) (j : Kind) (y : Option Kind) → code_of j ≡ m → cond (eqb b m) (Some j) y ≡ Some k → (y ≡ Some k → b ≡ code_of k) → b ≡ code_of k
    tried m j y is e next = by_test (eqb b m) _ _ _ e (λ t h. let same : j ≡ k = cc in eqb-true b m t ∙ sym is ∙ ap code_of same) (λ t h. next h)

opening_sound : (bs : List ℕ) (h : Head) (rest : List ℕ) → opening bs ≡ ok h rest → Fronts bs h rest
opening_sound [] h rest e = absurd (clash e)
opening_sound (b ∷ bs) h rest e = go (kind_of b) refl e
  where
    go : (o : Option Kind) → kind_of b ≡ o → begun o (b ∷ bs) bs ≡ ok h rest → Fronts (b ∷ bs) h rest
    go None i j = absurd (clash j)
    go (Some k) i j = subst (λ z. Fronts (z ∷ bs) h rest) (sym (kind_is b k i)) (head_sound k (b ∷ bs) bs h rest j)

-- what is written is read
verbatim_is : (f t : List ℕ) → length f ≡ 3 → (is_verbatim (f ++ (58 ∷ t)) ≡ true) × (take 3 (f ++ (58 ∷ t)) ≡ f) × (drop 4 (f ++ (58 ∷ t)) ≡ t)
verbatim_is f t three =
    let c = f ++ (58 ∷ t) in
    let long : ltb 3 (length c) ≡ true = lt-ltb 3 (length c) (simp length-append (omega arith)) in
    let colon : eqb (get_or c 3 0) 58 ≡ true = eq-eqb _ _ (get_or_at f 58 t 0 3 three) in
    (and_from _ _ long colon, take_at f (58 ∷ t) 3 three, sym (drop-drop 1 3 c) ∙ ap (drop 1) (drop_at f (58 ∷ t) 3 three))

leaf_complete : (x : List ℕ) (l : Leaf) (rest : List ℕ) → Leafed l x → opening (x ++ rest) ≡ ok (a_leaf l) rest
leaf_complete _ _ rest a_null = refl
leaf_complete _ _ rest a_null_bulk = refl
leaf_complete _ _ rest a_null_array = refl
leaf_complete _ _ rest (an_integer {z = z} {c = c} line i) = rw (lined_complete (λ c. integer_of (integer c)) _ c (Int z) rest line (ap integer_of ((integers_agree z c).1 i)))
leaf_complete _ _ rest a_true = refl
leaf_complete _ _ rest a_false = refl
leaf_complete _ _ rest (a_double {c = c} line i) =
    let t : is_double c ≡ true = (doubles_agree c).1 i in
    rw (lined_complete double_leaf _ c (Double c) rest line (ap (λ t. cond t (Some (Double c)) None) t))
leaf_complete _ _ rest (a_big_number {c = c} line i) =
    let t : is_big_number c ≡ true = (big_numbers_agree c).1 i in
    rw (lined_complete big_number_leaf _ c (BigNumber c) rest line (ap (λ t. cond t (Some (BigNumber c)) None) t))
leaf_complete _ _ rest an_okay = refl
leaf_complete _ _ rest (a_simple_string {c = c} line w n) = rw (text_line_complete _ c rest line w, not_ok c n)
leaf_complete _ _ rest (a_simple_error {c = c} line w) = rw (text_line_complete _ c rest line w)
leaf_complete _ _ rest (a_bulk_string {s = s} (header {c = c} line p le)) =
    rw (append_assoc (c ++ crlf) (s ++ crlf) rest, null_complete length_most _ c (length s) ((s ++ crlf) ++ rest) line p le, body_complete s rest)
leaf_complete _ _ rest (a_bulk_error {s = s} (header {c = c} line p le) w) =
    rw (append_assoc (c ++ crlf) (s ++ crlf) rest, size_complete length_most _ c (length s) ((s ++ crlf) ++ rest) line p le, body_complete s rest, text_complete s rest w)
leaf_complete _ _ rest (a_verbatim_string {f = f} {t = t} three (header {c = c} line p le) w) =
    let d = f ++ (58 ∷ t) in
    let v = verbatim_is f t three in
    rw (append_assoc (c ++ crlf) (d ++ crlf) rest, size_complete length_most _ c (length d) ((d ++ crlf) ++ rest) line p le, body_complete d rest, v.0, text_complete d rest w, v.1, v.2)

head_complete : (x : List ℕ) (h : Head) (rest : List ℕ) → Headed h x → opening (x ++ rest) ≡ ok h rest
head_complete x (a_leaf l) rest w = leaf_complete x l rest w
head_complete _ (of_array n) rest (header {c = c} line p le) = rw (null_complete items_most _ c n rest line p le)
head_complete _ (of_set n) rest (header {c = c} line p le) = rw (size_complete items_most _ c n rest line p le)
head_complete x (of_push n) rest w = go x w.0 w.1
  where
    go : (x : List ℕ) → Header 62 items_most n x → 0 < n → opening (x ++ rest) ≡ ok (of_push n) rest
    go _ (header {c = c} line p le) some = rw (size_complete items_most _ c n rest line p le, ne_eqb n 0 (omega arith))
head_complete _ (of_map n) rest (header {c = c} line p le) = rw (size_complete pairs_most _ c n rest line p le)
head_complete _ (of_attribute n) rest (header {c = c} line p le) = rw (size_complete pairs_most _ c n rest line p le)

pub opening_agrees : Agrees opening Headed
opening_agrees = record { sound = opening_sound; complete = head_complete }

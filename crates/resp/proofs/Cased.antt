-- The first bytes of a whole reply tell its case.
use Rattle.std.proofs.Common.{◌≡◌, ℕ, Bool, true, false, cond, not, ◌&&◌, eqb, List, [], ◌∷◌, ◌++◌, length, Some, sym, refl, ap, ◌∙◌, append_assoc}
use Rattle.std.proofs.lemmas.Bool.{and_left, and_right, ne_eqb, eqb-true, false≢true}
use Rattle.resp.specs.declared.case.Case.{Case}
use Rattle.resp.specs.declared.case.Case.TheVariants as case
use Rattle.resp.specs.Limits.{items_most}
use Rattle.resp.specs.Out.{Out, ok, map_out}
use Rattle.resp.specs.Reply.{Leaf}
use Rattle.resp.specs.Grammar as grammar
use Rattle.resp.specs.Grammar.{header, Header, Clean, Line, Leafed, crlf}
use Rattle.resp.specs.Reading.{opening, Head, a_leaf, of_array, of_set, of_push, of_map, of_attribute, Form, leaf, array, set, push, map, attribute, items, pair, named, parts, form}
use Rattle.resp.specs.Node.{Node, erase, is_string_node, knit, reading, offset}
use Rattle.resp.specs.Told.{no_minus}
use Rattle.resp.specs.Cases.{case_of_leaf, case_of, begins, case_in, Cased}
use Rattle.resp.proofs.Outs.{and_then_ok, map_out_ok}
use Rattle.resp.proofs.Heads.{Headed, opening_agrees}
use Rattle.resp.proofs.Opens.{plain_no_minus, ended_ok}

-- a line that is not OK
not_ok : (c rest : List ℕ) → Clean c → (c ≡ 79 ∷ 75 ∷ [] → ⊥) → begins (79 ∷ 75 ∷ 13 ∷ 10 ∷ []) (c ++ (13 ∷ 10 ∷ rest)) ≡ false
not_ok [] rest clean n = refl
not_ok (a ∷ []) rest clean n = and_right (eqb a 79) _ refl
not_ok (a ∷ b ∷ []) rest clean n = go (eqb a 79) refl (eqb b 75) refl
  where
    go : (p : Bool) → eqb a 79 ≡ p → (q : Bool) → eqb b 75 ≡ q → (p && (q && (true && (true && true)))) ≡ false
    go true e true f = let x = eqb-true a 79 e in let y = eqb-true b 75 f in absurd (n (cc))
    go true e false f = refl
    go false e q f = refl
not_ok (a ∷ b ∷ d ∷ c) rest clean n = and_right (eqb a 79) _ (and_right (eqb b 75) _ (and_left (eqb d 13) _ (ne_eqb d 13 clean.2.2.0)))

no_minus_lem : (bs : List ℕ) → no_minus bs ≡ true → begins (45 ∷ []) bs ≡ false
no_minus_lem [] h = refl
no_minus_lem (b ∷ bs) h = go (eqb b 45) h
  where
    go : (p : Bool) → not p ≡ true → (p && true) ≡ false
    go true h = absurd (false≢true h)
    go false h = refl

header_plain : (b most n : ℕ) (h rest : List ℕ) → Header b most n h → (c : List ℕ) × (h ≡ b ∷ (c ++ crlf)) × (begins (45 ∷ []) ((c ++ crlf) ++ rest) ≡ false)
header_plain b most n _ rest (header {c = c} line p le) =
    (c, refl, no_minus_lem ((c ++ crlf) ++ rest) (ap no_minus (append_assoc c crlf rest) ∙ plain_no_minus c (crlf ++ rest) p.0))

leaf_case : (l : Leaf) (x more : List ℕ) → Leafed l x → case_in (x ++ more) ≡ Some (case_of_leaf l)
leaf_case _ _ more grammar.a_null = refl
leaf_case _ _ more grammar.a_null_bulk = refl
leaf_case _ _ more grammar.a_null_array = refl
leaf_case _ _ more (grammar.an_integer line i) = refl
leaf_case _ _ more grammar.a_true = refl
leaf_case _ _ more grammar.a_false = refl
leaf_case _ _ more (grammar.a_double line i) = refl
leaf_case _ _ more (grammar.a_big_number line i) = refl
leaf_case _ _ more grammar.an_okay = refl
leaf_case _ _ more (grammar.a_simple_string {c = c} line w n) =
    ap (λ t. Some (cond t case.Okay case.SimpleString)) (ap (begins (79 ∷ 75 ∷ 13 ∷ 10 ∷ [])) (append_assoc c crlf more) ∙ not_ok c more line.clean n)
leaf_case _ _ more (grammar.a_simple_error line w) = refl
leaf_case _ _ more (grammar.a_bulk_string {s = s} {h = h} hd) =
    let (c, is, e) = header_plain 36 _ (length s) h ((s ++ crlf) ++ more) hd in
    ap case_in (append_assoc h (s ++ crlf) more ∙ ap (λ z. z ++ ((s ++ crlf) ++ more)) is) ∙ ap (λ t. Some (cond t case.Nil case.BulkString)) e
leaf_case _ _ more (grammar.a_bulk_error (header line p le) w) = refl
leaf_case _ _ more (grammar.a_verbatim_string three (header line p le) w) = refl

abbrev case_of_head : Head → Case
case_of_head (a_leaf l) = case_of_leaf l
case_of_head (of_array n) = case.Array
case_of_head (of_set n) = case.Set
case_of_head (of_push n) = case.Push
case_of_head (of_map n) = case.Map
case_of_head (of_attribute n) = case.Attribute

head_case : (h : Head) (x more : List ℕ) → Headed h x → case_in (x ++ more) ≡ Some (case_of_head h)
head_case (a_leaf l) x more w = leaf_case l x more w
head_case (of_array n) x more w =
    let (c, is, e) = header_plain 42 _ n x more w in
    ap (λ z. case_in (z ++ more)) is ∙ ap (λ t. Some (cond t case.Nil case.Array)) e
head_case (of_set n) _ more (header line p le) = refl
head_case (of_push n) x more w = go x w.0
  where
    go : (x : List ℕ) → Header 62 items_most n x → case_in (x ++ more) ≡ Some case.Push
    go _ (header line p le) = refl
head_case (of_map n) _ more (header line p le) = refl
head_case (of_attribute n) _ more (header line p le) = refl

abbrev case_of_form : Form Node → Case
case_of_form (leaf l) = case_of_leaf l
case_of_form (array ns) = case.Array
case_of_form (set ns) = case.Set
case_of_form (push ns) = case.Push
case_of_form (map ps) = case.Map
case_of_form (attribute ps n) = case.Attribute

knit_case : (p e : ℕ) (f : Form Node) → case_of (erase (knit p e f)) ≡ case_of_form f
knit_case p e (leaf l) = refl
knit_case p e (array ns) = refl
knit_case p e (set ns) = refl
knit_case p e (push ns) = refl
knit_case p e (map ps) = refl
knit_case p e (attribute ps n) = refl

made_case : {A : Type 0} (o : Out A) (g : A → Form Node) (k : Case) (f : Form Node) (rest : List ℕ) → map_out g o ≡ ok f rest → ((a : A) → case_of_form (g a) ≡ k) → case_of_form f ≡ k
made_case o g k f rest e h = let (a, p, q) = map_out_ok o g f rest e in ap case_of_form (sym q) ∙ h a

parts_case : (f : List ℕ → Out Node) (h : Head) (bs : List ℕ) (fm : Form Node) (rest : List ℕ) → parts f is_string_node h bs ≡ ok fm rest → case_of_form fm ≡ case_of_head h
parts_case f (a_leaf l) bs fm rest e = let is : leaf l ≡ fm = cc in ap case_of_form (sym is)
parts_case f (of_array n) bs fm rest e = made_case (items f n bs) array case.Array fm rest e (λ _. refl)
parts_case f (of_set n) bs fm rest e = made_case (items f n bs) set case.Set fm rest e (λ _. refl)
parts_case f (of_push n) bs fm rest e = made_case (named f is_string_node n bs) push case.Push fm rest e (λ _. refl)
parts_case f (of_map n) bs fm rest e = made_case (items (pair f) n bs) map case.Map fm rest e (λ _. refl)
parts_case f (of_attribute n) bs fm rest e =
    let (ps, more, p, q) = and_then_ok (items (pair f) n bs) _ fm rest e in made_case (f more) (attribute ps) case.Attribute fm rest q (λ _. refl)

pub cased : (bs : List ℕ) → Cased bs (case_in bs)
cased bs t rest e =
    let at = offset (length bs) in
    let (fm, p, q) = ended_ok _ (form (reading at 31) is_string_node bs) t rest e in
    let (h, more, i, j) = and_then_ok (opening bs) (parts (reading at 31) is_string_node) fm rest p in
    let (x, split, w) = opening_agrees.sound bs h more i in
    ap case_in split ∙ head_case h x more w ∙ ap Some (sym (ap (λ n. case_of (erase n)) (sym q) ∙ knit_case (at bs) (at rest) fm ∙ parts_case (reading at 31) h more fm rest j))

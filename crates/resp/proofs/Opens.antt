-- How an item is opened, and whether it is a string.
use Rattle.std.proofs.Common.{◌≡◌, ℕ, zero, suc, ◌+◌, ◌<◌, Bool, true, false, cond, eqb, leb, List, [], ◌∷◌, ◌++◌, length, get_or, drop, sym, refl, ap, ◌∙◌, append_assoc, arith}
use Rattle.std.specs.Int.{is_in_range}
use Rattle.std.specs.Str.{all_ascii_digits}
use Rattle.std.proofs.lemmas.List.{drop_more, drop_all}
use Rattle.std.proofs.lemmas.Bool.{and_parts, false≢true, leb-true, leb-false, ne_eqb}
use Rattle.numerals.specs.Plain.{plain}
use Rattle.resp.specs.declared.fault.WireReason.TheVariants.{NotWhole, Limit}
use Rattle.resp.specs.Limits.{items_most}
use Rattle.resp.specs.Out.{Out, ok, fault, map_out}
use Rattle.resp.specs.Reply.{Leaf, is_string}
use Rattle.resp.specs.Grammar as grammar
use Rattle.resp.specs.Grammar.{header, Leafed, crlf}
use Rattle.resp.specs.Reading.{kind_of, begun, opening, Head, a_leaf, of_array, of_set, of_push, of_map, of_attribute, Form, leaf, array, set, push, map, attribute, items, pair, named, parts, form}
use Rattle.resp.specs.Node.{Node, is_string_node, knit, ended, reading}
use Rattle.resp.specs.Told.{opening_at, opening_from, starts_string, no_minus}
use Rattle.resp.proofs.Outs.{clash, and_then_ok, map_out_ok}
use Rattle.resp.proofs.Heads.{Headed, opening_agrees}

none_at : (d : ℕ) → opening_at d [] ≡ fault NotWhole []
none_at zero = refl
none_at (suc d) = refl

-- an item opened by its place
pub opening_from_lem : (d : ℕ) (bs : List ℕ) (at : ℕ) → opening_from d bs at ≡ opening_at d (drop at bs)
opening_from_lem d bs at = by (leb (length bs) at) refl
  where
    there : at < length bs → (d : ℕ) → cond (eqb d 0) (fault Limit (drop at bs)) (begun (kind_of (get_or bs at 0)) (drop at bs) (drop (at + 1) bs)) ≡ opening_at d (drop at bs)
    there lt zero = let m = drop_more bs at 0 lt in ap (fault Limit) m ∙ sym (ap (opening_at 0) m)
    there lt (suc d) =
        let m = drop_more bs at 0 lt in
        let s : eqb (suc d) 0 ≡ false = ne_eqb (suc d) 0 (λ e. omega arith) in
        rw s (ap (λ l. begun (kind_of (get_or bs at 0)) l (drop (at + 1) bs)) m ∙ sym (ap opening m))

    by : (t : Bool) → leb (length bs) at ≡ t
        → cond t (fault NotWhole (drop (length bs) bs)) (cond (eqb d 0) (fault Limit (drop at bs)) (begun (kind_of (get_or bs at 0)) (drop at bs) (drop (at + 1) bs))) ≡ opening_at d (drop at bs)
    by true e = ap (fault NotWhole) (drop_all (length bs) bs (omega arith)) ∙ sym (ap (opening_at d) (drop_all at bs (leb-true _ _ e)) ∙ none_at d)
    by false e = there (leb-false _ _ e) d

-- strings by their first bytes
abbrev is_string_head : Head → Bool
is_string_head (a_leaf l) = is_string l
is_string_head (of_array n) = false
is_string_head (of_set n) = false
is_string_head (of_push n) = false
is_string_head (of_map n) = false
is_string_head (of_attribute n) = false

pub plain_no_minus : (c rest : List ℕ) → plain c ≡ true → no_minus (c ++ rest) ≡ true
plain_no_minus [] rest t = absurd (false≢true t)
plain_no_minus (b ∷ []) rest t =
    let p = and_parts (leb 48 b) (leb b 57) t in
    let n : b ≡ 45 → ⊥ = λ e. omega (arith, leb-true 48 b p.0) in
    rw (ne_eqb b 45 n)
plain_no_minus (b ∷ d ∷ c) rest t =
    let p = and_parts (leb 49 b) (leb b 57) (and_parts (is_in_range 49 57 b) (all_ascii_digits (d ∷ c)) t).0 in
    let n : b ≡ 45 → ⊥ = λ e. omega (arith, leb-true 49 b p.0) in
    rw (ne_eqb b 45 n)

leaf_string : (l : Leaf) (x more : List ℕ) → Leafed l x → is_string l ≡ starts_string (x ++ more)
leaf_string _ _ more grammar.a_null = refl
leaf_string _ _ more grammar.a_null_bulk = refl
leaf_string _ _ more grammar.a_null_array = refl
leaf_string _ _ more (grammar.an_integer line i) = refl
leaf_string _ _ more grammar.a_true = refl
leaf_string _ _ more grammar.a_false = refl
leaf_string _ _ more (grammar.a_double line i) = refl
leaf_string _ _ more (grammar.a_big_number line i) = refl
leaf_string _ _ more grammar.an_okay = refl
leaf_string _ _ more (grammar.a_simple_string line w n) = refl
leaf_string _ _ more (grammar.a_simple_error line w) = refl
leaf_string _ _ more (grammar.a_bulk_string {s = s} (header {c = c} line p le)) =
    sym (ap no_minus (append_assoc (c ++ crlf) (s ++ crlf) more ∙ append_assoc c crlf ((s ++ crlf) ++ more)) ∙ plain_no_minus c (crlf ++ ((s ++ crlf) ++ more)) p.0)
leaf_string _ _ more (grammar.a_bulk_error (header line p le) w) = refl
leaf_string _ _ more (grammar.a_verbatim_string three (header line p le) w) = refl

head_string : (h : Head) (x more : List ℕ) → Headed h x → is_string_head h ≡ starts_string (x ++ more)
head_string (a_leaf l) x more w = leaf_string l x more w
head_string (of_array n) _ more (header line p le) = refl
head_string (of_set n) _ more (header line p le) = refl
head_string (of_push n) x more w = go x w.0
  where
    go : (x : List ℕ) → grammar.Header 62 items_most n x → false ≡ starts_string (x ++ more)
    go _ (header line p le) = refl
head_string (of_map n) _ more (header line p le) = refl
head_string (of_attribute n) _ more (header line p le) = refl

abbrev is_string_form : Form Node → Bool
is_string_form (leaf l) = is_string l
is_string_form (array ns) = false
is_string_form (set ns) = false
is_string_form (push ns) = false
is_string_form (map ps) = false
is_string_form (attribute ps n) = false

knit_string : (p e : ℕ) (f : Form Node) → is_string_node (knit p e f) ≡ is_string_form f
knit_string p e (leaf l) = refl
knit_string p e (array ns) = refl
knit_string p e (set ns) = refl
knit_string p e (push ns) = refl
knit_string p e (map ps) = refl
knit_string p e (attribute ps n) = refl

made_string : {A : Type 0} (o : Out A) (g : A → Form Node) (f : Form Node) (rest : List ℕ) → map_out g o ≡ ok f rest → ((a : A) → is_string_form (g a) ≡ false) → is_string_form f ≡ false
made_string o g f rest e h = let (a, p, q) = map_out_ok o g f rest e in ap is_string_form (sym q) ∙ h a

parts_string : (f : List ℕ → Out Node) (h : Head) (bs : List ℕ) (fm : Form Node) (rest : List ℕ) → parts f is_string_node h bs ≡ ok fm rest → is_string_form fm ≡ is_string_head h
parts_string f (a_leaf l) bs fm rest e = let is : leaf l ≡ fm = cc in ap is_string_form (sym is)
parts_string f (of_array n) bs fm rest e = made_string (items f n bs) array fm rest e (λ _. refl)
parts_string f (of_set n) bs fm rest e = made_string (items f n bs) set fm rest e (λ _. refl)
parts_string f (of_push n) bs fm rest e = made_string (named f is_string_node n bs) push fm rest e (λ _. refl)
parts_string f (of_map n) bs fm rest e = made_string (items (pair f) n bs) map fm rest e (λ _. refl)
parts_string f (of_attribute n) bs fm rest e =
    let (ps, more, p, q) = and_then_ok (items (pair f) n bs) _ fm rest e in made_string (f more) (attribute ps) fm rest q (λ _. refl)

pub ended_ok : {A B : Type 0} (g : A → List ℕ → B) (o : Out A) (b : B) (rest : List ℕ) → ended g o ≡ ok b rest → (a : A) × (o ≡ ok a rest) × (g a rest ≡ b)
ended_ok g (ok a more) b rest e = let is : more ≡ rest = cc in (a, ap (ok a) is, ap (g a) (sym is) ∙ cc)
ended_ok g (fault k at) b rest e = absurd (clash e)

pub read_string : (at : List ℕ → ℕ) (d : ℕ) (l : List ℕ) (n : Node) (rest : List ℕ) → reading at d l ≡ ok n rest → is_string_node n ≡ starts_string l
read_string at zero [] n rest e = absurd (clash e)
read_string at zero (b ∷ l) n rest e = absurd (clash e)
read_string at (suc d) l n rest e =
    let (fm, p, q) = ended_ok _ (form (reading at d) is_string_node l) n rest e in
    let (h, more, i, j) = and_then_ok (opening l) (parts (reading at d) is_string_node) fm rest p in
    let (x, split, w) = opening_agrees.sound l h more i in
    ap is_string_node (sym q) ∙ knit_string (at l) (at rest) fm ∙ parts_string (reading at d) h more fm rest j ∙ head_string h x more w ∙ ap starts_string (sym split)

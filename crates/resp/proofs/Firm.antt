-- What is read of some bytes is read of more.
use Rattle.std.proofs.Common.{◌≡◌, ℕ, zero, suc, ◌+◌, ◌-◌, ◌≤◌, Bool, true, false, cond, ◌&&◌, eqb, ltb, leb, List, [], ◌∷◌, ◌++◌, length, get_or, take, drop, Some, None, Option, sym, refl, ap, append_assoc, arith}
use Rattle.std.proofs.lemmas.List.{length-append, get_or_append_left, take-append-le, drop-append-le}
use Rattle.std.proofs.lemmas.Bool.{le-ltb, ltb-false}
use Rattle.utf8.specs.Scan.{ill_formed}
use Rattle.numerals.specs.Plain.{plain, value}
use Rattle.resp.specs.declared.fault.WireReason.{WireReason}
use Rattle.resp.specs.declared.fault.WireReason.TheVariants.{NotWhole, UnknownKind, BrokenLine, LongLine, Content, Limit, NotClosed, NotUtf8}
use Rattle.resp.specs.declared.kind.Kind.{Kind}
use Rattle.resp.specs.declared.kind.Kind.TheVariants as kind
use Rattle.resp.specs.Limits.{line_most}
use Rattle.resp.specs.Out.{Out, ok, fault, and_then, map_out}
use Rattle.resp.specs.Reading.{kind_of, closing, line, or_content, lined, or_ill, text, text_line, judged, size, is_minus_one, size_or_null, body, is_verbatim, verbatim, bulk, Head, a_leaf, of_array, of_set, of_push, of_map, of_attribute, head, begun, opening, array, set, push, map, attribute, items, pair, named, parts, form}
use Rattle.resp.specs.Reply.{is_string_reply}
use Rattle.resp.proofs.Plainly.{plainly, weave}

-- of a fault for want of bytes its place, at their end; of any other the fact P
abbrev pub Kept : WireReason → List ℕ → Type 0 → Type 0
Kept NotWhole at P = at ≡ []
Kept UnknownKind at P = P
Kept BrokenLine at P = P
Kept LongLine at P = P
Kept Content at P = P
Kept Limit at P = P
Kept NotClosed at P = P
Kept NotUtf8 at P = P

kept_map : (k : WireReason) (at : List ℕ) {P Q : Type 0} → (P → Q) → Kept k at P → Kept k at Q
kept_map NotWhole at f h = h
kept_map UnknownKind at f h = f h
kept_map BrokenLine at f h = f h
kept_map LongLine at f h = f h
kept_map Content at f h = f h
kept_map Limit at f h = f h
kept_map NotClosed at f h = f h
kept_map NotUtf8 at f h = f h

-- o is what a reader says of the bytes with more after them
abbrev pub Extends : {A : Type 0} → Out A → Out A → List ℕ → Type 0
Extends (ok a rest) o more = o ≡ ok a (rest ++ more)
Extends (fault k at) o more = Kept k at (o ≡ fault k (at ++ more))

abbrev Firm : {A : Type 0} → (List ℕ → Out A) → Type 0
Firm f = (bs more : List ℕ) → Extends (f bs) (f (bs ++ more)) more

-- a reader that also has the item from its first byte on
abbrev FirmAt : {A : Type 0} → (List ℕ → List ℕ → Out A) → Type 0
FirmAt f = (s bs more : List ℕ) → Extends (f s bs) (f (s ++ more) (bs ++ more)) more

firm_map : {A B : Type 0} (g : A → B) (o o' : Out A) (more : List ℕ) → Extends o o' more → Extends (map_out g o) (map_out g o') more
firm_map g (ok a rest) o' more h = rw h
firm_map g (fault k at) o' more h = kept_map k at (λ e. ap (map_out g) e) h

firm_then : {A B : Type 0} (o o' : Out A) (k k' : A → List ℕ → Out B) (more : List ℕ) → Extends o o' more
    → ((a : A) (l : List ℕ) → Extends (k a l) (k' a (l ++ more)) more) → Extends (and_then o k) (and_then o' k') more
firm_then (ok a rest) o' k k' more h e = rw h (e a rest)
firm_then (fault n at) o' k k' more h e = kept_map n at (λ i. ap (λ o. and_then o k') i) h

firm_cond : {A : Type 0} (b : Bool) (x y x' y' : Out A) (more : List ℕ) → Extends x x' more → Extends y y' more → Extends (cond b x y) (cond b x' y') more
firm_cond true x y x' y' more h k = h
firm_cond false x y x' y' more h k = k

firm_closing : FirmAt closing
firm_closing s [] more = refl
firm_closing s (b ∷ bs) more = firm_cond (eqb b 10) _ _ _ _ more refl refl

firm_line : (room : ℕ) → FirmAt (λ s. line s room)
firm_line zero s [] more = refl
firm_line (suc n) s [] more = refl
firm_line zero s (b ∷ bs) more = firm_cond (eqb b 13) _ _ _ _ more (firm_closing s bs more) (firm_cond (eqb b 10) _ _ _ _ more refl refl)
firm_line (suc n) s (b ∷ bs) more =
    firm_cond (eqb b 13) _ _ _ _ more (firm_closing s bs more)
    (firm_cond (eqb b 10) _ _ _ _ more refl (firm_map (λ c. b ∷ c) (line s n bs) _ more (firm_line n s bs more)))

firm_after_line : {A : Type 0} (k : List ℕ → List ℕ → List ℕ → Out A) → ((s c l more : List ℕ) → Extends (k s c l) (k (s ++ more) c (l ++ more)) more)
    → FirmAt (λ s bs. and_then (line s line_most bs) (k s))
firm_after_line k h s bs more = firm_then (line s line_most bs) _ _ _ more (firm_line line_most s bs more) (λ c l. h s c l more)

firm_content : {A : Type 0} (o : Option A) (s l more : List ℕ) → Extends (or_content s o l) (or_content (s ++ more) o (l ++ more)) more
firm_content (Some a) s l more = refl
firm_content None s l more = refl

firm_text : (c l more : List ℕ) → Extends (text c l) (text c (l ++ more)) more
firm_text c l more = go (ill_formed c)
  where
    go : (o : Option (List ℕ)) → Extends (or_ill o c l) (or_ill o c (l ++ more)) more
    go None = refl
    go (Some t) = ap (fault NotUtf8) (sym (append_assoc t (13 ∷ 10 ∷ l) more))

firm_judged : (most : ℕ) (s c l more : List ℕ) → Extends (judged most s c l) (judged most (s ++ more) c (l ++ more)) more
firm_judged most s c l more = firm_cond (plain c) _ _ _ _ more (firm_cond (leb (value c) most) _ _ _ _ more refl refl) refl

firm_lined : {A : Type 0} (judge : List ℕ → Option A) → FirmAt (lined judge)
firm_lined judge = firm_after_line (λ s c l. or_content s (judge c) l) (λ s c l more. firm_content (judge c) s l more)

firm_text_line : FirmAt text_line
firm_text_line = firm_after_line (λ s. text) (λ s c l more. firm_text c l more)

firm_size : (most : ℕ) → FirmAt (size most)
firm_size most = firm_after_line (judged most) (firm_judged most)

firm_null : (most : ℕ) → FirmAt (size_or_null most)
firm_null most =
    firm_after_line (λ s c l. cond (is_minus_one c) (ok None l) (map_out Some (judged most s c l)))
    (λ s c l more. firm_cond (is_minus_one c) _ _ _ _ more refl (firm_map Some (judged most s c l) _ more (firm_judged most s c l more)))

firm_body : (n : ℕ) → Firm (body n)
firm_body n bs more = go (ltb (length bs) (n + 2)) refl
  where
    inner : List ℕ → Out (List ℕ)
    inner l = cond (eqb (get_or l n 0) 13 && eqb (get_or l (n + 1) 0) 10) (ok (take n l) (drop (n + 2) l)) (fault NotClosed (drop n l))

    go : (b : Bool) → ltb (length bs) (n + 2) ≡ b → Extends (cond b (fault NotWhole []) (inner bs)) (body n (bs ++ more)) more
    go true e = refl
    go false e =
        let long : n + 2 ≤ length bs = ltb-false _ _ e in
        let t : ltb (length (bs ++ more)) (n + 2) ≡ false = le-ltb _ _ (rw length-append (omega arith)) in
        rw (
          t,
          get_or_append_left bs more 0 n (omega arith),
          get_or_append_left bs more 0 (n + 1) (omega arith),
          take-append-le n bs more (omega arith),
          drop-append-le (n + 2) bs more long,
          drop-append-le n bs more (omega arith),
        )
        (firm_cond (eqb (get_or bs n 0) 13 && eqb (get_or bs (n + 1) 0) 10) _ _ _ _ more refl refl)

firm_bulk : (o : Option ℕ) → Firm (bulk o)
firm_bulk None bs more = refl
firm_bulk (Some n) bs more = firm_map _ (body n bs) _ more (firm_body n bs more)

firm_after_body : (most : ℕ) (k : List ℕ → List ℕ → List ℕ → Out (List ℕ)) → ((s c l more : List ℕ) → Extends (k s c l) (k (s ++ more) c (l ++ more)) more)
    → FirmAt (λ s bs. and_then (size most s bs) (λ n l. and_then (body n l) (k s)))
firm_after_body most k h s bs more =
    firm_then (size most s bs) _ _ _ more (firm_size most s bs more) (λ n l. firm_then (body n l) _ _ _ more (firm_body n l more) (λ c r. h s c r more))

firm_verbatim : (s c l more : List ℕ) → Extends (verbatim s c l) (verbatim (s ++ more) c (l ++ more)) more
firm_verbatim s c l more = firm_cond (is_verbatim c) _ _ _ _ more (firm_text c l more) refl

firm_head : (k : Kind) → FirmAt (head k)
firm_head kind.SimpleString s bs more = firm_map _ (text_line s bs) _ more (firm_text_line s bs more)
firm_head kind.SimpleError s bs more = firm_map _ (text_line s bs) _ more (firm_text_line s bs more)
firm_head kind.Integer s bs more = firm_map _ (lined _ s bs) _ more (firm_lined _ s bs more)
firm_head kind.Null s bs more = firm_map _ (lined _ s bs) _ more (firm_lined _ s bs more)
firm_head kind.Boolean s bs more = firm_map _ (lined _ s bs) _ more (firm_lined _ s bs more)
firm_head kind.Double s bs more = firm_map _ (lined _ s bs) _ more (firm_lined _ s bs more)
firm_head kind.BigNumber s bs more = firm_map _ (lined _ s bs) _ more (firm_lined _ s bs more)
firm_head kind.BulkString s bs more =
    firm_map _ (and_then (size_or_null _ s bs) bulk) _ more (firm_then (size_or_null _ s bs) _ _ _ more (firm_null _ s bs more) (λ o l. firm_bulk o l more))
firm_head kind.BulkError s bs more =
    firm_map _ (and_then (size _ s bs) (λ n l. and_then (body n l) text)) _ more (firm_after_body _ (λ s. text) (λ s c l more. firm_text c l more) s bs more)
firm_head kind.VerbatimString s bs more =
    firm_map _ (and_then (size _ s bs) (λ n l. and_then (body n l) (verbatim s))) _ more (firm_after_body _ verbatim firm_verbatim s bs more)
firm_head kind.Array s bs more = firm_map _ (size_or_null _ s bs) _ more (firm_null _ s bs more)
firm_head kind.Set s bs more = firm_map _ (size _ s bs) _ more (firm_size _ s bs more)
firm_head kind.Push s bs more = firm_then (size _ s bs) _ _ _ more (firm_size _ s bs more) (λ n l. firm_cond (eqb n 0) _ _ _ _ more refl refl)
firm_head kind.Map s bs more = firm_map _ (size _ s bs) _ more (firm_size _ s bs more)
firm_head kind.Attribute s bs more = firm_map _ (size _ s bs) _ more (firm_size _ s bs more)

firm_opening : Firm opening
firm_opening [] more = refl
firm_opening (b ∷ bs) more = go (kind_of b)
  where
    go : (o : Option Kind) → Extends (begun o (b ∷ bs) bs) (begun o (b ∷ (bs ++ more)) (bs ++ more)) more
    go None = refl
    go (Some k) = firm_head k (b ∷ bs) bs more

firm_items : {A : Type 0} (f : List ℕ → Out A) → Firm f → (n : ℕ) → Firm (items f n)
firm_items f h zero bs more = refl
firm_items f h (suc n) bs more = firm_then (f bs) _ _ _ more (h bs more) λ a l. firm_map (λ l. a ∷ l) (items f n l) _ more (firm_items f h n l more)

firm_pair : {A : Type 0} (f : List ℕ → Out A) → Firm f → Firm (pair f)
firm_pair f h bs more = firm_then (f bs) _ _ _ more (h bs more) λ a l. firm_map (λ b. (a, b)) (f l) _ more (h l more)

firm_named : {A : Type 0} (f : List ℕ → Out A) (string : A → Bool) → Firm f → (n : ℕ) → Firm (named f string n)
firm_named f string h n bs more =
    firm_then (f bs) _ _ _ more (h bs more) λ a l.
    firm_cond (string a) _ _ _ _ more (firm_map (λ l. a ∷ l) (items f (n - 1) l) _ more (firm_items f h (n - 1) l more)) refl

firm_parts : {R : Type 0} (f : List ℕ → Out R) (string : R → Bool) → Firm f → (h : Head) → Firm (parts f string h)
firm_parts f string h (a_leaf l) bs more = refl
firm_parts f string h (of_array n) bs more = firm_map array (items f n bs) _ more (firm_items f h n bs more)
firm_parts f string h (of_set n) bs more = firm_map set (items f n bs) _ more (firm_items f h n bs more)
firm_parts f string h (of_push n) bs more = firm_map push (named f string n bs) _ more (firm_named f string h n bs more)
firm_parts f string h (of_map n) bs more = firm_map map (items (pair f) n bs) _ more (firm_items (pair f) (firm_pair f h) n bs more)
firm_parts f string h (of_attribute n) bs more =
    firm_then (items (pair f) n bs) _ _ _ more (firm_items (pair f) (firm_pair f h) n bs more) λ ps l. firm_map (attribute ps) (f l) _ more (h l more)

pub firm_plainly : (d : ℕ) → Firm (plainly d)
firm_plainly zero [] more = refl
firm_plainly zero (b ∷ bs) more = refl
firm_plainly (suc d) bs more =
    firm_map weave (form (plainly d) is_string_reply bs) _ more
    (firm_then (opening bs) _ _ _ more (firm_opening bs more) (λ h l. firm_parts (plainly d) is_string_reply (firm_plainly d) h l more))

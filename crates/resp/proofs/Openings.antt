-- Heads: lines, sizes and bodies, and what each kind makes of them.
use Rattle.std.proofs.Common.{◌≡◌, ℕ, ◌+◌, ◌≤◌, true, false, ◌&&◌, eqb, ltb, leb, List, [], ◌∷◌, ◌++◌, length, get_or, take, drop, Some, None, Option, sym, refl, ap, ◌∙◌, subst, append_assoc, arith}
use Rattle.std.proofs.lemmas.List.{take-append-drop, drop_more, length-take-le, length-append, get_or_at, get_or-append-add, take_at, drop_at, drop-drop}
use Rattle.std.proofs.lemmas.Bool.{and_parts, false≢true, ltb-false, le-ltb, leb-true, le-leb, eqb-true, ne_eqb}
use Rattle.std.specs.Int.{is_in_range}
use Rattle.std.specs.Str.{all_ascii_digits}
use Rattle.utf8.specs.Table.{WellFormed}
use Rattle.utf8.specs.Scan.{ill_formed}
use Rattle.numerals.specs.Plain.{Plain, plain, value}
use Rattle.resp.specs.Limits.{line_most}
use Rattle.resp.specs.Out.{ok}
use Rattle.resp.specs.Grammar.{Line, Header, header, crlf}
use Rattle.resp.specs.Reading.{line, lined, or_ill, text, text_line, judged, size, is_minus_one, size_or_null, body}
use Rattle.resp.proofs.Outs.{clash, and_then_ok, map_out_ok, or_content_ok, by_test}
use Rattle.resp.proofs.Lines.{line_sound, line_complete}
use Rattle.utf8.proofs.Verdict.{accepts}

pub lined_sound : {A : Type 0} (judge : List ℕ → Option A) (s bs : List ℕ) (a : A) (rest : List ℕ) → lined judge s bs ≡ ok a rest
    → (c : List ℕ) × (bs ≡ (c ++ crlf) ++ rest) × Line c × (judge c ≡ Some a)
lined_sound judge s bs a rest e =
    let (c, more, p, q) = and_then_ok (line s line_most bs) _ a rest e in
    let (h, l) = line_sound s bs c more p in
    let (i, j) = or_content_ok s (judge c) more a rest q in
    (c, h ∙ ap (λ m. (c ++ crlf) ++ m) j, l, i)

pub lined_complete : {A : Type 0} (judge : List ℕ → Option A) (s c : List ℕ) (a : A) (rest : List ℕ) → Line c → judge c ≡ Some a
    → lined judge s ((c ++ crlf) ++ rest) ≡ ok a rest
lined_complete judge s c a rest l i = rw (line_complete s c rest l, i)

pub text_sound : (c d more rest : List ℕ) → text c more ≡ ok d rest → (c ≡ d) × (more ≡ rest) × WellFormed c
text_sound c d more rest e = go (ill_formed c) refl e
  where
    go : (o : Option (List ℕ)) → ill_formed c ≡ o → or_ill o c more ≡ ok d rest → (c ≡ d) × (more ≡ rest) × WellFormed c
    go None i h = (cc, cc, (accepts c).0 i)
    go (Some t) i h = absurd (clash h)

pub text_complete : (c rest : List ℕ) → WellFormed c → text c rest ≡ ok c rest
text_complete c rest w = rw ((accepts c).1 w)

pub text_line_sound : (s bs c rest : List ℕ) → text_line s bs ≡ ok c rest → (bs ≡ (c ++ crlf) ++ rest) × Line c × WellFormed c
text_line_sound s bs c rest e =
    let (d, more, p, q) = and_then_ok (line s line_most bs) _ c rest e in
    let (h, l) = line_sound s bs d more p in
    let (i, j, w) = text_sound d c more rest q in
    (subst (λ z. bs ≡ (z ++ crlf) ++ rest) i (h ∙ ap (λ m. (d ++ crlf) ++ m) j), subst Line i l, subst WellFormed i w)

pub text_line_complete : (s c rest : List ℕ) → Line c → WellFormed c → text_line s ((c ++ crlf) ++ rest) ≡ ok c rest
text_line_complete s c rest l w = rw (line_complete s c rest l) (text_complete c rest w)

-- lengths and counts
abbrev pub Sized : ℕ → ℕ → List ℕ → ℕ → List ℕ → Type 0
Sized b most bs n rest = (x : List ℕ) × (b ∷ bs ≡ x ++ rest) × Header b most n x

judged_sound : (most : ℕ) (s c more : List ℕ) (n : ℕ) (rest : List ℕ) → judged most s c more ≡ ok n rest → (more ≡ rest) × Plain n c × (n ≤ most)
judged_sound most s c more n rest e =
    by_test (plain c) _ _ _ e
    (λ t h.
    by_test (leb (value c) most) _ _ _ h
    (λ u i. let v : value c ≡ n = cc in (cc, (t, v), omega (arith, leb-true _ _ u)))
    (λ u i. absurd (clash i)))
    (λ t h. absurd (clash h))

judged_complete : (most : ℕ) (s c : List ℕ) (n : ℕ) (rest : List ℕ) → Plain n c → n ≤ most → judged most s c rest ≡ ok n rest
judged_complete most s c n rest p le = rw (p.0, p.1, le-leb n most le)

sized_from : (b most : ℕ) (bs c more rest : List ℕ) (n : ℕ) → bs ≡ (c ++ crlf) ++ more → Line c → (more ≡ rest) × Plain n c × (n ≤ most) → Sized b most bs n rest
sized_from b most bs c more rest n h l j = (b ∷ (c ++ crlf), ap (λ z. b ∷ z) (h ∙ ap (λ m. (c ++ crlf) ++ m) j.0), header l j.1 j.2)

pub size_sound : (b most : ℕ) (s bs : List ℕ) (n : ℕ) (rest : List ℕ) → size most s bs ≡ ok n rest → Sized b most bs n rest
size_sound b most s bs n rest e =
    let (c, more, p, q) = and_then_ok (line s line_most bs) _ n rest e in
    let (h, l) = line_sound s bs c more p in
    sized_from b most bs c more rest n h l (judged_sound most s c more n rest q)

pub size_complete : (most : ℕ) (s c : List ℕ) (n : ℕ) (rest : List ℕ) → Line c → Plain n c → n ≤ most → size most s ((c ++ crlf) ++ rest) ≡ ok n rest
size_complete most s c n rest l p le = rw (line_complete s c rest l) (judged_complete most s c n rest p le)

minus_is : (c : List ℕ) → is_minus_one c ≡ true → c ≡ 45 ∷ 49 ∷ []
minus_is [] h = absurd (false≢true h)
minus_is (a ∷ []) h = absurd (false≢true h)
minus_is (a ∷ b ∷ []) h =
    let p = and_parts (eqb a 45) (eqb b 49) h in
    let x = eqb-true a 45 p.0 in
    let y = eqb-true b 49 p.1 in
    cc
minus_is (a ∷ b ∷ d ∷ c) h = absurd (false≢true h)

pub plain_not_minus : (c : List ℕ) → plain c ≡ true → is_minus_one c ≡ false
plain_not_minus [] t = refl
plain_not_minus (a ∷ []) t = refl
plain_not_minus (a ∷ b ∷ []) t =
    let p = and_parts (leb 49 a) (leb a 57) (and_parts (is_in_range 49 57 a) (all_ascii_digits (b ∷ [])) t).0 in
    let q : (a ≡ 45 → ⊥) = λ e. omega (arith, leb-true 49 a p.0) in
    rw (ne_eqb a 45 q)
plain_not_minus (a ∷ b ∷ d ∷ c) t = refl

abbrev pub NullOr : ℕ → ℕ → List ℕ → Option ℕ → List ℕ → Type 0
NullOr b most bs None rest = bs ≡ 45 ∷ 49 ∷ 13 ∷ 10 ∷ rest
NullOr b most bs (Some n) rest = Sized b most bs n rest

pub null_sound : (b most : ℕ) (s bs : List ℕ) (o : Option ℕ) (rest : List ℕ) → size_or_null most s bs ≡ ok o rest → NullOr b most bs o rest
null_sound b most s bs o rest e =
    let (c, more, p, q) = and_then_ok (line s line_most bs) _ o rest e in
    let (h, l) = line_sound s bs c more p in
    by_test (is_minus_one c) _ _ _ q
    (λ t i.
    let z : None ≡ o = cc in
    let m : more ≡ rest = cc in
    subst (λ v. NullOr b most bs v rest) z (h ∙ ap (λ w. (w ++ crlf) ++ more) (minus_is c t) ∙ ap (λ w. 45 ∷ 49 ∷ 13 ∷ 10 ∷ w) m))
    (λ t i.
    let (n, j, k) = map_out_ok (judged most s c more) Some o rest i in
    subst (λ v. NullOr b most bs v rest) k (sized_from b most bs c more rest n h l (judged_sound most s c more n rest j)))

pub null_complete : (most : ℕ) (s c : List ℕ) (n : ℕ) (rest : List ℕ) → Line c → Plain n c → n ≤ most → size_or_null most s ((c ++ crlf) ++ rest) ≡ ok (Some n) rest
null_complete most s c n rest l p le = rw (line_complete s c rest l, plain_not_minus c p.0, judged_complete most s c n rest p le)

-- bodies
pub body_sound : (n : ℕ) (bs s rest : List ℕ) → body n bs ≡ ok s rest → (bs ≡ (s ++ crlf) ++ rest) × (length s ≡ n)
body_sound n bs s rest e =
    by_test (ltb (length bs) (n + 2)) _ _ _ e
    (λ t h. absurd (clash h))
    (λ t h.
    let long : n + 2 ≤ length bs = ltb-false _ _ t in
    by_test (eqb (get_or bs n 0) 13 && eqb (get_or bs (n + 1) 0) 10) _ _ _ h
    (λ u i.
    let p = and_parts (eqb (get_or bs n 0) 13) _ u in
    let a : get_or bs n 0 ≡ 13 = eqb-true _ _ p.0 in
    let b : get_or bs (n + 1) 0 ≡ 10 = eqb-true _ _ p.1 in
    let front : take n bs ≡ s = cc in
    let back : drop (n + 2) bs ≡ rest = cc in
    let two : n + 1 + 1 ≡ n + 2 = omega arith in
    let whole = take-append-drop n bs in
    let one = drop_more bs n 0 (omega arith) in
    let next = drop_more bs (n + 1) 0 (omega arith) in
    let split : bs ≡ s ++ (13 ∷ 10 ∷ rest) = cc (whole, one, next, two, a, b) in
    (split ∙ sym (append_assoc s crlf rest), ap length (sym front) ∙ length-take-le n bs (omega arith)))
    (λ u i. absurd (clash i)))

pub body_complete : (s rest : List ℕ) → body (length s) ((s ++ crlf) ++ rest) ≡ ok s rest
body_complete s rest =
    let l = s ++ (13 ∷ 10 ∷ rest) in
    let long : ltb (length l) (length s + 2) ≡ false = le-ltb _ _ (simp length-append (omega arith)) in
    let a : get_or l (length s) 0 ≡ 13 = get_or_at s 13 (10 ∷ rest) 0 (length s) refl in
    let b : get_or l (length s + 1) 0 ≡ 10 = get_or-append-add s (13 ∷ 10 ∷ rest) 1 0 in
    let front : take (length s) l ≡ s = take_at s (13 ∷ 10 ∷ rest) (length s) refl in
    let back : drop (length s + 2) l ≡ rest = sym (drop-drop 2 (length s) l) ∙ ap (drop 2) (drop_at s (13 ∷ 10 ∷ rest) (length s) refl) in
    rw (append_assoc s crlf rest, long, a, b, front, back)

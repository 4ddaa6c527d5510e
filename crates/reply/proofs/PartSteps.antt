-- The text of a leaf.
use Rattle.std.proofs.Common.{◌≡◌, ℕ, suc, ◌+◌, ◌-◌, ◌^◌, ◌<◌, ◌≤◌, min, Bool, true, false, not, cond, eqb, ltb, List, [], ◌∷◌, ◌++◌, length, Some, None, Option, sym, refl, ap, ◌∙◌, append_assoc, arith}
use Rattle.std.proofs.lemmas.List.{length-append}
use Rattle.std.specs.List.{position, position_or_len}
use Rattle.std.specs.Option.{option_map_or}
use Rattle.std.proofs.lemmas.Bool.{ltb-true, ltb-false, ne_eqb}
use Rattle.resp.specs.Grammar as grammar
use Rattle.resp.specs.Grammar.{Clean, Line, Header, header, Leafed, crlf}
use Rattle.resp.specs.Reply.{Leaf, Nil}
use Rattle.reply.specs.declared.part.Part.{Part}
use Rattle.reply.specs.Parted.{after_lf, text_start, part_in}

pub lf_within : (bs : List ℕ) → after_lf bs ≤ length bs
lf_within [] = omega arith
lf_within (b ∷ bs) = go (eqb b 10) (lf_within bs)
  where
    go : (t : Bool) → after_lf bs ≤ length bs → cond t 1 (suc (after_lf bs)) ≤ suc (length bs)
    go true h = omega arith
    go false h = omega arith

-- a line's LF is its first
lf_line : (c rest : List ℕ) → Clean c → after_lf (c ++ (13 ∷ 10 ∷ rest)) ≡ length c + 2
lf_line [] rest h = refl
lf_line (b ∷ c) rest h = ap (λ t. cond t 1 (suc (after_lf (c ++ (13 ∷ 10 ∷ rest))))) (ne_eqb b 10 h.1) ∙ ap suc (lf_line c rest h.2) ∙ omega arith

-- the first line of a header
pub lf_header : (b : ℕ) (c more : List ℕ) → (b ≡ 10 → ⊥) → Clean c → after_lf (b ∷ ((c ++ crlf) ++ more)) ≡ suc (length c + 2)
lf_header b c more not clean =
    ap (λ t. cond t 1 (suc (after_lf ((c ++ crlf) ++ more)))) (ne_eqb b 10 not) ∙ ap (λ l. suc (after_lf l)) (append_assoc c crlf more) ∙ ap suc (lf_line c more clean)

abbrev Texts : ℕ → ℕ → Leaf → ℕ → Type 0
Texts p e l start = ◌≡◌ {A = Part} (record { start = p + start; len = e - 2 - (p + start) }) (part_in p e l)

same_part : {a b c d : ℕ} → a ≡ b → c ≡ d → ◌≡◌ {A = Part} (record { start = a; len = c }) (record { start = b; len = d })
same_part e f = cc

-- a line of text
line_text : (p e : ℕ) (c : List ℕ) → e ≡ p + length (0 ∷ (c ++ crlf)) → ◌≡◌ {A = Part} (record { start = p + 1; len = e - 2 - (p + 1) }) (record { start = e - 2 - length c; len = length c })
line_text p e c is = let l = length-append c crlf in same_part (omega arith) (omega arith)

-- a body
body_text : (p e n : ℕ) (h s : List ℕ) → e ≡ p + length (h ++ (s ++ crlf)) → n ≡ length h
    → ◌≡◌ {A = Part} (record { start = p + n; len = e - 2 - (p + n) }) (record { start = e - 2 - length s; len = length s })
body_text p e n h s is m = let a = length-append h (s ++ crlf) in let b = length-append s crlf in same_part (omega arith) (omega arith)

pub leaf_text_lem : (p e : ℕ) (l : Leaf) (x rest : List ℕ) → Leafed l x → e ≡ p + length x → e < 2 ^ 64 → (l ≡ Nil → ⊥) → Texts p e l (text_start (x ++ rest))
leaf_text_lem p e _ _ rest grammar.a_null is lt n = absurd (n refl)
leaf_text_lem p e _ _ rest grammar.a_null_bulk is lt n = absurd (n refl)
leaf_text_lem p e _ _ rest grammar.a_null_array is lt n = absurd (n refl)
leaf_text_lem p e _ _ rest (grammar.an_integer line i) is lt n = refl
leaf_text_lem p e _ _ rest grammar.a_true is lt n = same_part refl (omega arith)
leaf_text_lem p e _ _ rest grammar.a_false is lt n = same_part refl (omega arith)
leaf_text_lem p e _ _ rest (grammar.a_double {c = c} line i) is lt n = line_text p e c is
leaf_text_lem p e _ _ rest (grammar.a_big_number {c = c} line i) is lt n = line_text p e c is
leaf_text_lem p e _ _ rest grammar.an_okay is lt n = same_part refl (omega arith)
leaf_text_lem p e _ _ rest (grammar.a_simple_string {c = c} line w m) is lt n = line_text p e c is
leaf_text_lem p e _ _ rest (grammar.a_simple_error {c = c} line w) is lt n = line_text p e c is
leaf_text_lem p e _ _ rest (grammar.a_bulk_string {s = s} (header {c = c} line q le)) is lt n =
    let h = 36 ∷ (c ++ crlf) in
    let a : after_lf ((h ++ (s ++ crlf)) ++ rest) ≡ suc (length c + 2) = ap after_lf (append_assoc h (s ++ crlf) rest) ∙ lf_header 36 c ((s ++ crlf) ++ rest) (λ e. omega arith) line.clean in
    let m : suc (length c + 2) ≡ length h = omega (arith, length-append c crlf) in
    ap (λ k. record { start = p + k; len = e - 2 - (p + k) }) a ∙ body_text p e (suc (length c + 2)) h s is m
leaf_text_lem p e _ _ rest (grammar.a_bulk_error {s = s} (header {c = c} line q le) w) is lt n =
    let h = 33 ∷ (c ++ crlf) in
    let a : after_lf ((h ++ (s ++ crlf)) ++ rest) ≡ suc (length c + 2) = ap after_lf (append_assoc h (s ++ crlf) rest) ∙ lf_header 33 c ((s ++ crlf) ++ rest) (λ e. omega arith) line.clean in
    let m : suc (length c + 2) ≡ length h = omega (arith, length-append c crlf) in
    ap (λ k. record { start = p + k; len = e - 2 - (p + k) }) a ∙ body_text p e (suc (length c + 2)) h s is m
leaf_text_lem p e _ _ rest (grammar.a_verbatim_string {f = f} {t = t} three (header {c = c} line q le) w) is lt n =
    let h = 61 ∷ (c ++ crlf) in
    let s = f ++ (58 ∷ t) in
    let a : after_lf ((h ++ (s ++ crlf)) ++ rest) ≡ suc (length c + 2) = ap after_lf (append_assoc h (s ++ crlf) rest) ∙ lf_header 61 c ((s ++ crlf) ++ rest) (λ e. omega arith) line.clean in
    let b = length-append c crlf in
    let d = length-append h (s ++ crlf) in
    let g = length-append s crlf in
    let j = length-append f (58 ∷ t) in
    let k : min (after_lf ((h ++ (s ++ crlf)) ++ rest) + 4) (2 ^ 64 - 1) ≡ suc (length c + 2) + 4 = omega arith in
    ap (λ k. record { start = p + k; len = e - 2 - (p + k) }) k ∙ same_part (omega arith) (omega arith)

-- the first line by where its LF stands
pub lf_is : (bs : List ℕ) → after_lf bs ≡ min (length bs) (position_or_len (λ b. eqb b 10) bs + 1)
lf_is [] = refl
lf_is (b ∷ bs) = go (eqb b 10) (lf_is bs)
  where
    go : (t : Bool) → after_lf bs ≡ min (length bs) (position_or_len (λ b. eqb b 10) bs + 1)
        → cond t 1 (suc (after_lf bs)) ≡ min (length (b ∷ bs)) (cond (not t) (1 + position_or_len (λ b. eqb b 10) bs) 0 + 1)
    go true h = omega arith
    go false h = omega arith

-- and by what a search for it answers
pub lf_found : (bs : List ℕ) (r : Option ℕ) → r ≡ position (λ b. eqb b 10) bs → option_map_or suc r (length bs) ≡ after_lf bs
lf_found bs r e = ap (λ o. option_map_or suc o (length bs)) e ∙ by (ltb (position_or_len (λ b. eqb b 10) bs) (length bs)) refl ∙ sym (lf_is bs)
  where
    by : (t : Bool) → ltb (position_or_len (λ b. eqb b 10) bs) (length bs) ≡ t
        → option_map_or suc (cond t (Some (position_or_len (λ b. eqb b 10) bs)) None) (length bs) ≡ min (length bs) (position_or_len (λ b. eqb b 10) bs + 1)
    by true e = let lt = ltb-true (position_or_len (λ b. eqb b 10) bs) (length bs) e in omega arith
    by false e = let le = ltb-false (position_or_len (λ b. eqb b 10) bs) (length bs) e in omega arith

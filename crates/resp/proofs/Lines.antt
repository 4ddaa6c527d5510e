-- Lines.
use Rattle.std.proofs.Common.{◌≡◌, ℕ, zero, suc, ◌≤◌, eqb, List, [], ◌∷◌, ◌++◌, length, sym, refl, ap, ◌∙◌, append_assoc, suc-le-suc, le_of_suc-le-suc, arith}
use Rattle.std.proofs.lemmas.Bool.{eqb-true, eqb-false, ne_eqb}
use Rattle.resp.specs.Limits.{line_most}
use Rattle.resp.specs.Grammar.{Clean, Line, crlf}
use Rattle.resp.specs.Out.{ok}
use Rattle.resp.specs.Reading.{line, closing}
use Rattle.resp.proofs.Outs.{clash, map_out_ok, by_test}

abbrev Lined : ℕ → List ℕ → List ℕ → List ℕ → Type 0
Lined room bs c rest = (bs ≡ c ++ (13 ∷ 10 ∷ rest)) × (length c ≤ room) × Clean c

closing_sound : (room b : ℕ) (s bs c rest : List ℕ) → b ≡ 13 → closing s bs ≡ ok c rest → Lined room (b ∷ bs) c rest
closing_sound room b s [] c rest is e = absurd (clash e)
closing_sound room b s (x ∷ bs) c rest is e =
    by_test (eqb x 10) _ _ _ e
    (λ t h. let n : [] ≡ c = cc in let y : x ≡ 10 = eqb-true x 10 t in rw (← n) (cc, omega arith, tt))
    (λ t h. absurd (clash h))

line_parts : (room : ℕ) (s bs c rest : List ℕ) → line s room bs ≡ ok c rest → Lined room bs c rest
line_parts room s [] c rest e = absurd (clash e)
line_parts zero s (b ∷ bs) c rest e =
    by_test (eqb b 13) _ _ _ e
    (λ t h. closing_sound 0 b s bs c rest (eqb-true b 13 t) h)
    (λ t h. by_test (eqb b 10) _ _ _ h (λ u i. absurd (clash i)) (λ u i. absurd (clash i)))
line_parts (suc n) s (b ∷ bs) c rest e =
    by_test (eqb b 13) _ _ _ e
    (λ t h. closing_sound (suc n) b s bs c rest (eqb-true b 13 t) h)
    (λ t h.
    by_test (eqb b 10) _ _ _ h
    (λ u i. absurd (clash i))
    (λ u i.
    let (d, p, q) = map_out_ok (line s n bs) (λ c. b ∷ c) c rest i in
    let l = line_parts n s bs d rest p in
    rw (← q) (ap (λ l. b ∷ l) l.0, suc-le-suc l.1, (eqb-false b 13 t, eqb-false b 10 u, l.2))))

pub line_sound : (s bs c rest : List ℕ) → line s line_most bs ≡ ok c rest → (bs ≡ (c ++ crlf) ++ rest) × Line c
line_sound s bs c rest e = let l = line_parts line_most s bs c rest e in (l.0 ∙ sym (append_assoc c crlf rest), record { short = l.1; clean = l.2 })

line_whole : (room : ℕ) (s c rest : List ℕ) → length c ≤ room → Clean c → line s room (c ++ (13 ∷ 10 ∷ rest)) ≡ ok c rest
line_whole zero s [] rest short clean = refl
line_whole (suc n) s [] rest short clean = refl
line_whole zero s (b ∷ c) rest short clean = absurd (omega arith)
line_whole (suc n) s (b ∷ c) rest short clean =
    rw (ne_eqb b 13 clean.0, ne_eqb b 10 clean.1, line_whole n s c rest (le_of_suc-le-suc short) clean.2)

pub line_complete : (s c rest : List ℕ) → Line c → line s line_most ((c ++ crlf) ++ rest) ≡ ok c rest
line_complete s c rest l = ap (line s line_most) (append_assoc c crlf rest) ∙ line_whole line_most s c rest l.short l.clean

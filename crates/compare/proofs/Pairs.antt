-- A text cut into pairs: what a pair spells, the text spells at the pair's place.
use Rattle.std.proofs.Common.{◌≡◌, ℕ, zero, suc, ◌+◌, ◌*◌, ◌<◌, List, [], ◌∷◌, ◌++◌, length, get_or, drop, sym, ap, ◌∙◌, subst, add-zero, arith, below_more}
use Rattle.std.proofs.lemmas.List.{get_or-take, get_or-drop, get_or_append_left, get_or_push, length_push}
use Rattle.std.specs.Simd.{first_chunks}
use Rattle.compare.specs.Hex.{Spells, SpellsAt}

in_pair : (n i j : ℕ) (xs : List ℕ) → i < n → j < 2 → get_or (get_or (first_chunks 2 n xs) i []) j 0 ≡ get_or xs (2 * i + j) 0
in_pair zero i j xs h below = omega (arith, h)
in_pair (suc n) zero j xs h below =
    let e : j ≡ 2 * 0 + j = omega arith in get_or-take 2 xs j 0 below ∙ ap (λ k. get_or xs k 0) e
in_pair (suc n) (suc i) j xs h below =
    let e : 2 + (2 * i + j) ≡ 2 * suc i + j = omega arith in
    in_pair n i j (drop 2 xs) (omega (arith, h)) below ∙ get_or-drop 2 xs (2 * i + j) 0 ∙ ap (λ k. get_or xs k 0) e

module _ (xs : List ℕ) (rows : List (List ℕ)) (n i : ℕ) (cut : rows ≡ first_chunks 2 n xs) (h : i < n) where
  char : (j : ℕ) → j < 2 → get_or (get_or rows i []) j 0 ≡ get_or xs (2 * i + j) 0
  char j below = ap (λ r. get_or (get_or r i []) j 0) cut ∙ in_pair n i j xs h below

  high : get_or (get_or rows i []) 0 0 ≡ get_or xs (2 * i) 0
  high = char 0 (omega arith) ∙ ap (λ k. get_or xs k 0) (add-zero (2 * i))

  low : get_or (get_or rows i []) 1 0 ≡ get_or xs (2 * i + 1) 0
  low = char 1 (omega arith)

  -- from the pair to the text
  pub to_text : (b : ℕ) → SpellsAt (get_or rows i []) 0 b → SpellsAt xs i b
  to_text b s =
      let P : ℕ → Type 0 = λ x. Spells x (get_or (get_or rows i []) 1 0) b in
      let Q : ℕ → Type 0 = λ x. Spells (get_or xs (2 * i) 0) x b in
      subst Q low (subst P high s)

  -- and back
  pub to_pair : (b : ℕ) → SpellsAt xs i b → SpellsAt (get_or rows i []) 0 b
  to_pair b s =
      let P : ℕ → Type 0 = λ x. Spells x (get_or (get_or rows i []) 1 0) b in
      let Q : ℕ → Type 0 = λ x. Spells (get_or xs (2 * i) 0) x b in
      subst P (sym high) (subst Q (sym low) s)

-- One byte more.
pub one_more :
    (text items longer : List ℕ) (i b : ℕ) →
    longer ≡ items ++ b ∷ [] → length items ≡ i →
    ((k : ℕ) → k < i → SpellsAt text k (get_or items k 0)) → SpellsAt text i b →
    (length longer ≡ i + 1) × ((k : ℕ) → k < i + 1 → SpellsAt text k (get_or longer k 0))
one_more text items longer i b e n old new =
    let At : ℕ → ℕ → Type 0 = λ k v. SpellsAt text k v in
    let P : ℕ → Type 0 = λ k. At k (get_or longer k 0) in
    let here : get_or longer i 0 ≡ b = ap (λ l. get_or l i 0) e ∙ get_or_push items b 0 i n in (
      ap length e ∙ length_push items b ∙ ap (λ m. m + 1) n,
      below_more P i
          (λ k h. subst (At k) (sym (ap (λ l. get_or l k 0) e ∙ get_or_append_left items (b ∷ []) 0 k (omega (arith, h, n)))) (old k h))
          (subst (At i) (sym here) new),
    )

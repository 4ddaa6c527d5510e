-- The rows of the table as the scan reads them: a lead byte, and then as many bytes as it says, the first of them in the lead's own range.
use Rattle.std.proofs.Common.{◌≡◌, ℕ, zero, suc, ◌<◌, ◌≤◌, ◌⊎◌, List, [], ◌∷◌, ◌++◌, refl, inl, inr, arith}
use Rattle.std.specs.Int.{IsInRange}
use Rattle.std.proofs.lemmas.Bool.{cases_lt}
use Rattle.std.proofs.lemmas.Bool.Decides.{nat_tests}
use Rattle.utf8.specs.Table.{Row, row1, row2, row3, row4, row5, row6, row7, row8, row9}
use Rattle.utf8.specs.Scan.{count, least, greatest}

-- a list that begins with so many bytes, the first of them from lo to hi, and what follows them
pub data Starts : ℕ → ℕ → ℕ → List ℕ → List ℕ → Type 0 where
  none : {lo hi : ℕ} {r : List ℕ} → Starts zero lo hi r r
  next : {n lo hi b : ℕ} {l r : List ℕ} → IsInRange lo hi b → Starts n 128 191 l r → Starts (suc n) lo hi (b ∷ l) r

-- a list that begins with a sequence, and what follows it
pub data Led : List ℕ → List ℕ → Type 0 where
  by : {a : ℕ} {l r : List ℕ} (n : ℕ) → count a ≡ suc n → Starts n (least a) (greatest a) l r → Led (a ∷ l) r

pub led : {x : List ℕ} (r : List ℕ) → Row x → Led (x ++ r) r
led r (row1 h) = by 0 (grind (arith, nat_tests)) none
led r (row2 h i) = by 1 (grind (arith, nat_tests)) (next (grind (arith, nat_tests)) none)
led r (row3 h i j) = by 2 (grind (arith, nat_tests)) (next (grind (arith, nat_tests)) (next j none))
led r (row4 h i j) = by 2 (grind (arith, nat_tests)) (next (grind (arith, nat_tests)) (next j none))
led r (row5 h i j) = by 2 (grind (arith, nat_tests)) (next (grind (arith, nat_tests)) (next j none))
led r (row6 h i j) = by 2 (grind (arith, nat_tests)) (next (grind (arith, nat_tests)) (next j none))
led r (row7 h i j k) = by 3 (grind (arith, nat_tests)) (next (grind (arith, nat_tests)) (next j (next k none)))
led r (row8 h i j k) = by 3 (grind (arith, nat_tests)) (next (grind (arith, nat_tests)) (next j (next k none)))
led r (row9 h i j k) = by 3 (grind (arith, nat_tests)) (next (grind (arith, nat_tests)) (next j (next k none)))

three : (a b c : ℕ) → count a ≡ 3 → IsInRange (least a) (greatest a) b → IsInRange 128 191 c → Row (a ∷ b ∷ c ∷ [])
three a b c e h i = at (cases_lt a 225) (cases_lt a 237) (cases_lt a 238)
  where
    at : (a < 225) ⊎ (225 ≤ a) → (a < 237) ⊎ (237 ≤ a) → (a < 238) ⊎ (238 ≤ a) → Row (a ∷ b ∷ c ∷ [])
    at (inl p) _ _ = row3 (grind (arith, nat_tests)) (grind (arith, nat_tests)) i
    at (inr p) (inl q) _ = row4 (grind (arith, nat_tests)) (grind (arith, nat_tests)) i
    at (inr p) (inr q) (inl r) = row5 (grind (arith, nat_tests)) (grind (arith, nat_tests)) i
    at (inr p) (inr q) (inr r) = row6 (grind (arith, nat_tests)) (grind (arith, nat_tests)) i

four : (a b c d : ℕ) → count a ≡ 4 → IsInRange (least a) (greatest a) b → IsInRange 128 191 c → IsInRange 128 191 d → Row (a ∷ b ∷ c ∷ d ∷ [])
four a b c d e h i j = at (cases_lt a 241) (cases_lt a 244)
  where
    at : (a < 241) ⊎ (241 ≤ a) → (a < 244) ⊎ (244 ≤ a) → Row (a ∷ b ∷ c ∷ d ∷ [])
    at (inl p) _ = row7 (grind (arith, nat_tests)) (grind (arith, nat_tests)) i j
    at (inr p) (inl q) = row8 (grind (arith, nat_tests)) (grind (arith, nat_tests)) i j
    at (inr p) (inr q) = row9 (grind (arith, nat_tests)) (grind (arith, nat_tests)) i j

-- a row, then r
pub record Rowed (l r : List ℕ) : Type 0 where
  pub front : List ℕ
  pub is : Row front
  pub split : l ≡ front ++ r

pub rowed : {l r : List ℕ} → Led l r → Rowed l r
rowed (by {a} _ e none) = record { front = a ∷ []; is = row1 (grind (arith, nat_tests)); split = refl }
rowed (by {a} _ e (next {b} h none)) = record { front = a ∷ b ∷ []; is = row2 (grind (arith, nat_tests)) (grind (arith, nat_tests)); split = refl }
rowed (by {a} _ e (next {b} h (next {b = c} i none))) = record { front = a ∷ b ∷ c ∷ []; is = three a b c e h i; split = refl }
rowed (by {a} _ e (next {b} h (next {b = c} i (next {b = d} j none)))) = record { front = a ∷ b ∷ c ∷ d ∷ []; is = four a b c d e h i j; split = refl }
rowed (by _ e (next h (next i (next j (next k t))))) = absurd (grind (arith, nat_tests))

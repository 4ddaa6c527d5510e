-- The scan, a byte at a time.
use Rattle.std.proofs.Common.{◌≡◌, ℕ, suc, true, false, ◌⊎◌, List, [], ◌∷◌, Some, sym, refl, subst, inl, inr, ⊎_elim, sub-one, arith}
use Rattle.std.specs.Int.{IsInRange, is_in_range}
use Rattle.std.proofs.lemmas.Bool.{cases_lt, ne_eqb}
use Rattle.std.proofs.lemmas.Bool.Decides.{nat_tests}
use Rattle.utf8.specs.Scan.{count, least, greatest, scan}

within_is : (lo hi b : ℕ) → IsInRange lo hi b → is_in_range lo hi b ≡ true
within_is lo hi b h = grind (arith, nat_tests)

within_not : (lo hi b : ℕ) → (IsInRange lo hi b → ⊥) → is_in_range lo hi b ≡ false
within_not lo hi b h = grind (arith, nat_tests)

pub cases_in : (lo hi b : ℕ) → IsInRange lo hi b ⊎ (IsInRange lo hi b → ⊥)
cases_in lo hi b = ⊎_elim (λ l. inr (λ h. omega arith)) (λ l. ⊎_elim (λ u. inr (λ h. omega arith)) (λ u. inl (l, u)) (cases_lt hi b)) (cases_lt b lo)

-- t is left, and begins with b
module _ (s : List ℕ) (lo hi : ℕ) {b : ℕ} {t l : List ℕ} (is : t ≡ b ∷ l) where
  -- nothing is due: b begins a sequence, or none
  pub begun : {n : ℕ} → count b ≡ suc n → scan s 0 lo hi t ≡ scan t n (least b) (greatest b) l
  begun {n} e = subst (λ t. scan s 0 lo hi t ≡ scan t n (least b) (greatest b) l) (sym is) (rw (e, ne_eqb (suc n) 0 (λ z. omega arith), sub-one))

  pub stray : count b ≡ 0 → scan s 0 lo hi t ≡ Some t
  stray e = subst (λ t. scan s 0 lo hi t ≡ Some t) (sym is) (rw e)

  -- bytes are due: b is in their range, or not
  pub followed : (n : ℕ) → IsInRange lo hi b → scan s (suc n) lo hi t ≡ scan s n 128 191 l
  followed n h = rw (is, within_is lo hi b h)

  pub broken : (n : ℕ) → (IsInRange lo hi b → ⊥) → scan s (suc n) lo hi t ≡ Some s
  broken n h = rw (is, within_not lo hi b h)

-- while nothing is due, only the bytes to come count
pub fresh : (s s' : List ℕ) (lo hi lo' hi' : ℕ) (l : List ℕ) → scan s 0 lo hi l ≡ scan s' 0 lo' hi' l
fresh s s' lo hi lo' hi' [] = refl
fresh s s' lo hi lo' hi' (b ∷ l) = refl

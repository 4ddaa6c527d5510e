-- The run of one-bits that a byte begins with, by one test of all the bytes.
use Rattle.std.proofs.Common.{◌≡◌, ℕ, zero, suc, ◌-◌, ◌^◌, ◌<◌, Bool, true, ◌&&◌, eqb, refl}
use lib.Count.{count_leading_zeros}
use Rattle.utf8.specs.Scan.{ones}
use Rattle.std.proofs.lemmas.Bool.Decides.{Decides-eqb, Decides-below_and}

same : ℕ → Bool
same b = eqb (count_leading_zeros 8 (2 ^ 8 - 1 - b)) (ones b)

abbrev all_same : ℕ → Bool
all_same zero = true
all_same (suc n) = same n && all_same n

pub ones_is : (b : ℕ) → b < 256 → count_leading_zeros 8 (2 ^ 8 - 1 - b) ≡ ones b
unfolding count_leading_zeros same
ones_is = (Decides-below_and same (λ b. count_leading_zeros 8 (2 ^ 8 - 1 - b) ≡ ones b) all_same (λ b. Decides-eqb (count_leading_zeros 8 (2 ^ 8 - 1 - b)) (ones b)) refl (λ n. refl) 256).0 refl

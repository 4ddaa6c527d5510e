-- Setting where a note's reply ends.
use Rattle.std.proofs.Common.{◌≡◌, ℕ, zero, suc, ◌<◌, ◌≤◌, List, [], ◌∷◌, ◌++◌, length, get_or, refl, ap, arith}
use lib.ListN.{set}
use Rattle.station.specs.declared.listing.Note.{Note}
use Rattle.station.specs.Listing.{end_at}

pub set_ended : (xs : List Note) (i e : ℕ) (n : Note) → i < length xs → n ≡ get_or xs i n → set xs i (record n { end = e }) ≡ end_at i e xs
set_ended [] i e n h is = absurd (omega arith)
set_ended (m ∷ ms) zero e n h is = ap {A = Note} (λ (k : Note). let ended : Note = record k { end = e } in ended ∷ ms) is
set_ended (m ∷ ms) (suc i) e n h is = ap (λ ks. m ∷ ks) (set_ended ms i e n (omega arith) is)

-- no note is there
pub none_ended : (xs : List Note) (i e : ℕ) → length xs ≤ i → xs ≡ end_at i e xs
none_ended [] i e h = refl
none_ended (m ∷ ms) zero e h = absurd (omega arith)
none_ended (m ∷ ms) (suc i) e h = ap (λ ks. m ∷ ks) (none_ended ms i e (omega arith))

-- the note after the first ones
pub end_after : (xs ys : List Note) (n : Note) (e : ℕ) → end_at (length xs) e (xs ++ (n ∷ ys)) ≡ xs ++ (record n { end = e } ∷ ys)
end_after [] ys n e = refl
end_after (m ∷ ms) ys n e = ap (λ ks. m ∷ ks) (end_after ms ys n e)

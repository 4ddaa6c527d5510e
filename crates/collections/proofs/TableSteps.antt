-- Rows counted, picked and laid into a table, one after another.
use Rattle.std.proofs.Common.{◌≡◌, ℕ, ◌+◌, ◌≤◌, List, [], ◌∷◌, ◌++◌, length, take, drop, Some, None, Ok, Err, Option, Result, sym, ◌∙◌, arith, length-drop, take-append-drop}
use Rattle.kinds.specs.declared.fault.Fault.{Fault}
use Rattle.kinds.specs.Rows.{counted}
use Rattle.collections.specs.declared.cursor.Cursor.{Cursor}
use Rattle.collections.specs.Steps.{nth, Room, laid, size}

-- so many more
abbrev pub ahead : ℕ → Result ℕ Fault → Result ℕ Fault
ahead k (Ok n) = Ok (k + n)
ahead k (Err f) = Err f

-- so many are counted
abbrev pub Counting : {V : Type 0} → (Cursor → Result (List V) Fault) → Result ℕ Fault → ℕ → ℕ → Option Cursor → Type 0
Counting left all count most None = ⊥
Counting left all count most (Some rest) = (all ≡ ahead count (counted (left rest))) × (count + size rest ≤ most)

-- what was found, or what will be found
abbrev pub found_in : {V : Type 0} → Option V → ℕ → Result (List V) Fault → Result (Option V) Fault
found_in f skip (Err e) = Err e
found_in (Some v) skip (Ok vs) = Ok (Some v)
found_in None skip (Ok vs) = Ok (nth skip vs)

-- the row is found, or will be
abbrev pub Finding : {V : Type 0} → (Cursor → Result (List V) Fault) → Result (Option V) Fault → Option V → ℕ → Option Cursor → Type 0
Finding left all found skip None = ⊥
Finding left all found skip (Some rest) = all ≡ found_in found skip (left rest)

-- the table, with i rows written
-- i rows are written of those that a table has room for
pub record Laid {V : Type 0} (all left : Result (List V) Fault) (old cur : List V) (i : ℕ) : Type 0 where
  pub rows : laid all old ≡ take i cur ++ laid left (drop i cur)
  pub room : Room left (length (drop i cur))

-- all of the table is written
pub laid_full : {V : Type 0} (all left : Result (List V) Fault) (old cur : List V) (i : ℕ) → length cur ≤ i → Laid all left old cur i → cur ≡ laid all old
laid_full all left old cur i full l = sym (l.rows ∙ by left l.room)
  where
    by : (m : Result (List _) Fault) → Room m (length (drop i cur)) → take i cur ++ laid m (drop i cur) ≡ cur
    by (Ok []) room = take-append-drop i cur
    by (Ok (v ∷ vs)) room = absurd (omega (arith, length-drop i cur))
    by (Err f) room = absurd room

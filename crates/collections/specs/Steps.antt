-- How a cursor goes through the rows of a collection.
use Rattle.std.specs.Prelude.{◌≡◌, ℕ, zero, suc, ◌<◌, ◌≤◌, cond, List, [], ◌∷◌, ◌++◌, length, drop, Some, None, Ok, Err, Option, Result, MatchResult, ◌==◌, nat_le}
use Rattle.kinds.specs.declared.fault.Fault.{Fault}
use Rattle.kinds.specs.declared.fault.Fault.TheVariants.{Intake}
use Rattle.kinds.specs.declared.fault.IntakeReason.TheVariants.{Table}
use Rattle.kinds.specs.Rows.{onto}
use Rattle.collections.specs.declared.cursor.Cursor.{Cursor}
use Rattle.collections.specs.declared.cursor.Cursor.TheVariants.{Each, Cut, Bytes, Distinct}

-- the rows are what is left at the start, or there is a refusal and it is that of the rows
abbrev pub Starts : {V C : Type 0} → Result (List V) Fault → (C → Result (List V) Fault) → Result C Fault → Type 0
Starts rows left r = MatchResult r (λ cursor. rows ≡ left cursor) (λ fault. rows ≡ Err fault)

-- one step: nothing was left, or a row before what is left now, or a refusal
abbrev pub Steps : {V : Type 0} → Result (List V) Fault → Option (Result V Fault) → Result (List V) Fault → Type 0
Steps before None after = before ≡ Ok []
Steps before (Some (Ok v)) after = before ≡ onto v after
Steps before (Some (Err f)) after = before ≡ Err f

-- how much is left: no fewer than the rows
abbrev pub size : Cursor → ℕ
size (Each d) = d.rest.left
size (Cut c) = c.replies.rest.left
size (Bytes text) = length text.now
size (Distinct d) = d.rest.left

-- after a row less is left
abbrev pub Falls : {V : Type 0} → ℕ → Option (Result V Fault) → ℕ → Type 0
Falls before None after = Unit {0}
Falls before (Some (Ok v)) after = after < before
Falls before (Some (Err f)) after = Unit {0}

-- how many calls can give something: each a row, or the last a refusal
abbrev pub calls : Option Cursor → ℕ
calls None = 0
calls (Some cursor) = suc (size cursor)

-- one call: a row before what is left now, or a refusal or the end, after which nothing comes
abbrev pub Moves : {V : Type 0} → (Cursor → Result (List V) Fault) → Option Cursor → Option (Result V Fault) → Option Cursor → Type 0
Moves left None None after = after ≡ None
Moves left None (Some r) after = ⊥
Moves left (Some before) None after = (left before ≡ Ok []) × (after ≡ None)
Moves left (Some before) (Some (Ok v)) None = ⊥
Moves left (Some before) (Some (Ok v)) (Some after) = (left before ≡ onto v (left after)) × (size after < size before)
Moves left (Some before) (Some (Err f)) after = (left before ≡ Err f) × (after ≡ None)

-- the row i of some; none where there are fewer
abbrev pub nth : {V : Type 0} → ℕ → List V → Option V
nth i [] = None
nth zero (v ∷ vs) = Some v
nth (suc i) (v ∷ vs) = nth i vs

abbrev pub nth_in : {V : Type 0} → ℕ → Result (List V) Fault → Result (Option V) Fault
nth_in i (Ok vs) = Ok (nth i vs)
nth_in i (Err f) = Err f

-- the rows fit a table of n
abbrev pub Room : {V : Type 0} → Result (List V) Fault → ℕ → Type 0
Room (Ok vs) n = length vs ≤ n
Room (Err f) n = ⊥

-- the table after: the rows, then the old rows past them
abbrev pub laid : {V : Type 0} → Result (List V) Fault → List V → List V
laid (Ok vs) old = vs ++ drop (length vs) old
laid (Err f) old = old

-- A table after a reading: the count of rows, and the rows, where there is room; else a refusal, and the table as it was.
abbrev pub tabled : {V : Type 0} → Result (List V) Fault → List V → Result ℕ Fault × List V
tabled (Err f) old = (Err f, old)
tabled (Ok vs) old = cond (nat_le (length vs) (length old)) (Ok (length vs), vs ++ drop (length vs) old) (Err (Intake Table), old)

-- the row that was looked for: found before, or the one that is no longer to be passed
abbrev pub noted : {V : Type 0} → Option V → ℕ → V → Option V
noted (Some u) skip v = Some u
noted None skip v = cond (skip == 0) (Some v) None

-- whether there was a refusal
abbrev pub judged : {V : Type 0} → Result (List V) Fault → Result (Unit {0}) Fault
judged (Ok vs) = Ok tt
judged (Err f) = Err f

-- One step of the scan, as a change of its state.
use Rattle.std.specs.Prelude.{ℕ, ◌-◌, Bool, cond, ◌&&◌, ◌||◌, Some, None, Ok, Err, Option, Result, ◌==◌, nat_lt}
use Rattle.utf8.specs.declared.State.{State}
use Rattle.utf8.specs.Scan.{count, least, greatest}

abbrev pub initial : State
initial = record { start = 0; due = 0; low = 128; high = 191 }

-- a byte that is due: in its range, or not
abbrev pub following : State → ℕ → Result State ℕ
following s b = cond (nat_lt b s.low || nat_lt s.high b) (Err s.start) (Ok (record { start = s.start; due = s.due - 1; low = 128; high = 191 }))

-- the first byte of a sequence, at p
abbrev pub beginning : ℕ → ℕ → Result State ℕ
beginning p b = cond (count b == 0) (Err p) (Ok (record { start = p; due = count b - 1; low = least b; high = greatest b }))

-- nothing is due, and b stands alone
abbrev pub passing : State → ℕ → Bool
passing s b = s.due == 0 && nat_lt b 128

-- the byte at p: the state after it, or where the sequence begins that it shows to be ill formed
abbrev pub step_of : State → ℕ → ℕ → Result State ℕ
step_of s p b = cond (nat_lt 0 s.due) (following s b) (beginning p b)

-- the end of the text
abbrev pub at_end : State → Option ℕ
at_end s = cond (nat_lt 0 s.due) (Some s.start) None

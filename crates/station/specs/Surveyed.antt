-- What the survey of a recording says of its bytes.
use Rattle.std.specs.Prelude.{◌≡◌, ℕ, ◌+◌, ◌≤◌, List, [], length, take, drop, Some, None, Err, Option}
use Rattle.resp.specs.declared.fault.WireFault.{WireFault}
use Rattle.resp.specs.Limits.{deepest}
use Rattle.resp.specs.Reply.{Reply}
use Rattle.resp.specs.Grammar.{Whole, Each}
use Rattle.resp.specs.Answer.{answer}
use Rattle.station.specs.declared.survey.Survey.{Survey}

-- these bytes are k whole replies, one after another
abbrev pub Replies : ℕ → List ℕ → Type 0
Replies k bs = (rs : List Reply) × Each (Whole deepest) rs bs × (k ≡ length rs)

-- why there are no more after the first n bytes: none are left, or the fault is that of what is left, with its place counted from
-- the first byte
abbrev pub Stops : List ℕ → ℕ → Option WireFault → Type 0
Stops bs n None = drop n bs ≡ []
Stops bs n (Some f) = (g : WireFault) × (answer (drop n bs) ≡ Err g) × (f ≡ record { reason = g.reason; place = n + g.place })

pub record Surveyed (bs : List ℕ) (s : Survey) : Type 0 where
  pub inside : s.bytes ≤ length bs
  pub replies : Replies s.replies (take s.bytes bs)
  pub stopped : Stops bs s.bytes s.fault

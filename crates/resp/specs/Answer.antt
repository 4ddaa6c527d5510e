-- What is said of bytes from their first one on.
use Rattle.std.specs.Prelude.{◌≡◌, ℕ, ◌-◌, ◌<◌, ◌≤◌, ◌≢◌, List, ◌++◌, length, take, Ok, Err, codes, Result}
use Rattle.resp.specs.declared.fault.WireReason.{WireReason}
use Rattle.resp.specs.declared.fault.WireReason.TheVariants.{NotWhole, UnknownKind, BrokenLine, LongLine, Content, Limit, NotClosed, NotUtf8}
use Rattle.resp.specs.declared.fault.WireFault.{WireFault}
use Rattle.resp.specs.Limits.{deepest}
use Rattle.resp.specs.Out.{Out, ok, fault}
use Rattle.resp.specs.Reply.{Reply}
use Rattle.resp.specs.Grammar.{Whole}
use Rattle.resp.specs.Node.{Node, reading, offset}

-- the number of each reason
abbrev pub number : WireReason → ℕ
number NotWhole = 10
number UnknownKind = 11
number BrokenLine = 12
number LongLine = 13
number Content = 14
number Limit = 15
number NotClosed = 16
number NotUtf8 = 17

-- what each says
abbrev pub words : WireReason → List ℕ
words NotWhole = codes "not whole yet"
words UnknownKind = codes "unknown kind"
words BrokenLine = codes "broken line"
words LongLine = codes "long line"
words Content = codes "content"
words Limit = codes "limit or depth"
words NotClosed = codes "body not closed"
words NotUtf8 = codes "not UTF-8"

-- the located tree that begins the bytes, or the first fault
abbrev pub located : List ℕ → Out Node
located bs = reading (offset (length bs)) deepest bs

abbrev pub answered : {A : Type 0} → List ℕ → Out A → Result ℕ WireFault
answered bs (ok a rest) = Ok (length bs - length rest)
answered bs (fault k at) = Err (record { reason = k; place = length bs - length at })

-- the length of the whole reply that begins the bytes, or why there is none, and where
abbrev pub answer : List ℕ → Result ℕ WireFault
answer bs = answered bs (located bs)

-- the first n bytes are a whole reply
abbrev pub Begins : ℕ → List ℕ → Type 0
Begins n bs = (n ≤ length bs) × ((r : Reply) × Whole deepest r (take n bs))

-- Of n bytes that are said to be a reply: they are one, no other length is, and they are read alike whatever follows them.
pub record Found (bs : List ℕ) (n : ℕ) : Type 0 where
  pub some : 0 < n
  pub whole : Begins n bs
  pub only : (m : ℕ) → Begins m bs → m ≡ n
  pub lasting : (more : List ℕ) → answer (take n bs ++ more) ≡ Ok n

-- Of a fault: no whole reply begins the bytes; and any reason but that they are not whole yet stays, with its place, whatever follows.
pub record Refused (bs : List ℕ) (f : WireFault) : Type 0 where
  pub none : (m : ℕ) → Begins m bs → ⊥
  pub lasting : f.reason ≢ NotWhole → (more : List ℕ) → answer (bs ++ more) ≡ Err f

abbrev pub Right : List ℕ → Result ℕ WireFault → Type 0
Right bs (Ok n) = Found bs n
Right bs (Err f) = Refused bs f

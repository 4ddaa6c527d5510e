-- What is said of a line.
use Rattle.std.specs.Prelude.{◌≡◌, ℕ, List, length, Ok, Err, Result, ◌≢◌}
use Rattle.resp.specs.Answer.{answer}
use Rattle.resp.specs.declared.fault.WireFault.{WireFault}
use Rattle.compare.specs.declared.answer.Answer.{Answer}
use Rattle.compare.specs.declared.answer.Answer.TheVariants.{Whole, Faulty, Bad}
use Rattle.compare.specs.declared.answer.BadLine.{BadLine}
use Rattle.compare.specs.declared.answer.BadLine.TheVariants.{NoTab, UnknownShape, OddHex, NotHex}
use Rattle.compare.specs.declared.hex.HexError.{HexError}
use Rattle.compare.specs.declared.hex.HexError.TheVariants as hex
use Rattle.compare.specs.declared.question.Refusal.{Refusal}
use Rattle.compare.specs.declared.question.Refusal.TheVariants as refusal
use Rattle.compare.specs.declared.shape.Shape.{Shape}
use Rattle.compare.specs.declared.shape.Shape.TheVariants.{Wire}
use Rattle.compare.specs.Hex.{Spelled, Unspelled}
use Rattle.compare.specs.Lines.{Cut, NoTabBelow}
use Rattle.compare.specs.Names.{name_of}

-- The answer about bytes of the wire, from what the wire's rules say of them.
abbrev pub wire_answer : Result ℕ WireFault → Answer
wire_answer (Ok n) = Whole n
wire_answer (Err f) = Faulty f

-- The line names a shape, and a text stands after its tab.
abbrev pub Asks : Shape → List ℕ → List ℕ → Type 0
Asks s line text = (name : List ℕ) × Cut line name text × (name ≡ name_of s)

-- Why the line is no question.
abbrev pub BadFor : List ℕ → BadLine → Type 0
BadFor line NoTab = NoTabBelow (length line) line
BadFor line UnknownShape = (name : List ℕ) × (text : List ℕ) × Cut line name text × ((s : Shape) → name ≢ name_of s)
BadFor line OddHex = (s : Shape) × (text : List ℕ) × Asks s line text × Unspelled text hex.Odd
BadFor line NotHex = (s : Shape) × (text : List ℕ) × Asks s line text × Unspelled text hex.NotHex

-- What an error of the text makes of a line.
abbrev pub refusal_of : HexError → Refusal
refusal_of hex.Odd = refusal.Bad OddHex
refusal_of hex.NotHex = refusal.Bad NotHex
refusal_of hex.NoMemory = refusal.NoMemory

-- What a refusal says of the line: memory that runs out says nothing.
abbrev pub Refused : List ℕ → Refusal → Type 0
Refused line (refusal.Bad why) = BadFor line why
Refused line refusal.NoMemory = Unit {0}

-- The line names a shape, and spells bytes after its tab.
abbrev pub SpellsAs : Shape → List ℕ → List ℕ → Type 0
SpellsAs s line bytes = (text : List ℕ) × Asks s line text × Spelled text bytes

-- The line spells bytes of the wire.
abbrev pub SpellsWire : List ℕ → List ℕ → Type 0
SpellsWire line bytes = SpellsAs Wire line bytes

-- The answer is right for the line.
abbrev pub Answers : List ℕ → Answer → Type 0
Answers line (Bad why) = BadFor line why
Answers line (Whole n) = (bytes : List ℕ) × SpellsWire line bytes × (answer bytes ≡ Ok n)
Answers line (Faulty f) = (bytes : List ℕ) × SpellsWire line bytes × (answer bytes ≡ Err f)

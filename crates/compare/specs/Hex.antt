-- How bytes are written in hex.
use Rattle.std.specs.Prelude.{◌≡◌, ℕ, ◌+◌, ◌*◌, ◌%◌, ◌<◌, ◌≤◌, ◌⊎◌, List, length, slice_index}
use Rattle.compare.specs.declared.hex.HexError.{HexError}
use Rattle.compare.specs.declared.hex.HexError.TheVariants.{Odd, NotHex, NoMemory}

-- The character c writes the value v: 0 to 9 (from 48 on), then a to f (from 97 on) or A to F (from 65 on).
abbrev pub Writes : ℕ → ℕ → Type 0
Writes c v = ((v < 10) × (c ≡ 48 + v)) ⊎ ((10 ≤ v) × (v < 16) × ((c + 10 ≡ 97 + v) ⊎ (c + 10 ≡ 65 + v)))

-- Two characters spell a byte: the high half, then the low one.
abbrev pub Spells : ℕ → ℕ → ℕ → Type 0
Spells c d b = (h : ℕ) × (l : ℕ) × Writes c h × Writes d l × (b ≡ h * 16 + l)

-- The characters 2k and 2k + 1 of a text spell a byte.
abbrev pub SpellsAt : List ℕ → ℕ → ℕ → Type 0
SpellsAt text k b = Spells (slice_index text (2 * k)) (slice_index text (2 * k + 1)) b

-- A text spells bytes: two characters for each.
abbrev pub Spelled : List ℕ → List ℕ → Type 0
Spelled text bytes = (length text ≡ 2 * length bytes) × ((k : ℕ) → k < length bytes → SpellsAt text k (slice_index bytes k))

-- What a refusal says of the text: its length is odd; or it is even, and some two characters spell no byte.
abbrev pub Unspelled : List ℕ → HexError → Type 0
Unspelled text Odd = length text % 2 ≡ 1
Unspelled text NotHex = (length text % 2 ≡ 0) × ((k : ℕ) × (2 * k + 1 < length text) × ((b : ℕ) → SpellsAt text k b → ⊥))
Unspelled text NoMemory = Unit {0}

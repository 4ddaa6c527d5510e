-- Lines: the newline at the end, and the first tab.
use Rattle.std.specs.Prelude.{◌≡◌, ℕ, ◌+◌, ◌-◌, ◌<◌, List, length, take, drop, ◌≢◌, slice_index}

-- The line's last byte is a newline.
abbrev pub Ended : List ℕ → Type 0
Ended line = (0 < length line) × (slice_index line (length line - 1) ≡ 10)

-- No tab stands below the place.
abbrev pub NoTabBelow : ℕ → List ℕ → Type 0
NoTabBelow i line = (k : ℕ) → k < i → slice_index line k ≢ 9

-- The first tab of the line stands at the place.
abbrev pub FirstTab : ℕ → List ℕ → Type 0
FirstTab i line = (i < length line) × (slice_index line i ≡ 9) × NoTabBelow i line

-- The line is cut at its first tab.
abbrev pub Cut : List ℕ → List ℕ → List ℕ → Type 0
Cut line before after = (i : ℕ) × FirstTab i line × (before ≡ take i line) × (after ≡ drop (i + 1) line)

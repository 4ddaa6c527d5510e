-- What holds of the scan, in the table's own terms.
use Rattle.std.specs.Prelude.{◌≡◌, ℕ, ◌↔◌, List, drop, Some, None, IsUtf8, Option}
use Rattle.utf8.specs.Table.{WellFormed, IllFormed}
use Rattle.utf8.specs.Scan.{ill_formed}

-- nothing ill formed is found just where the text is well formed
abbrev pub Accepts : Type 0
Accepts = (c : List ℕ) → (ill_formed c ≡ None) ↔ WellFormed c

-- what is found is the first place where no sequence of the table begins
abbrev pub Locates : Type 0
Locates = (c t : List ℕ) → ill_formed c ≡ Some t → IllFormed c t

-- the table accepts exactly the texts that are the bytes of Unicode's scalar values
abbrev pub Standard : Type 0
Standard = (c : List ℕ) → WellFormed c ↔ IsUtf8 c

-- what an answer says of the text
abbrev pub Tells : List ℕ → Option ℕ → Type 0
Tells c None = WellFormed c
Tells c (Some i) = IllFormed c (drop i c)

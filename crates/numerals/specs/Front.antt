-- The first byte of a line.
use Rattle.std.specs.Prelude.{ℕ, Bool, false, List, [], ◌∷◌, ◌==◌}

abbrev pub starts_with : ℕ → List ℕ → Bool
starts_with x [] = false
starts_with x (b ∷ c) = b == x

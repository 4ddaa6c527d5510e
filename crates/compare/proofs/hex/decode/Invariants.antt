-- So far each byte is what its two characters spell.
use Rattle.std.proofs.Common.{◌≡◌, ℕ, ◌<◌, length, get_or, vec_items}
use Rattle.compare.specs.Hex.{SpellsAt}
use Rattle.compare.proofs.hex.decode.Given as goal

abbrev pub invariant-loop-pair : goal.invariant-loop-pair
invariant-loop-pair l =
    (length (vec_items l.bytes) ≡ l.pair-index) ×
    ((k : ℕ) → k < l.pair-index → SpellsAt l.text k (get_or (vec_items l.bytes) k 0))

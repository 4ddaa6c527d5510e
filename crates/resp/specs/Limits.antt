-- The limits of the wire, each stated here alone.
use Rattle.std.specs.Prelude.{ℕ}

-- bytes of a line
abbrev pub line_most : ℕ
line_most = 1024

-- bytes of a body
abbrev pub length_most : ℕ
length_most = 60000

-- items of an array, a set or a push
abbrev pub items_most : ℕ
items_most = 4096

-- pairs of a map or an attribute
abbrev pub pairs_most : ℕ
pairs_most = 2048

-- levels of a reply; the outermost counts
abbrev pub deepest : ℕ
deepest = 32

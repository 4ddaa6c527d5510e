-- The tree of a view, and the bytes that hold it.
use Rattle.std.specs.Prelude.{◌≡◌, ℕ, List, take, drop, Some}
use Rattle.resp.specs.Node.{Node}
use Rattle.reply.specs.Find.{find}
use Rattle.reply.specs.Inside.{Inside}
use Rattle.reply.specs.Parted.{part_of}
use Rattle.reply.specs.Parts.{spot_of}
use Rattle.reply.specs.Says.{Says}

-- The bytes at each part's place are its text, and each part is found where it begins.
pub record Held (bs : List ℕ) (tree : Node) : Type 0 where
  pub texts : (n : Node) → Inside n tree → Says n (take (part_of n).len (drop (part_of n).start bs))
  pub found : (n : Node) → Inside n tree → find (spot_of n) tree ≡ Some n

-- The parts of a reply, at any depth.
use Rattle.std.specs.Prelude.{List, ◌∷◌}
use Rattle.resp.specs.Node.{Node}
use Rattle.reply.specs.Parts.{inner_of}

pub data Among : Node → List Node → Type 0 where
  first : {n : Node} {ns : List Node} → Among n (n ∷ ns)
  later : {n m : Node} {ns : List Node} → Among n ns → Among n (m ∷ ns)

-- the part is the tree itself, or is inside what stands right below it
pub data Inside : Node → Node → Type 0 where
  itself : {n : Node} → Inside n n
  below : {part m n : Node} → Among m (inner_of n) → Inside part m → Inside part n

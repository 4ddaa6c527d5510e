-- The names of the shapes.
use Rattle.std.specs.Prelude.{ℕ, List, codes}
use Rattle.compare.specs.declared.shape.Shape.{Shape}
use Rattle.compare.specs.declared.shape.Shape.TheVariants.{Wire}

abbrev pub name_of : Shape → List ℕ
name_of Wire = codes "wire"

-- What rows inside another shape are: a place, and a count.
use Rattle.std.specs.Prelude.{◌≡◌, ℕ, List, length, Ok, Result}
use Rattle.resp.specs.Node.{Node}
use Rattle.reply.specs.declared.view.Reply.{Reply}
use Rattle.reply.specs.Inside.{Inside}
use Rattle.reply.specs.Parts.{spot_of}
use Rattle.reply.specs.View.{node_of}
use Rattle.kinds.specs.declared.fault.Fault.{Fault}
use Rattle.collections.specs.declared.listed.Listed.{Listed}
use Rattle.collections.specs.Picks.{picked, row_at}
use Rattle.collections.specs.Steps.{nth_in}

-- The place is the reply's and the count that of its rows; and in any reply that it is a part of, the rows at that place are just
-- these: row i for each i below the count, and none from there on.
pub record Counted {V : Type 0} (rows : Node → Result (List V) Fault) (n : Node) (v : Listed V) : Type 0 where
  pub place : v.spot ≡ spot_of n
  pub all : List V
  pub read : rows n ≡ Ok all
  pub count : v.count ≡ length all
  pub picks : (whole : Reply) → Inside n (node_of whole) → (i : ℕ) → row_at rows v.spot i (node_of whole) ≡ picked (nth_in i (Ok all))

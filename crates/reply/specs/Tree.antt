-- Which tree begins at a place of the bytes.
use Rattle.std.specs.Prelude.{◌≡◌, ℕ, ◌≤◌, Bool, true, false, List, [], length, drop}
use Rattle.resp.specs.Limits.{deepest}
use Rattle.resp.specs.Out.{Out, ok, fault, map_out}
use Rattle.resp.specs.Reply.{Nil}
use Rattle.resp.specs.Reading.{items, pair}
use Rattle.resp.specs.Node.{Node, OneAt, reading, offset}
use Rattle.reply.specs.Parts.{pair_node}

-- a reply, or two of them as a pair
abbrev pub view : (List ℕ → ℕ) → Bool → List ℕ → Out Node
view at false l = reading at deepest l
view at true l = map_out pair_node (pair (reading at deepest) l)

abbrev pub view_at : List ℕ → Bool → ℕ → Out Node
view_at bs m p = view (offset (length bs)) m (drop p bs)

abbrev pub row_at : List ℕ → Bool → ℕ → ℕ → Out (List Node)
row_at bs m p n = items (view (offset (length bs)) m) n (drop p bs)

abbrev pub is_read : {A : Type 0} → Out A → Bool
is_read (ok a rest) = true
is_read (fault k at) = false

abbrev pub read_or : {A : Type 0} → A → Out A → A
read_or a (ok b rest) = b
read_or a (fault k at) = a

-- the tree there; nil where there is none. Shut, since it computes through all levels.
unfoldable pub node_at : List ℕ → Bool → ℕ → Node
node_at bs m p = read_or (OneAt p p Nil) (view_at bs m p)

unfoldable pub nodes_at : List ℕ → Bool → ℕ → ℕ → List Node
nodes_at bs m p n = read_or [] (row_at bs m p n)

-- what a view's invariant says: shut outside this crate
unfoldable pub wholly : List ℕ → Bool → ℕ → Bool
wholly bs m p = is_read (view_at bs m p)

unfoldable pub wholly_row : List ℕ → Bool → ℕ → ℕ → Bool
wholly_row bs m p n = is_read (row_at bs m p n)

-- the view of m at p ends before e
pub record Ended (bs : List ℕ) (m : Bool) (p e : ℕ) : Type 0 where
  pub tree : Node
  pub reads : view_at bs m p ≡ ok tree (drop e bs)
  pub inside : e ≤ length bs

-- so many views of m from p on end before e
pub record RowEnded (bs : List ℕ) (m : Bool) (p n e : ℕ) : Type 0 where
  pub trees : List Node
  pub reads : row_at bs m p n ≡ ok trees (drop e bs)
  pub inside : e ≤ length bs

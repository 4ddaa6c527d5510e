-- The row of replies, or of pairs, right below a reply.
use Rattle.std.specs.Prelude.{◌≡◌, ℕ, ◌+◌, ◌*◌, ◌/◌, ◌≤◌, Bool, true, false, cond, List, length}
use Rattle.resp.specs.declared.case.Case.{Case}
use Rattle.resp.specs.declared.case.Case.TheVariants.{Nil, Int, BulkString, Array, SimpleString, Okay, Map, Attribute, Set, Double, Boolean, VerbatimString, BigNumber, Push, ServerError}
use Rattle.resp.specs.Limits.{items_most}
use Rattle.reply.specs.declared.open.Row.{Row}
use Rattle.reply.specs.declared.view.Items.{Items}
use Rattle.reply.specs.Parts.{is_attribute, parts_of, flat_of, inner_of, unwrapped}
use Rattle.reply.specs.Tree.{wholly, wholly_row, node_at, nodes_at, Ended, RowEnded}

-- by its case, and the count of replies that stand below it from `at` on
abbrev pub row_from : Case → ℕ → ℕ → Row
row_from Array at n = record { at = at; left = n; pairs = false }
row_from Set at n = record { at = at; left = n; pairs = false }
row_from Push at n = record { at = at; left = n; pairs = false }
row_from Map at n = record { at = at; left = n / 2; pairs = true }
row_from Attribute at n = record { at = at; left = n / 2; pairs = true }
row_from Nil at n = record { at = at; left = 0; pairs = false }
row_from Int at n = record { at = at; left = 0; pairs = false }
row_from BulkString at n = record { at = at; left = 0; pairs = false }
row_from SimpleString at n = record { at = at; left = 0; pairs = false }
row_from Okay at n = record { at = at; left = 0; pairs = false }
row_from Double at n = record { at = at; left = 0; pairs = false }
row_from Boolean at n = record { at = at; left = 0; pairs = false }
row_from VerbatimString at n = record { at = at; left = 0; pairs = false }
row_from BigNumber at n = record { at = at; left = 0; pairs = false }
row_from ServerError at n = record { at = at; left = 0; pairs = false }

-- a row without its bytes
abbrev pub row_of : Items → Row
row_of i = record { at = i.at; left = i.left; pairs = i.pairs }

-- how many replies a row of so many is
abbrev pub singles : Bool → ℕ → ℕ
singles pairs n = cond pairs (2 * n) n

-- the row of all that stands right below: of an attribute its keys and values, and then its data
abbrev pub inner_row : Bool → Row → Row
inner_row attribute r = cond attribute (record { at = r.at; left = 2 * r.left + 1; pairs = false }) r

-- the row has all that stands right below the view of m at p, and ends where the view does
pub record Inner (bs : List ℕ) (m : Bool) (p : ℕ) (r : Row) : Type 0 where
  pub whole : wholly_row bs r.pairs r.at r.left ≡ true
  pub inside : r.at ≤ length bs
  pub from : p ≤ r.at
  pub parts : nodes_at bs r.pairs r.at r.left ≡ inner_of (node_at bs m p)
  pub ends : (e : ℕ) → Ended bs m p e → RowEnded bs r.pairs r.at r.left e

-- the row is that of the reply at p
pub record Opened (bs : List ℕ) (p : ℕ) (r : Row) : Type 0 where
  pub whole : wholly_row bs r.pairs r.at r.left ≡ true
  pub inside : r.at ≤ length bs
  pub parts : nodes_at bs r.pairs r.at r.left ≡ parts_of (node_at bs false p)
  -- an attribute's data begins where its pairs end
  pub below : is_attribute (node_at bs false p) ≡ true → (e : ℕ) → RowEnded bs r.pairs r.at r.left e
      → (wholly bs false e ≡ true) × (node_at bs false e ≡ unwrapped (node_at bs false p))

-- the row with no pair by itself, and the row of all that stands right below the reply at p
pub record Spread (bs : List ℕ) (p : ℕ) (r : Row) : Type 0 where
  pub few : r.left ≤ items_most
  pub singly : wholly_row bs false r.at (singles r.pairs r.left) ≡ true
  pub flat : nodes_at bs false r.at (singles r.pairs r.left) ≡ flat_of (node_at bs false p)
  pub inner : Inner bs false p (inner_row (is_attribute (node_at bs false p)) r)

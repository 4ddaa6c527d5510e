-- The rows of a list.
use Rattle.std.specs.Prelude.{ℕ, Bool, List, [], Some, None, Ok, Err, Option, Result}
use Rattle.resp.specs.declared.case.Case.{Case}
use Rattle.resp.specs.declared.case.Case.TheVariants as case
use Rattle.resp.specs.Node.{Node}
use Rattle.reply.specs.declared.spot.Spot.{Spot}
use Rattle.reply.specs.Parts.{parts_of, spot_of}
use Rattle.reply.specs.View.{nodes_of}
use Rattle.kinds.specs.declared.fault.ElementReason.TheVariants.{Kind}
use Rattle.kinds.specs.declared.fault.Fault.{Fault}
use Rattle.kinds.specs.Fault.{refused}
use Rattle.kinds.specs.Rows.{and_then, bytes_of, counted, cuts, many_by, many_of, mapped}
use Rattle.kinds.specs.Texts.{case_at, text_in}
use Rattle.collections.specs.declared.cursor.Cursor.{Cursor}
use Rattle.collections.specs.declared.cursor.Cursor.TheVariants.{Each, Cut, Bytes, Distinct}
use Rattle.collections.specs.declared.listed.Listed.{Listed}

-- rows as a value inside another shape: the place of the reply handed in, and their count
abbrev pub listed_at : {V : Type 0} → Spot → ℕ → Listed V
listed_at p n = record { spot = p; count = n; of = record {} }

abbrev pub listed_one : {V : Type 0} → (Node → Result (List V) Fault) → Node → Result (Listed V) Fault
listed_one rows n = and_then (counted (rows n)) (λ c. Ok (listed_at (spot_of n) c))

-- A list of a kind: `bytes` is what a byte string reads as, `many` what replies read as, `each` each of them by itself.
abbrev pub list_by : {V : Type 0} → Spot → Result (List V) Fault → Result (List V) Fault → Result (List V) Fault → Case → Result (List V) Fault
list_by p bytes many each case.Nil = Ok []
list_by p bytes many each case.Int = Err (refused Kind p)
list_by p bytes many each case.BulkString = bytes
list_by p bytes many each case.Array = many
list_by p bytes many each case.SimpleString = Err (refused Kind p)
list_by p bytes many each case.Okay = Err (refused Kind p)
list_by p bytes many each case.Map = each
list_by p bytes many each case.Attribute = Err (refused Kind p)
list_by p bytes many each case.Set = many
list_by p bytes many each case.Double = Err (refused Kind p)
list_by p bytes many each case.Boolean = Err (refused Kind p)
list_by p bytes many each case.VerbatimString = Err (refused Kind p)
list_by p bytes many each case.BigNumber = Err (refused Kind p)
list_by p bytes many each case.Push = Err (refused Kind p)
list_by p bytes many each case.ServerError = Err (refused Kind p)

abbrev pub list_rows : {V : Type 0} → (Node → Result V Fault) → (List Node → Bool) → ℕ → (Spot → List Node → Result V Fault) → Option (ℕ → V) → Node → Result (List V) Fault
list_rows one flat more joined bytewise n =
    list_by (spot_of n) (bytes_of bytewise (one n) (text_in n)) (many_of one (flat (parts_of n)) more joined (parts_of n)) (many_by one (parts_of n)) (case_at n)

-- what is left of it at a cursor
abbrev pub bytes_left : {V : Type 0} → Option (ℕ → V) → List ℕ → Result (List V) Fault
bytes_left (Some f) s = Ok (mapped f s)
bytes_left None s = Ok []

abbrev pub list_left : {V : Type 0} → (Node → Result V Fault) → ℕ → (Spot → List Node → Result V Fault) → Option (ℕ → V) → Cursor → Result (List V) Fault
list_left one more joined bytewise (Each d) = many_by one (nodes_of d.rest)
list_left one more joined bytewise (Cut c) = many_by (joined c.first) (cuts more (nodes_of c.replies.rest))
list_left one more joined bytewise (Bytes text) = bytes_left bytewise text.now
list_left one more joined bytewise (Distinct d) = many_by one (nodes_of d.rest)

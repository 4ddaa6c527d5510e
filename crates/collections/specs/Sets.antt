-- The rows of a set: of equal members the first stays.
use Rattle.std.specs.Prelude.{suc, ◌-◌, Bool, false, cond, ◌||◌, List, [], ◌∷◌, length, take, Ok, Err, Result}
use Rattle.resp.specs.declared.case.Case.{Case}
use Rattle.resp.specs.declared.case.Case.TheVariants as case
use Rattle.resp.specs.Node.{Node}
use Rattle.reply.specs.declared.spot.Spot.{Spot}
use Rattle.reply.specs.Parts.{parts_of, spot_of, unwrapped}
use Rattle.reply.specs.View.{nodes_of}
use Rattle.kinds.specs.declared.fault.ElementReason.TheVariants.{Kind}
use Rattle.kinds.specs.declared.fault.Fault.{Fault}
use Rattle.kinds.specs.Fault.{refused}
use Rattle.kinds.specs.Rows.{and_then, many_by}
use Rattle.kinds.specs.Texts.{case_at}
use Rattle.collections.specs.declared.cursor.Cursor.{Cursor}
use Rattle.collections.specs.declared.cursor.Cursor.TheVariants.{Each, Cut, Bytes, Distinct}

-- one of some replies is like n
abbrev pub seen_in : (Node → Node → Bool) → Node → List Node → Bool
seen_in alike n [] = false
seen_in alike n (m ∷ ms) = alike m n || seen_in alike n ms

-- Of the last replies of `all`, those that are like none before them.
abbrev pub firsts_in : (Node → Node → Bool) → List Node → List Node → List Node
firsts_in alike all [] = []
firsts_in alike all (n ∷ ns) = cond (seen_in alike n (take (length all - suc (length ns)) all)) (firsts_in alike all ns) (n ∷ firsts_in alike all ns)

-- the first of each class
abbrev pub firsts : (Node → Node → Bool) → List Node → List Node
firsts alike ns = firsts_in alike ns ns

-- all are read, and the first of each class stays
abbrev pub set_of : {V : Type 0} → (Node → Result V Fault) → (Node → Node → Bool) → List Node → Result (List V) Fault
set_of one alike ns = and_then (many_by one ns) (λ read. many_by one (firsts alike ns))

abbrev pub set_by : {V : Type 0} → Spot → Result (List V) Fault → Case → Result (List V) Fault
set_by p r case.Nil = Ok []
set_by p r case.Int = Err (refused Kind p)
set_by p r case.BulkString = Err (refused Kind p)
set_by p r case.Array = r
set_by p r case.SimpleString = Err (refused Kind p)
set_by p r case.Okay = Err (refused Kind p)
set_by p r case.Map = Err (refused Kind p)
set_by p r case.Attribute = Err (refused Kind p)
set_by p r case.Set = r
set_by p r case.Double = Err (refused Kind p)
set_by p r case.Boolean = Err (refused Kind p)
set_by p r case.VerbatimString = Err (refused Kind p)
set_by p r case.BigNumber = Err (refused Kind p)
set_by p r case.Push = Err (refused Kind p)
set_by p r case.ServerError = Err (refused Kind p)

abbrev pub set_rows : {V : Type 0} → (Node → Result V Fault) → (Node → Node → Bool) → Node → Result (List V) Fault
set_rows one alike n = set_by (spot_of n) (set_of one alike (parts_of (unwrapped n))) (case_at (unwrapped n))

-- what is left of it at a cursor; a set has no bytes
abbrev pub set_left : {V : Type 0} → (Node → Result V Fault) → (Node → Node → Bool) → Cursor → Result (List V) Fault
set_left one alike (Each d) = many_by one (firsts_in alike (nodes_of d.all) (nodes_of d.rest))
set_left one alike (Cut c) = many_by one (firsts_in alike (nodes_of c.replies.all) (nodes_of c.replies.rest))
set_left one alike (Bytes text) = Ok []
set_left one alike (Distinct d) = many_by one (firsts_in alike (nodes_of d.all) (nodes_of d.rest))

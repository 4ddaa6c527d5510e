-- The rows of a map: of equal keys the first stays, with the value of the last. Keys and values stand in one list, one after the
-- other.
use Rattle.std.specs.Prelude.{suc, ◌-◌, ◌%◌, Bool, false, cond, ◌||◌, List, [], ◌∷◌, length, take, Ok, Err, Result, ◌==◌}
use Rattle.resp.specs.declared.case.Case.{Case}
use Rattle.resp.specs.declared.case.Case.TheVariants as case
use Rattle.resp.specs.Node.{Node}
use Rattle.reply.specs.declared.spot.Spot.{Spot}
use Rattle.reply.specs.Parts.{flat_of, spot_of, unwrapped}
use Rattle.reply.specs.View.{nodes_of}
use Rattle.kinds.specs.declared.fault.ElementReason.TheVariants.{Kind}
use Rattle.kinds.specs.declared.fault.Fault.{Fault}
use Rattle.kinds.specs.Fault.{refused}
use Rattle.kinds.specs.Rows.{and_then, many_by}
use Rattle.kinds.specs.Texts.{case_at}
use Rattle.collections.specs.declared.cursor.Cursor.{Cursor}
use Rattle.collections.specs.declared.cursor.Cursor.TheVariants.{Each, Cut, Bytes, Distinct}

-- each key with its value; a last key without one is left out
abbrev pub entries : List Node → List (Node × Node)
entries [] = []
entries (k ∷ []) = []
entries (k ∷ v ∷ ns) = (k, v) ∷ entries ns

-- an entry: the key, then the value
abbrev pub entry_one : {A B : Type 0} → (Node → Result A Fault) → (Node → Result B Fault) → Node × Node → Result (A × B) Fault
entry_one key value e = and_then (key e.0) (λ k. and_then (value e.1) (λ v. Ok (k, v)))

-- one of the keys is like k
abbrev pub seen_key : (Node → Node → Bool) → Node → List Node → Bool
seen_key alike k [] = false
seen_key alike k (j ∷ []) = false
seen_key alike k (j ∷ v ∷ ns) = alike j k || seen_key alike k ns

-- the value of the last entry whose key is like k; v where there is none
abbrev pub last_for : (Node → Node → Bool) → Node → Node → List Node → Node
last_for alike k v [] = v
last_for alike k v (j ∷ []) = v
last_for alike k v (j ∷ w ∷ ns) = last_for alike k (cond (alike k j) w v) ns

-- of the last entries of `all`, those whose key is like none before it, with the last value of that key
abbrev pub merged_in : (Node → Node → Bool) → List Node → List Node → List (Node × Node)
merged_in alike all [] = []
merged_in alike all (k ∷ []) = []
merged_in alike all (k ∷ v ∷ ns) =
    cond (seen_key alike k (take (length all - suc (suc (length ns))) all)) (merged_in alike all ns) ((k, last_for alike k v ns) ∷ merged_in alike all ns)

abbrev pub merged : (Node → Node → Bool) → List Node → List (Node × Node)
merged alike ns = merged_in alike ns ns

-- all entries are read, and of each class of keys one stays
abbrev pub map_of : {A B : Type 0} → (Node → Result A Fault) → (Node → Result B Fault) → (Node → Node → Bool) → List Node → Result (List (A × B)) Fault
map_of key value alike ns = and_then (many_by (entry_one key value) (entries ns)) (λ read. many_by (entry_one key value) (merged alike ns))

-- an array of even length
abbrev pub evenly : {V : Type 0} → Spot → List Node → Result V Fault → Result V Fault
evenly p ns r = cond (length ns % 2 == 0) r (Err (refused Kind p))

abbrev pub map_by : {V : Type 0} → Spot → List Node → Result (List V) Fault → Case → Result (List V) Fault
map_by p ns r case.Nil = Ok []
map_by p ns r case.Int = Err (refused Kind p)
map_by p ns r case.BulkString = Err (refused Kind p)
map_by p ns r case.Array = evenly p ns r
map_by p ns r case.SimpleString = Err (refused Kind p)
map_by p ns r case.Okay = Err (refused Kind p)
map_by p ns r case.Map = r
map_by p ns r case.Attribute = Err (refused Kind p)
map_by p ns r case.Set = Err (refused Kind p)
map_by p ns r case.Double = Err (refused Kind p)
map_by p ns r case.Boolean = Err (refused Kind p)
map_by p ns r case.VerbatimString = Err (refused Kind p)
map_by p ns r case.BigNumber = Err (refused Kind p)
map_by p ns r case.Push = Err (refused Kind p)
map_by p ns r case.ServerError = Err (refused Kind p)

abbrev pub map_rows : {A B : Type 0} → (Node → Result A Fault) → (Node → Result B Fault) → (Node → Node → Bool) → Node → Result (List (A × B)) Fault
map_rows key value alike n = map_by (spot_of n) (flat_of (unwrapped n)) (map_of key value alike (flat_of (unwrapped n))) (case_at (unwrapped n))

-- the keys and values of what reads as a map, before any of them is read
abbrev pub map_items : Node → Result (List Node) Fault
map_items n = map_by (spot_of n) (flat_of (unwrapped n)) (Ok (flat_of (unwrapped n))) (case_at (unwrapped n))

-- what is left of it at a cursor; a map has no bytes
abbrev pub map_left : {A B : Type 0} → (Node → Result A Fault) → (Node → Result B Fault) → (Node → Node → Bool) → Cursor → Result (List (A × B)) Fault
map_left key value alike (Each d) = many_by (entry_one key value) (merged_in alike (nodes_of d.all) (nodes_of d.rest))
map_left key value alike (Cut c) = many_by (entry_one key value) (merged_in alike (nodes_of c.replies.all) (nodes_of c.replies.rest))
map_left key value alike (Bytes text) = Ok []
map_left key value alike (Distinct d) = many_by (entry_one key value) (merged_in alike (nodes_of d.all) (nodes_of d.rest))

-- What tuples read: so many replies, each by a kind of its own.
use Rattle.std.specs.Prelude.{ℕ, suc, Bool, true, false, cond, ◌&&◌, List, [], ◌∷◌, length, drop, Ok, Err, Result, ◌==◌}
use Rattle.resp.specs.declared.case.Case.{Case}
use Rattle.resp.specs.declared.case.Case.TheVariants as case
use Rattle.resp.specs.Node.{Node}
use Rattle.reply.specs.declared.spot.Spot.{Spot}
use Rattle.reply.specs.Parts.{flat_of, spot_of, unwrapped}
use Rattle.kinds.specs.declared.fault.ElementReason.TheVariants.{Kind, Count}
use Rattle.kinds.specs.declared.fault.Fault.{Fault}
use Rattle.kinds.specs.Fault.{refused}
use Rattle.kinds.specs.Rows.{and_then, first_by}
use Rattle.kinds.specs.Texts.{case_at}

-- The first of some replies by the first kind, the second by the second, and so on.
abbrev pub fields2 : {A B : Type 0} → (Node → Result A Fault) → (Node → Result B Fault) → List Node → Result (A × B) Fault
fields2 a b ns = and_then (first_by a ns) (λ x. and_then (first_by b (drop 1 ns)) (λ y. Ok (x, y)))

abbrev pub fields3 : {A B C : Type 0} → (Node → Result A Fault) → (Node → Result B Fault) → (Node → Result C Fault) → List Node → Result (A × B × C) Fault
fields3 a b c ns =
    and_then (first_by a ns) (λ x. and_then (first_by b (drop 1 ns)) (λ y. and_then (first_by c (drop 1 (drop 1 ns))) (λ z. Ok (x, y, z))))

abbrev pub fields4 : {A B C D : Type 0} → (Node → Result A Fault) → (Node → Result B Fault) → (Node → Result C Fault) → (Node → Result D Fault)
    → List Node → Result (A × B × C × D) Fault
fields4 a b c d ns =
    and_then (first_by a ns) (λ x. and_then (first_by b (drop 1 ns)) (λ y. and_then (first_by c (drop 1 (drop 1 ns)))
    (λ z. and_then (first_by d (drop 1 (drop 1 (drop 1 ns)))) (λ w. Ok (x, y, z, w)))))

-- whether a case holds replies that can be a tuple's
abbrev pub holds : Case → Bool
holds case.Nil = false
holds case.Int = false
holds case.BulkString = false
holds case.Array = true
holds case.SimpleString = false
holds case.Okay = false
holds case.Map = true
holds case.Attribute = false
holds case.Set = true
holds case.Double = false
holds case.Boolean = false
holds case.VerbatimString = false
holds case.BigNumber = false
holds case.Push = false
holds case.ServerError = false

-- one reply and m more; any other count is refused at p
abbrev pub exactly : {V : Type 0} → ℕ → Spot → (List Node → Result V Fault) → List Node → Result V Fault
exactly m p fields ns = cond (length ns == suc m) (fields ns) (Err (refused Count p))

-- a tuple from the items of an array or a set, or the keys and values of a map
abbrev pub tuple_one : {V : Type 0} → ℕ → (List Node → Result V Fault) → Node → Result V Fault
tuple_one m fields n =
    cond (holds (case_at (unwrapped n))) (exactly m (spot_of n) fields (flat_of (unwrapped n))) (Err (refused Kind (spot_of n)))

-- an array, a set or a map that holds one reply and m more; an attribute around one is none
abbrev pub is_tuple : ℕ → Node → Bool
is_tuple m n = holds (case_at n) && length (flat_of n) == suc m

-- a list that has anything else in it is cut flat
abbrev pub tuple_flat : ℕ → List Node → Bool
tuple_flat m [] = false
tuple_flat m (n ∷ ns) = cond (is_tuple m n) (tuple_flat m ns) true

-- a tuple from one cut of such a list, whose first reply is at p
abbrev pub tuple_joined : {V : Type 0} → ℕ → (List Node → Result V Fault) → Spot → List Node → Result V Fault
tuple_joined m fields p ns = exactly m p fields ns

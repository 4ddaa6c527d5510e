-- The rows of what reads as a map, by its keys and values.
use Rattle.std.proofs.Common.{◌≡◌, Bool, true, false, List, [], Ok, Err, Result, refl, ap, ◌∙◌, eqb, length, ◌%◌, cond}
use Rattle.resp.specs.declared.case.Case.{Case}
use Rattle.resp.specs.declared.case.Case.TheVariants as case
use Rattle.resp.specs.Node.{Node}
use Rattle.reply.specs.declared.spot.Spot.{Spot}
use Rattle.reply.specs.Parts.{flat_of, spot_of, unwrapped}
use Rattle.kinds.specs.declared.fault.ElementReason.TheVariants.{Kind}
use Rattle.kinds.specs.declared.fault.Fault.{Fault}
use Rattle.kinds.specs.Fault.{refused}
use Rattle.kinds.specs.Rows.{and_then}
use Rattle.kinds.specs.Texts.{case_at}
use Rattle.collections.specs.Maps.{map_by, map_items}

-- first the keys and values, then what is made of them
in_two : {V : Type 0} (p : Spot) (ns : List Node) (f : List Node → Result (List V) Fault) → Ok [] ≡ f [] → (k : Case) → map_by p ns (f ns) k ≡ and_then (map_by p ns (Ok ns) k) f
in_two p ns f none case.Nil = none
in_two p ns f none case.Int = refl
in_two p ns f none case.BulkString = refl
in_two p ns f none case.Array = by (eqb (length ns % 2) 0)
  where
    by : (t : Bool) → cond t (f ns) (Err (refused Kind p)) ≡ and_then (cond t (Ok ns) (Err (refused Kind p))) f
    by true = refl
    by false = refl
in_two p ns f none case.SimpleString = refl
in_two p ns f none case.Okay = refl
in_two p ns f none case.Map = refl
in_two p ns f none case.Attribute = refl
in_two p ns f none case.Set = refl
in_two p ns f none case.Double = refl
in_two p ns f none case.Boolean = refl
in_two p ns f none case.VerbatimString = refl
in_two p ns f none case.BigNumber = refl
in_two p ns f none case.Push = refl
in_two p ns f none case.ServerError = refl

pub made_of : {V : Type 0} (f : List Node → Result (List V) Fault) → Ok [] ≡ f [] → (n : Node) (ms : List Node) → map_items n ≡ Ok ms
    → map_by (spot_of n) (flat_of (unwrapped n)) (f (flat_of (unwrapped n))) (case_at (unwrapped n)) ≡ f ms
made_of f none n ms e = in_two (spot_of n) (flat_of (unwrapped n)) f none (case_at (unwrapped n)) ∙ ap (λ o. and_then o f) e

-- What a refusal leads to.
use Rattle.std.proofs.Common.{◌≡◌, ◌≢◌, ℕ, List, Some, None, Ok, Err, Option, Result, sym, ap, ◌∙◌, Float}
use Rattle.decimals.specs.declared.fault.FloatFault.{FloatFault}
use Rattle.reply.specs.declared.spot.Spot.{Spot}
use Rattle.resp.specs.declared.case.Case.{Case}
use Rattle.resp.specs.declared.case.Case.TheVariants.{BulkString, Int}
use Rattle.resp.specs.Node.{Node}
use Rattle.utf8.specs.Scan.{ill_formed}
use Rattle.kinds.specs.declared.fault.Fault.{Fault}
use Rattle.kinds.specs.Numbers.{float_or}
use Rattle.kinds.specs.Plain.{utf8_by}
use Rattle.kinds.specs.Texts.{case_at, text_in}

-- a float that was read goes on, and a refusal stays
pub float_ok : {V : Type 0} (p : Spot) (k : Float → Result V Fault) (r : Result Float FloatFault) (x : Float) → float_or p Ok r ≡ Ok x → k x ≡ float_or p k r
float_ok p k (Ok y) x e = let same : y ≡ x = cc in ap k (sym same)
float_ok p k (Err f) x e = absurd cc

pub float_err : {V : Type 0} (p : Spot) (k : Float → Result V Fault) (r : Result Float FloatFault) (f : Fault) → float_or p Ok r ≡ Err f → Err f ≡ float_or p k r
float_err p k (Ok y) f e = absurd cc
float_err p k (Err g) f e = let same : _ ≡ f = cc in ap Err (sym same)

-- a text that is not UTF-8 is refused, whatever would be read of it
utf8_err : {V : Type 0} (p : Spot) (o : Option (List ℕ)) (f : Fault) (r : Result V Fault) → utf8_by p o (Ok (tt {0})) ≡ Err f → Err f ≡ utf8_by p o r
utf8_err p None f r e = absurd cc
utf8_err p (Some t) f r e = let same : _ ≡ f = cc in ap Err (sym same)

-- and so is a bulk string, by whatever reads it
pub bulk_refused : {V : Type 0} (p : Spot) (n m : Node) (x : List ℕ) (f : Fault) (by : Node → Case → Result V Fault) (r : Result V Fault)
    → BulkString ≡ case_at n → (case_at n ≢ Int → x ≡ text_in n) → utf8_by p (ill_formed x) (Ok (tt {0})) ≡ Err f → n ≡ m → by n BulkString ≡ utf8_by p (ill_formed (text_in n)) r
    → Err f ≡ by m (case_at m)
bulk_refused p n m x f by r case text e same is =
    let other : case_at n ≢ Int = λ i. cc in
    utf8_err p (ill_formed (text_in n)) f r (ap (λ t. utf8_by p (ill_formed t) (Ok (tt {0}))) (sym (text other)) ∙ e) ∙ sym is ∙ ap (by n) case ∙ ap (λ n. by n (case_at n)) same

-- A row at a place, and the text under a name.
use Rattle.std.specs.Prelude.{◌≡◌, ℕ, Bool, cond, List, [], ◌∷◌, Some, None, Ok, Err, Option, Result, MatchResult}
use Rattle.std.specs.Borrow.{Bor}
use Rattle.resp.specs.Node.{Node}
use Rattle.reply.specs.declared.view.Reply.{Reply}
use Rattle.reply.specs.declared.spot.Spot.{Spot}
use Rattle.reply.specs.Find.{find}
use Rattle.reply.specs.Parts.{flat_of, spot_of, unwrapped}
use Rattle.reply.specs.Says.{Says}
use Rattle.reply.specs.View.{node_of}
use Rattle.kinds.specs.declared.fault.Fault.{Fault}
use Rattle.kinds.specs.declared.fault.Fault.TheVariants.{Intake}
use Rattle.kinds.specs.declared.fault.IntakeReason.TheVariants.{Pick}
use Rattle.kinds.specs.Plain.{text_one, value_one}
use Rattle.kinds.specs.Rows.{and_then, many_by}
use Rattle.kinds.specs.Same.{key_of_text, same_key, text_key}
use Rattle.kinds.specs.Texts.{case_at}
use Rattle.collections.specs.Maps.{entries, entry_one, map_by}
use Rattle.collections.specs.Steps.{nth_in}

-- the row, if there is one
abbrev pub picked : {V : Type 0} → Result (Option V) Fault → Result V Fault
picked (Ok (Some v)) = Ok v
picked (Ok None) = Err (Intake Pick)
picked (Err f) = Err f

-- the row i of what begins at a place
abbrev pub row_of : {V : Type 0} → (Node → Result (List V) Fault) → ℕ → Option Node → Result V Fault
row_of rows i None = Err (Intake Pick)
row_of rows i (Some n) = picked (nth_in i (rows n))

abbrev pub row_at : {V : Type 0} → (Node → Result (List V) Fault) → Spot → ℕ → Node → Result V Fault
row_at rows s i tree = row_of rows i (find s tree)

-- the key's text is the name
abbrev pub is_named : List ℕ → Node → Bool
is_named name k = same_key (text_key (unwrapped k)) (key_of_text name)

-- the value of the last entry of that name, alone; nothing where there is none
abbrev pub last_named_from : List ℕ → List Node → List Node → List Node
last_named_from name found [] = found
last_named_from name found (k ∷ []) = found
last_named_from name found (k ∷ v ∷ ns) = last_named_from name (cond (is_named name k) (v ∷ []) found) ns

abbrev pub last_named : List ℕ → List Node → List Node
last_named name ns = last_named_from name [] ns

-- the value under a name of a map from text to replies: all entries are read first
abbrev pub named : List ℕ → List Node → Result (List Node) Fault
named name ns = and_then (many_by (entry_one text_one value_one) (entries ns)) (λ read. Ok (last_named name ns))

abbrev pub value_under : List ℕ → Node → Result (List Node) Fault
value_under name n = map_by (spot_of n) (flat_of (unwrapped n)) (named name (flat_of (unwrapped n))) (case_at (unwrapped n))

-- what is answered of the value v: its text, or the text's refusal
abbrev pub TextOf : Node → {P : Type 0} → Result P Fault → Result (Bor (List ℕ)) Fault → Type 0
TextOf v (Ok part) (Ok s) = Says (unwrapped v) s.now
TextOf v (Ok part) (Err f) = ⊥
TextOf v (Err e) r = r ≡ Err e

-- what is answered of the value under a name, if there is one; else the fallback itself
abbrev pub Under : Bor (List ℕ) → Result (List Node) Fault → Result (Bor (List ℕ)) Fault → Type 0
Under fallback (Err e) r = r ≡ Err e
Under fallback (Ok []) r = r ≡ Ok fallback
Under fallback (Ok (v ∷ vs)) r = TextOf v (text_one v) r

-- what was found, as a list
abbrev pub found_nodes : Option Reply → List Node
found_nodes (Some value) = node_of value ∷ []
found_nodes None = []

-- an answer of the value under a name, if there is one, or of a refusal
abbrev pub NamedAs : Result (List Node) Fault → Result (Option Reply) Fault → Type 0
NamedAs r a = MatchResult a (λ value. r ≡ Ok (found_nodes value)) (λ fault. r ≡ Err fault)

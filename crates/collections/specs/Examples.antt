-- Worked examples: bytes, and what a kind or a list reads of the tree that begins them.
use Rattle.std.specs.Prelude.{◌≡◌, ℕ, false, List, [], ◌∷◌, ◌++◌, ℤ, pos, Some, None, Ok, Err, codes, Option, Result}
use Rattle.resp.specs.Answer.{located}
use Rattle.resp.specs.Grammar.{crlf}
use Rattle.resp.specs.Node.{Node}
use Rattle.resp.specs.Out.{Out, ok, fault}
use Rattle.reply.specs.declared.spot.Spot.{Spot}
use Rattle.kinds.specs.declared.fault.Fault.{Fault}
use Rattle.kinds.specs.declared.fault.Fault.TheVariants.{Intake, Wire, Element, Record}
use Rattle.kinds.specs.Fault.{element_number}
use Rattle.kinds.specs.Numbers.{i64_bounds, i8_bounds, integer_one, natural_one, u8_bounds}
use Rattle.kinds.specs.Plain.{option_one, value_one}
use Rattle.kinds.specs.Tuples.{fields2, fields3, tuple_flat, tuple_joined, tuple_one}
use Rattle.collections.specs.Lists.{list_rows}

-- what is read of the reply that begins the bytes, if one does
abbrev pub read_of : {V : Type 0} → (Node → Result V Fault) → Out Node → Option (Result V Fault)
read_of one (ok n rest) = Some (one n)
read_of one (fault k at) = None

abbrev pub read_in : {V : Type 0} → (Node → Result V Fault) → List ℕ → Option (Result V Fault)
read_in one bs = read_of one (located bs)

-- the number and the place of a kind's refusal
abbrev pub refusal_of : Fault → Option (ℕ × ℕ)
refusal_of (Element f) = Some (element_number f.reason, f.spot.at)
refusal_of (Intake r) = None
refusal_of (Wire f) = None
refusal_of (Record f) = None

abbrev pub told : {V : Type 0} → Option (Result V Fault) → Option (ℕ × ℕ)
told None = None
told (Some (Ok v)) = None
told (Some (Err f)) = refusal_of f

-- the bytes are refused so
abbrev pub Refuses : {V : Type 0} → (Node → Result V Fault) → List ℕ → ℕ → ℕ → Type 0
Refuses one bs number place = told (read_in one bs) ≡ Some (number, place)

-- the bytes are read so
abbrev pub Reads : {V : Type 0} → (Node → Result V Fault) → List ℕ → V → Type 0
Reads one bs v = read_in one bs ≡ Some (Ok v)

-- a list of pairs of integers, and one of three replies each
abbrev pub pair_rows : Node → Result (List (ℤ × ℤ)) Fault
pair_rows =
    let fields = fields2 (integer_one i64_bounds) (integer_one i64_bounds) in
    list_rows (tuple_one 1 fields) (tuple_flat 1) 1 (tuple_joined 1 fields) None

abbrev pub triple_rows : Node → Result (List (Spot × Spot × Spot)) Fault
triple_rows =
    let fields = fields3 value_one value_one value_one in
    list_rows (tuple_one 2 fields) (tuple_flat 2) 2 (tuple_joined 2 fields) None

-- lines, each closed
abbrev pub lines : List (List ℕ) → List ℕ
lines [] = []
lines (l ∷ ls) = l ++ crlf ++ lines ls

-- the bytes of an integer of 130 within an attribute
abbrev pub wrapped130 : List ℕ
wrapped130 = lines (codes "|1" ∷ codes "+a" ∷ codes "+b" ∷ codes ":130" ∷ [])

abbrev pub flat_pairs : List ℕ
flat_pairs = lines (codes "*4" ∷ codes ":1" ∷ codes ":2" ∷ codes ":3" ∷ codes ":4" ∷ [])

-- two pairs, the first within an attribute
abbrev pub wrapped_pair : List ℕ
wrapped_pair =
    lines (codes "*2" ∷ codes "|1" ∷ codes "+a" ∷ codes "+b" ∷ codes "*2" ∷ codes ":1" ∷ codes ":2" ∷ codes "*2" ∷ codes ":3" ∷ codes ":4" ∷ [])

-- three maps of one pair
abbrev pub three_maps : List ℕ
three_maps =
    lines (codes "*3" ∷ codes "%1" ∷ codes "+a" ∷ codes ":1" ∷ codes "%1" ∷ codes "+b" ∷ codes ":2" ∷ codes "%1" ∷ codes "+c" ∷ codes ":3" ∷ [])

abbrev pub spot_at : ℕ → Spot
spot_at p = record { at = p; pair = false }

pub record Examples : Type 0 where
  pub nil : Refuses (natural_one u8_bounds) (lines (codes "_" ∷ [])) 20 0
  pub text : Refuses (natural_one u8_bounds) (lines (codes "$2" ∷ codes "4x" ∷ [])) 21 0
  pub range : Refuses (integer_one i8_bounds) (lines (codes ":130" ∷ [])) 23 0
  -- a refusal stands where the reply begins that was handed in, with its attribute or without
  pub around : Refuses (integer_one i8_bounds) wrapped130 23 0
  pub within : Refuses (option_one (integer_one i8_bounds)) wrapped130 23 12
  -- a list of integers is cut into pairs
  pub cut : Reads pair_rows flat_pairs ((pos 1, pos 2) ∷ (pos 3, pos 4) ∷ [])
  -- a pair within an attribute is no pair of such a list, so the list is cut, and its first reply is no integer
  pub attribute : Refuses pair_rows wrapped_pair 20 4
  -- three maps of one pair are one triple
  pub triple : Reads triple_rows three_maps ((spot_at 4, spot_at 16, spot_at 28) ∷ [])

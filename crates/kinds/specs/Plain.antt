-- What the plain kinds read.
use Rattle.std.specs.Prelude.{ℕ, Bool, true, false, cond, not, List, [], ◌∷◌, ℤ, pos, negsuc, Some, None, Ok, Err, Option, Result, ◌==◌}
use Rattle.resp.specs.declared.case.Case.{Case}
use Rattle.resp.specs.declared.case.Case.TheVariants as case
use Rattle.resp.specs.Node.{Node}
use Rattle.reply.specs.declared.spot.Spot.{Spot}
use Rattle.reply.specs.declared.part.Part.{Part}
use Rattle.reply.specs.Parts.{spot_of, unwrapped}
use Rattle.reply.specs.Parted.{integer_in, part_of}
use Rattle.utf8.specs.Scan.{ill_formed}
use Rattle.kinds.specs.declared.fault.ElementReason.TheVariants.{Kind, Text, NotUtf8}
use Rattle.kinds.specs.declared.fault.Fault.{Fault}
use Rattle.kinds.specs.Fault.{refused}
use Rattle.kinds.specs.Rows.{and_then}
use Rattle.kinds.specs.Texts.{case_at, text_in}

-- a text that is UTF-8; else a refusal for the reply at p
abbrev pub utf8_by : {V : Type 0} → Spot → Option (List ℕ) → Result V Fault → Result V Fault
utf8_by p None r = r
utf8_by p (Some t) r = Err (refused NotUtf8 p)

-- A text in place: p is the place of the reply handed in, t its text and x where that stands.
abbrev pub text_by : Spot → List ℕ → Part → Case → Result Part Fault
text_by p t x case.Nil = Err (refused Kind p)
text_by p t x case.Int = Ok x
text_by p t x case.BulkString = utf8_by p (ill_formed t) (Ok x)
text_by p t x case.Array = Err (refused Kind p)
text_by p t x case.SimpleString = Ok x
text_by p t x case.Okay = Ok x
text_by p t x case.Map = Err (refused Kind p)
text_by p t x case.Attribute = Err (refused Kind p)
text_by p t x case.Set = Err (refused Kind p)
text_by p t x case.Double = Err (refused Kind p)
text_by p t x case.Boolean = Err (refused Kind p)
text_by p t x case.VerbatimString = Ok x
text_by p t x case.BigNumber = Err (refused Kind p)
text_by p t x case.Push = Err (refused Kind p)
text_by p t x case.ServerError = Err (refused Kind p)

abbrev pub text_one : Node → Result Part Fault
text_one n = text_by (spot_of n) (text_in (unwrapped n)) (part_of (unwrapped n)) (case_at (unwrapped n))

-- the words 1 and 0
abbrev pub digit_bool : Spot → List ℕ → Result Bool Fault
digit_bool p [] = Err (refused Text p)
digit_bool p (b ∷ []) = cond (b == 49) (Ok true) (cond (b == 48) (Ok false) (Err (refused Text p)))
digit_bool p (b ∷ c ∷ t) = Err (refused Text p)

-- an integer other than 0
abbrev pub nonzero : Option ℤ → Bool
nonzero None = false
nonzero (Some (pos n)) = not (n == 0)
nonzero (Some (negsuc n)) = true

-- the letter of a boolean's line
abbrev pub is_true : List ℕ → Bool
is_true [] = false
is_true (b ∷ t) = b == 116

abbrev pub bool_by : Spot → Option ℤ → List ℕ → Case → Result Bool Fault
bool_by p z t case.Nil = Ok false
bool_by p z t case.Int = Ok (nonzero z)
bool_by p z t case.BulkString = digit_bool p t
bool_by p z t case.Array = Err (refused Kind p)
bool_by p z t case.SimpleString = digit_bool p t
bool_by p z t case.Okay = Ok true
bool_by p z t case.Map = Err (refused Kind p)
bool_by p z t case.Attribute = Err (refused Kind p)
bool_by p z t case.Set = Err (refused Kind p)
bool_by p z t case.Double = Err (refused Kind p)
bool_by p z t case.Boolean = Ok (is_true t)
bool_by p z t case.VerbatimString = Err (refused Kind p)
bool_by p z t case.BigNumber = Err (refused Kind p)
bool_by p z t case.Push = Err (refused Kind p)
bool_by p z t case.ServerError = Err (refused Kind p)

abbrev pub bool_one : Node → Result Bool Fault
bool_one n = bool_by (spot_of n) (integer_in (unwrapped n)) (text_in (unwrapped n)) (case_at (unwrapped n))

-- no value, of anything but an error
abbrev pub unit_by : Spot → Case → Result (Unit {0}) Fault
unit_by p case.Nil = Ok tt
unit_by p case.Int = Ok tt
unit_by p case.BulkString = Ok tt
unit_by p case.Array = Ok tt
unit_by p case.SimpleString = Ok tt
unit_by p case.Okay = Ok tt
unit_by p case.Map = Ok tt
unit_by p case.Attribute = Ok tt
unit_by p case.Set = Ok tt
unit_by p case.Double = Ok tt
unit_by p case.Boolean = Ok tt
unit_by p case.VerbatimString = Ok tt
unit_by p case.BigNumber = Ok tt
unit_by p case.Push = Ok tt
unit_by p case.ServerError = Err (refused Kind p)

abbrev pub unit_one : Node → Result (Unit {0}) Fault
unit_one n = unit_by (spot_of n) (case_at n)

-- any reply, as its place
abbrev pub value_one : Node → Result Spot Fault
value_one n = Ok (spot_of n)

-- nil as no value; else what the kind reads of what is left when one attribute is taken off
abbrev pub some : {V : Type 0} → Result V Fault → Result (Option V) Fault
some r = and_then r (λ v. Ok (Some v))

abbrev pub option_by : {V : Type 0} → Result V Fault → Case → Result (Option V) Fault
option_by r case.Nil = Ok None
option_by r case.Int = some r
option_by r case.BulkString = some r
option_by r case.Array = some r
option_by r case.SimpleString = some r
option_by r case.Okay = some r
option_by r case.Map = some r
option_by r case.Attribute = some r
option_by r case.Set = some r
option_by r case.Double = some r
option_by r case.Boolean = some r
option_by r case.VerbatimString = some r
option_by r case.BigNumber = some r
option_by r case.Push = some r
option_by r case.ServerError = some r

abbrev pub option_one : {V : Type 0} → (Node → Result V Fault) → Node → Result (Option V) Fault
option_one one n = option_by (one (unwrapped n)) (case_at (unwrapped n))

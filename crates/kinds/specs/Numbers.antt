-- What the number kinds read.
use Rattle.std.specs.Prelude.{◌≡◌, refl, ℕ, Bool, List, ℤ, pos, negsuc, ◌≤ℤ◌, Some, None, Ok, Err, Option, Result, int_lt, ok_or, unsigned_abs, Float}
use Rattle.decimals.specs.declared.fault.FloatFault.{FloatFault}
use Rattle.decimals.specs.Decimal.{read_double, read_float}
use Rattle.decimals.specs.Floats.{exact_float, whole_float_capped}
use Rattle.decimals.specs.Whole.{in_range, whole_capped}
use Rattle.resp.specs.declared.case.Case.{Case}
use Rattle.resp.specs.declared.case.Case.TheVariants as case
use Rattle.resp.specs.Node.{Node}
use Rattle.reply.specs.declared.spot.Spot.{Spot}
use Rattle.reply.specs.Parts.{spot_of, unwrapped}
use Rattle.reply.specs.Parted.{integer_in}
use Rattle.utf8.specs.Scan.{ill_formed}
use Rattle.kinds.specs.declared.bounds.Bounds.{Bounds}
use Rattle.kinds.specs.declared.fault.ElementReason.{ElementReason}
use Rattle.kinds.specs.declared.fault.ElementReason.TheVariants.{Kind, Text, Range}
use Rattle.kinds.specs.declared.fault.Fault.{Fault}
use Rattle.kinds.specs.Fault.{float_reason, refused}
use Rattle.kinds.specs.Plain.{utf8_by}
use Rattle.kinds.specs.Same.{eqℤ, same_read}
use Rattle.kinds.specs.Texts.{case_at, text_in}

-- what there is, or a refusal
abbrev pub or_refuse : {V : Type 0} → ElementReason → Spot → Option V → Result V Fault
or_refuse reason p v = ok_or v (refused reason p)

-- the number, where it is within the bounds
abbrev pub between : Bounds → Option ℤ → Option ℤ
between b z = in_range b.low b.high z

-- a whole number within the bounds that a text writes; a minus may stand where they go below 0
unfoldable pub text_integer : Spot → Bounds → List ℕ → Result ℤ Fault
text_integer p b c = or_refuse Text p (between b (whole_capped (int_lt b.low (pos 0)) c))

-- a float that is refused
abbrev pub float_fault : Spot → FloatFault → Fault
float_fault p f = refused (float_reason f) p

abbrev pub float_or : {V : Type 0} → Spot → (Float → Result V Fault) → Result Float FloatFault → Result V Fault
float_or p k (Ok x) = k x
float_or p k (Err f) = Err (float_fault p f)

-- a whole number within the bounds that a float is
abbrev pub float_integer : Spot → Bounds → Float → Result ℤ Fault
float_integer p b x = or_refuse Range p (between b (whole_float_capped x))

-- the same of a double's line; shut, as its grammar is long
unfoldable pub double_integer : Spot → Bounds → List ℕ → Result ℤ Fault
double_integer p b c = float_or p (float_integer p b) (read_double c)

-- an integer within the bounds, by the case of the reply: z is its integer and t its text
abbrev pub integer_by : Spot → Bounds → Option ℤ → List ℕ → Case → Result ℤ Fault
integer_by p b z t case.Nil = Err (refused Kind p)
integer_by p b z t case.Int = or_refuse Range p (between b z)
integer_by p b z t case.BulkString = utf8_by p (ill_formed t) (text_integer p b t)
integer_by p b z t case.Array = Err (refused Kind p)
integer_by p b z t case.SimpleString = text_integer p b t
integer_by p b z t case.Okay = Err (refused Kind p)
integer_by p b z t case.Map = Err (refused Kind p)
integer_by p b z t case.Attribute = Err (refused Kind p)
integer_by p b z t case.Set = Err (refused Kind p)
integer_by p b z t case.Double = double_integer p b t
integer_by p b z t case.Boolean = Err (refused Kind p)
integer_by p b z t case.VerbatimString = Err (refused Kind p)
integer_by p b z t case.BigNumber = Err (refused Kind p)
integer_by p b z t case.Push = Err (refused Kind p)
integer_by p b z t case.ServerError = Err (refused Kind p)

abbrev pub integer_one : Bounds → Node → Result ℤ Fault
integer_one b n = integer_by (spot_of n) b (integer_in (unwrapped n)) (text_in (unwrapped n)) (case_at (unwrapped n))

-- an integer as the value of a type of integers
abbrev pub narrowed : {V : Type 0} → (ℤ → V) → Result ℤ Fault → Result V Fault
narrowed narrow (Ok z) = Ok (narrow z)
narrowed narrow (Err f) = Err f

-- a signed integer is its number
pub narrowed_same : (r : Result ℤ Fault) → narrowed (λ z. z) r ≡ r
narrowed_same (Ok z) = refl
narrowed_same (Err f) = refl

-- the same of an unsigned kind
abbrev pub natural : Result ℤ Fault → Result ℕ Fault
natural r = narrowed unsigned_abs r

abbrev pub natural_one : Bounds → Node → Result ℕ Fault
natural_one b n = natural (integer_one b n)

-- two replies that read as one number
abbrev pub same_number : Bounds → Node → Node → Bool
same_number b n m = same_read eqℤ (integer_one b n) (integer_one b m)

-- the float of an integer, where it is exact
abbrev pub integer_float : Option ℤ → Option Float
integer_float None = None
integer_float (Some z) = exact_float z

-- the float that a text writes, and that a double's line is; shut, as their grammar is long
unfoldable pub text_float : Spot → List ℕ → Result Float Fault
text_float p c = float_or p Ok (read_float c)

unfoldable pub double_float : Spot → List ℕ → Result Float Fault
double_float p c = float_or p Ok (read_double c)

abbrev pub float_by : Spot → Option ℤ → List ℕ → Case → Result Float Fault
float_by p z t case.Nil = Err (refused Kind p)
float_by p z t case.Int = or_refuse Range p (integer_float z)
float_by p z t case.BulkString = utf8_by p (ill_formed t) (text_float p t)
float_by p z t case.Array = Err (refused Kind p)
float_by p z t case.SimpleString = text_float p t
float_by p z t case.Okay = Err (refused Kind p)
float_by p z t case.Map = Err (refused Kind p)
float_by p z t case.Attribute = Err (refused Kind p)
float_by p z t case.Set = Err (refused Kind p)
float_by p z t case.Double = double_float p t
float_by p z t case.Boolean = Err (refused Kind p)
float_by p z t case.VerbatimString = Err (refused Kind p)
float_by p z t case.BigNumber = Err (refused Kind p)
float_by p z t case.Push = Err (refused Kind p)
float_by p z t case.ServerError = Err (refused Kind p)

abbrev pub float_one : Node → Result Float Fault
float_one n = float_by (spot_of n) (integer_in (unwrapped n)) (text_in (unwrapped n)) (case_at (unwrapped n))

-- what is read lies within the bounds
abbrev pub Within : Bounds → Result ℤ Fault → Type 0
Within b (Ok z) = (b.low ≤ℤ z) × (z ≤ℤ b.high)
Within b (Err f) = Unit {0}

-- the bounds from one integer to another
abbrev pub bounds_from : ℤ → ℤ → Bounds
bounds_from low high = record { low = low; high = high }

-- the bounds of the widths
abbrev pub u8_bounds : Bounds
u8_bounds = record { low = pos 0; high = pos 255 }

abbrev pub u16_bounds : Bounds
u16_bounds = record { low = pos 0; high = pos 65535 }

abbrev pub u64_bounds : Bounds
u64_bounds = record { low = pos 0; high = pos 18446744073709551615 }

abbrev pub i8_bounds : Bounds
i8_bounds = record { low = negsuc 127; high = pos 127 }

abbrev pub i64_bounds : Bounds
i64_bounds = record { low = negsuc 9223372036854775807; high = pos 9223372036854775807 }

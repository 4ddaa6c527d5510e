-- What is read lies within the bounds.
use Rattle.std.specs.Prelude.{◌≡◌, ℕ, Bool, true, false, cond, ◌&&◌, T, List, ℤ, Some, None, Ok, Err, Option, Result, int_le, refl, Float}
use Rattle.std.proofs.Common.{sym, subst}
use Rattle.std.specs.Int.Signed.{le_z_yes}
use Rattle.std.proofs.lemmas.Bool.{and_parts}
use Rattle.decimals.specs.declared.fault.FloatFault.{FloatFault}
use Rattle.decimals.specs.Decimal.{read_double}
use Rattle.decimals.specs.Floats.{whole_float_capped}
use Rattle.resp.specs.declared.case.Case.{Case}
use Rattle.resp.specs.declared.case.Case.TheVariants as case
use Rattle.resp.specs.Node.{Node}
use Rattle.reply.specs.declared.spot.Spot.{Spot}
use Rattle.reply.specs.Parts.{spot_of, unwrapped}
use Rattle.reply.specs.Parted.{integer_in}
use Rattle.utf8.specs.Scan.{ill_formed}
use Rattle.kinds.specs.declared.bounds.Bounds.{Bounds}
use Rattle.kinds.specs.declared.fault.ElementReason.{ElementReason}
use Rattle.kinds.specs.declared.fault.Fault.{Fault}
use Rattle.kinds.specs.Numbers.{Within, between, double_integer, float_integer, float_or, integer_by, integer_one, or_refuse, same_number, text_integer}
use Rattle.kinds.specs.Plain.{utf8_by}
use Rattle.kinds.specs.Same.{Equality, eqℤ, same_read}
use Rattle.kinds.specs.Texts.{case_at, text_in}
use Rattle.kinds.specs.Equalities.{along, decided, eqℤ_decides, read_equality}

so : {b : Bool} → b ≡ true → T b
so e = subst T (sym e) tt

ranged : (b : Bounds) (reason : ElementReason) (p : Spot) (z : ℤ) (t : Bool) → (int_le b.low z && int_le z b.high) ≡ t → Within b (or_refuse reason p (cond t (Some z) None))
ranged b reason p z true e = let (l, h) = and_parts (int_le b.low z) (int_le z b.high) e in (le_z_yes (so l), le_z_yes (so h))
ranged b reason p z false e = tt

or_within : (b : Bounds) (reason : ElementReason) (p : Spot) (o : Option ℤ) → Within b (or_refuse reason p (between b o))
or_within b reason p None = tt
or_within b reason p (Some z) = ranged b reason p z (int_le b.low z && int_le z b.high) refl

text_within : (b : Bounds) (p : Spot) (c : List ℕ) → Within b (text_integer p b c)
unfolding text_integer
text_within b p c = or_within b _ p _

float_within : (b : Bounds) (p : Spot) (r : Result Float FloatFault) → Within b (float_or p (float_integer p b) r)
float_within b p (Ok x) = or_within b _ p (whole_float_capped x)
float_within b p (Err f) = tt

double_within : (b : Bounds) (p : Spot) (c : List ℕ) → Within b (double_integer p b c)
unfolding double_integer
double_within b p c = float_within b p (read_double c)

utf8_within : (b : Bounds) (p : Spot) (o : Option (List ℕ)) (r : Result ℤ Fault) → Within b r → Within b (utf8_by p o r)
utf8_within b p None r h = h
utf8_within b p (Some t) r h = tt

by_within : (b : Bounds) (p : Spot) (z : Option ℤ) (t : List ℕ) (k : Case) → Within b (integer_by p b z t k)
by_within b p z t case.Nil = tt
by_within b p z t case.Int = or_within b _ p z
by_within b p z t case.BulkString = utf8_within b p (ill_formed t) (text_integer p b t) (text_within b p t)
by_within b p z t case.Array = tt
by_within b p z t case.SimpleString = text_within b p t
by_within b p z t case.Okay = tt
by_within b p z t case.Map = tt
by_within b p z t case.Attribute = tt
by_within b p z t case.Set = tt
by_within b p z t case.Double = double_within b p t
by_within b p z t case.Boolean = tt
by_within b p z t case.VerbatimString = tt
by_within b p z t case.BigNumber = tt
by_within b p z t case.Push = tt
by_within b p z t case.ServerError = tt

pub integer_within : (b : Bounds) (n : Node) → Within b (integer_one b n)
integer_within b n = by_within b (spot_of n) (integer_in (unwrapped n)) (text_in (unwrapped n)) (case_at (unwrapped n))

pub number_equality : (b : Bounds) → Equality (same_number b)
number_equality b = along (integer_one b) (same_read eqℤ) (read_equality eqℤ (decided eqℤ eqℤ_decides))

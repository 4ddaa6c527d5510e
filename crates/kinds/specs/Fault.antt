-- Refusals, and their numbers.
use Rattle.std.specs.Prelude.{ℕ}
use Rattle.decimals.specs.declared.fault.FloatFault.{FloatFault}
use Rattle.decimals.specs.declared.fault.FloatFault.TheVariants as float
use Rattle.reply.specs.declared.spot.Spot.{Spot}
use Rattle.resp.specs.Answer as wire
use Rattle.kinds.specs.declared.fault.ElementReason.{ElementReason}
use Rattle.kinds.specs.declared.fault.ElementReason.TheVariants.{Kind, Text, NotUtf8, Range, Inexact, Count}
use Rattle.kinds.specs.declared.fault.IntakeReason.{IntakeReason}
use Rattle.kinds.specs.declared.fault.IntakeReason.TheVariants.{Table, Pick}
use Rattle.kinds.specs.declared.fault.RecordReason.{RecordReason}
use Rattle.kinds.specs.declared.fault.RecordReason.TheVariants.{Other, Unknown, NoIds}
use Rattle.kinds.specs.declared.fault.Fault.{Fault}
use Rattle.kinds.specs.declared.fault.Fault.TheVariants.{Intake, Wire, Element, Record}

abbrev pub element_number : ElementReason → ℕ
element_number Kind = 20
element_number Text = 21
element_number NotUtf8 = 22
element_number Range = 23
element_number Inexact = 24
element_number Count = 25

abbrev pub intake_number : IntakeReason → ℕ
intake_number Table = 26
intake_number Pick = 27

abbrev pub record_number : RecordReason → ℕ
record_number Other = 30
record_number Unknown = 31
record_number NoIds = 32

abbrev pub fault_number : Fault → ℕ
fault_number (Intake r) = intake_number r
fault_number (Wire f) = wire.number f.reason
fault_number (Element f) = element_number f.reason
fault_number (Record f) = record_number f.reason

-- an element fault at a spot
abbrev pub refused : ElementReason → Spot → Fault
refused r p = Element (record { reason = r; spot = p })

-- why a float is refused: no number, or not exact
abbrev pub float_reason : FloatFault → ElementReason
float_reason float.NotNumber = Text
float_reason float.Inexact = Inexact

-- The answer about bytes is the answer about the line that spells them.
use Rattle.std.proofs.Common.{◌≡◌, ℕ, List, Ok, Err, Result, sym, refl, subst}
use Rattle.resp.specs.Answer.{answer}
use Rattle.resp.specs.declared.fault.WireFault.{WireFault}
use Rattle.compare.specs.declared.shape.Shape.{Shape}
use Rattle.compare.specs.declared.shape.Shape.TheVariants.{Wire}
use Rattle.compare.specs.Answering.{Answers, SpellsAs, SpellsWire, wire_answer}

by_cases : (line bytes : List ℕ) → SpellsWire line bytes → (o : Result ℕ WireFault) → answer bytes ≡ o → Answers line (wire_answer o)
by_cases line bytes s (Ok n) e = (bytes, s, e)
by_cases line bytes s (Err f) e = (bytes, s, e)

pub of_question : (line items bytes : List ℕ) (s : Shape) → SpellsAs s line items → bytes ≡ items → Answers line (wire_answer (answer bytes))
of_question line items bytes Wire spelled e =
    let P : List ℕ → Type 0 = λ bs. SpellsWire line bs in
    by_cases line bytes (subst P (sym e) spelled) (answer bytes) refl

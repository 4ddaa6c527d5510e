-- Worked examples: bytes, and the number and place of their refusal.
use Rattle.std.specs.Prelude.{◌≡◌, ℕ, List, [], ◌∷◌, ◌++◌, Some, None, Ok, Err, codes, Option, Result}
use Rattle.resp.specs.declared.fault.WireFault.{WireFault}
use Rattle.resp.specs.Grammar.{crlf}
use Rattle.resp.specs.Answer.{answer, number}

abbrev pub told : Result ℕ WireFault → Option (ℕ × ℕ)
told (Ok n) = None
told (Err f) = Some (number f.reason, f.place)

abbrev pub refusals : List (List ℕ × (ℕ × ℕ))
refusals =
    (codes "$5" ++ crlf ++ codes "abc", (10, 7))
    ∷ (codes ":+5" ++ crlf, (14, 0))
    ∷ (codes "$60001" ++ crlf, (15, 0))
    ∷ (codes "$1" ++ crlf ++ codes "abc", (16, 5))
    ∷ []

-- each is refused so
abbrev pub Refused : List (List ℕ × (ℕ × ℕ)) → Type 0
Refused [] = Unit {0}
Refused (e ∷ es) = (told (answer e.0) ≡ Some e.1) × Refused es

abbrev pub Examples : Type 0
Examples = Refused refusals

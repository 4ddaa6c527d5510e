-- How an answer is written.
use Rattle.std.specs.Prelude.{ℕ, List, ◌∷◌, ◌++◌, codes, decimal}
use Rattle.resp.specs.Answer.{number}
use Rattle.compare.specs.declared.answer.Answer.{Answer}
use Rattle.compare.specs.declared.answer.Answer.TheVariants.{Whole, Faulty, Bad}
use Rattle.compare.specs.declared.answer.BadLine.{BadLine}
use Rattle.compare.specs.declared.answer.BadLine.TheVariants.{NoTab, UnknownShape, OddHex, NotHex}

abbrev pub shown_bad : BadLine → List ℕ
shown_bad NoTab = codes "no tab"
shown_bad UnknownShape = codes "unknown shape"
shown_bad OddHex = codes "odd hex"
shown_bad NotHex = codes "not hex"

-- 9 is the tab, and 32 the space.
abbrev pub shown_answer : Answer → List ℕ
shown_answer (Whole n) = codes "ok" ++ 9 ∷ decimal n
shown_answer (Faulty f) = codes "no" ++ 9 ∷ codes "wire " ++ decimal (number f.reason) ++ 32 ∷ decimal f.place
shown_answer (Bad why) = codes "bad" ++ 9 ∷ shown_bad why

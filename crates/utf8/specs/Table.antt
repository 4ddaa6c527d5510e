-- Table 3-7 of the Unicode Standard: which byte sequences are well formed.
use Rattle.std.specs.Prelude.{◌≡◌, ℕ, ◌<◌, List, [], ◌∷◌, ◌++◌, length, ◌≢◌}
use Rattle.std.specs.Int.{IsInRange}

-- A row of the table each, in its order: the bytes of one sequence. `IsInRange lo hi b` says that b is from lo to hi.
pub data Row : List ℕ → Type 0 where
  row1 : {a : ℕ} → IsInRange 0 127 a → Row (a ∷ [])
  row2 : {a b : ℕ} → IsInRange 194 223 a → IsInRange 128 191 b → Row (a ∷ b ∷ [])
  row3 : {a b c : ℕ} → IsInRange 224 224 a → IsInRange 160 191 b → IsInRange 128 191 c → Row (a ∷ b ∷ c ∷ [])
  row4 : {a b c : ℕ} → IsInRange 225 236 a → IsInRange 128 191 b → IsInRange 128 191 c → Row (a ∷ b ∷ c ∷ [])
  row5 : {a b c : ℕ} → IsInRange 237 237 a → IsInRange 128 159 b → IsInRange 128 191 c → Row (a ∷ b ∷ c ∷ [])
  row6 : {a b c : ℕ} → IsInRange 238 239 a → IsInRange 128 191 b → IsInRange 128 191 c → Row (a ∷ b ∷ c ∷ [])
  row7 : {a b c d : ℕ} → IsInRange 240 240 a → IsInRange 144 191 b → IsInRange 128 191 c → IsInRange 128 191 d → Row (a ∷ b ∷ c ∷ d ∷ [])
  row8 : {a b c d : ℕ} → IsInRange 241 243 a → IsInRange 128 191 b → IsInRange 128 191 c → IsInRange 128 191 d → Row (a ∷ b ∷ c ∷ d ∷ [])
  row9 : {a b c d : ℕ} → IsInRange 244 244 a → IsInRange 128 143 b → IsInRange 128 191 c → IsInRange 128 191 d → Row (a ∷ b ∷ c ∷ d ∷ [])

-- A text: sequences of the table, one after another.
pub data WellFormed : List ℕ → Type 0 where
  done : WellFormed []
  more : {x l : List ℕ} → Row x → WellFormed l → WellFormed (x ++ l)

-- The text is well formed up to t, where bytes are left and no sequence of the table begins.
pub record IllFormed (text t : List ℕ) : Type 0 where
  pub front : List ℕ
  pub split : text ≡ front ++ t
  pub well : WellFormed front
  pub some : 0 < length t
  pub none : (x l : List ℕ) → Row x → t ≢ x ++ l

-- The rows of the table are the bytes of the scalar values.
use Rattle.std.proofs.Common.{◌≡◌, ℕ, ◌+◌, ◌-◌, ◌*◌, ◌/◌, ◌<◌, ◌≤◌, true, ◌⊎◌, List, [], ◌∷◌, IsUtf8, sym, ◌∙◌, subst, inl, inr, arith}
use lib.Utf8.{scalar, scalars, encode, encodes, next, scalar_cases}
use Rattle.std.specs.Int.{IsInRange}
use Rattle.std.proofs.lemmas.Bool.{cases_lt, lt-ltb, le-ltb, and_parts}
use Rattle.std.proofs.lemmas.Str.{IsUtf8-append, IsUtf8-encode, IsUtf8-nil}
use Rattle.std.proofs.lemmas.Bool.Decides.{nat_tests}
use Rattle.utf8.specs.Table.{Row, row1, row2, row3, row4, row5, row6, row7, row8, row9, WellFormed, done, more}
use Rattle.utf8.specs.Theorems.{Standard}

one : (c : ℕ) → c < 128 → encode c ≡ c ∷ []
unfolding encode
one c h = rw (lt-ltb c 128)

two : (c : ℕ) → 128 ≤ c → c < 2048 → encode c ≡ (192 + c / 64) ∷ next c ∷ []
unfolding encode
two c l h = rw (le-ltb c 128, lt-ltb c 2048)

three : (c : ℕ) → 2048 ≤ c → c < 65536 → encode c ≡ (224 + c / 4096) ∷ next (c / 64) ∷ next c ∷ []
unfolding encode
three c l h = let l' : 128 ≤ c = omega arith in rw (le-ltb c 128, le-ltb c 2048, lt-ltb c 65536)

four : (c : ℕ) → 65536 ≤ c → encode c ≡ (240 + c / 262144) ∷ next (c / 4096) ∷ next (c / 64) ∷ next c ∷ []
unfolding encode
four c l = let l' : 128 ≤ c = omega arith in let l'' : 2048 ≤ c = omega arith in rw (le-ltb c 128, le-ltb c 2048, le-ltb c 65536)

abbrev Scalar : ℕ → Type 0
Scalar c = (c < 55296) ⊎ ((57344 ≤ c) × (c < 1114112))

is_scalar : (c : ℕ) → Scalar c → scalar c ≡ true
is_scalar c s = grind (arith, nat_tests)

follows : (c : ℕ) → IsInRange 128 191 (next c)
follows c = (omega arith, omega arith)

-- the bytes of a scalar value are a row
row_of : (c : ℕ) → Scalar c → Row (encode c)
row_of c (inl h) = low (cases_lt c 128) (cases_lt c 2048) (cases_lt c 4096) (cases_lt c 53248)
  where
    low : (c < 128) ⊎ (128 ≤ c) → (c < 2048) ⊎ (2048 ≤ c) → (c < 4096) ⊎ (4096 ≤ c) → (c < 53248) ⊎ (53248 ≤ c) → Row (encode c)
    low (inl u) _ _ _ = subst Row (sym (one c u)) (row1 (grind arith))
    low (inr l) (inl u) _ _ = subst Row (sym (two c l u)) (row2 (grind arith) (follows c))
    low (inr _) (inr l) (inl u) _ = subst Row (sym (three c l (omega arith))) (row3 (grind arith) (grind arith) (follows c))
    low (inr _) (inr l) (inr k) (inl u) = subst Row (sym (three c l (omega arith))) (row4 (grind arith) (follows (c / 64)) (follows c))
    low (inr _) (inr l) (inr _) (inr k) = subst Row (sym (three c l (omega arith))) (row5 (grind arith) (grind arith) (follows c))
row_of c (inr h) = high (cases_lt c 65536) (cases_lt c 262144) (cases_lt c 1048576)
  where
    high : (c < 65536) ⊎ (65536 ≤ c) → (c < 262144) ⊎ (262144 ≤ c) → (c < 1048576) ⊎ (1048576 ≤ c) → Row (encode c)
    high (inl u) _ _ = subst Row (sym (three c (omega arith) u)) (row6 (grind arith) (follows (c / 64)) (follows c))
    high (inr l) (inl u) _ = subst Row (sym (four c l)) (row7 (grind arith) (grind arith) (follows (c / 64)) (follows c))
    high (inr l) (inr k) (inl u) = subst Row (sym (four c l)) (row8 (grind arith) (follows (c / 4096)) (follows (c / 64)) (follows c))
    high (inr l) (inr _) (inr k) = subst Row (sym (four c l)) (row9 (grind arith) (grind arith) (follows (c / 64)) (follows c))

rows_of : (cs : List ℕ) → scalars cs ≡ true → WellFormed (encodes cs)
rows_of [] e = done
rows_of (c ∷ cs) e = let p = and_parts (scalar c) (scalars cs) e in more (row_of c (scalar_cases c p.0)) (rows_of cs p.1)

-- a row is the bytes of a scalar value
text_of : {x : List ℕ} (c : ℕ) → Scalar c → encode c ≡ x → IsUtf8 x
text_of c s e = subst IsUtf8 e (IsUtf8-encode c (is_scalar c s))

abbrev value3 : ℕ → ℕ → ℕ → ℕ
value3 a b d = (a - 224) * 4096 + (b - 128) * 64 + (d - 128)

abbrev value4 : ℕ → ℕ → ℕ → ℕ → ℕ
value4 a b d e = (a - 240) * 262144 + (b - 128) * 4096 + (d - 128) * 64 + (e - 128)

in_two : (a b : ℕ) → IsInRange 194 223 a → IsInRange 128 191 b → IsUtf8 (a ∷ b ∷ [])
in_two a b i j =
    let c : ℕ = (a - 192) * 64 + (b - 128) in
    let p : 192 + c / 64 ≡ a = omega arith in
    let q : next c ≡ b = omega arith in
    text_of c (inl (omega arith)) (two c (omega arith) (omega arith) ∙ (λ k. p k ∷ q k ∷ []))

in_three : (a b d : ℕ) → IsInRange 224 239 a → IsInRange 128 191 b → IsInRange 128 191 d → 2048 ≤ value3 a b d → Scalar (value3 a b d) → IsUtf8 (a ∷ b ∷ d ∷ [])
in_three a b d i j k l s =
    let c = value3 a b d in
    let p : 224 + c / 4096 ≡ a = omega arith in
    let q : next (c / 64) ≡ b = omega arith in
    let r : next c ≡ d = omega arith in
    text_of c s (three c l (omega arith) ∙ (λ k. p k ∷ q k ∷ r k ∷ []))

in_four : (a b d e : ℕ) → IsInRange 240 244 a → IsInRange 128 191 b → IsInRange 128 191 d → IsInRange 128 191 e → 65536 ≤ value4 a b d e → value4 a b d e < 1114112 → IsUtf8 (a ∷ b ∷ d ∷ e ∷ [])
in_four a b d e i j k m l u =
    let c = value4 a b d e in
    let p : 240 + c / 262144 ≡ a = omega arith in
    let q : next (c / 4096) ≡ b = omega arith in
    let r : next (c / 64) ≡ d = omega arith in
    let t : next c ≡ e = omega arith in
    text_of c (inr (omega arith, u)) (four c l ∙ (λ k. p k ∷ q k ∷ r k ∷ t k ∷ []))

text_of_row : {x : List ℕ} → Row x → IsUtf8 x
text_of_row (row1 {a} i) = text_of a (inl (omega arith)) (one a (omega arith))
text_of_row (row2 {a} {b} i j) = in_two a b i j
text_of_row (row3 {a} {b} {c} i j k) = in_three a b c (grind arith) (grind arith) k (omega arith) (inl (omega arith))
text_of_row (row4 {a} {b} {c} i j k) = in_three a b c (grind arith) (grind arith) k (omega arith) (inl (omega arith))
text_of_row (row5 {a} {b} {c} i j k) = in_three a b c (grind arith) (grind arith) k (omega arith) (inl (omega arith))
text_of_row (row6 {a} {b} {c} i j k) = in_three a b c (grind arith) (grind arith) k (omega arith) (inr (omega arith, omega arith))
text_of_row (row7 {a} {b} {c} {d} i j k l) = in_four a b c d (grind arith) (grind arith) k l (omega arith) (omega arith)
text_of_row (row8 {a} {b} {c} {d} i j k l) = in_four a b c d (grind arith) (grind arith) k l (omega arith) (omega arith)
text_of_row (row9 {a} {b} {c} {d} i j k l) = in_four a b c d (grind arith) (grind arith) k l (omega arith) (omega arith)

texts_of : {c : List ℕ} → WellFormed c → IsUtf8 c
texts_of done = IsUtf8-nil
texts_of (more {x} {l} r w) = IsUtf8-append x l (text_of_row r) (texts_of w)

pub standard : Standard
standard c = (texts_of, λ u. subst WellFormed u.1.1 (rows_of u.0 u.1.0))

-- Words in any letter case.
use Rattle.std.proofs.Common.{length, get_or, ◌≡◌, ℕ, Bool, true, false, eqb, List, [], ◌∷◌, map, MatchBool, sym, refl, arith}
use Rattle.std.specs.Char.{to_ascii_lowercase}
use Rattle.std.specs.Float.Parse.{lowercases_to}
use Rattle.std.proofs.lemmas.Bool.{and_parts, and_from, eqb-true, eq-eqb, false≢true}

pub spells_sound : (c w : List ℕ) → lowercases_to c w ≡ true → map to_ascii_lowercase c ≡ w
spells_sound [] [] t = refl
spells_sound [] (x ∷ w) t = absurd (false≢true t)
spells_sound (b ∷ c) [] t = absurd (false≢true t)
spells_sound (b ∷ c) (x ∷ w) t =
    let p = and_parts (eqb (to_ascii_lowercase b) x) _ t in
    rw (eqb-true (to_ascii_lowercase b) x p.0, spells_sound c w p.1)

pub spells_complete : (c w : List ℕ) → map to_ascii_lowercase c ≡ w → lowercases_to c w ≡ true
spells_complete [] [] e = refl
spells_complete [] (x ∷ w) e = let n : ◌≡◌ {A = ℕ} 0 1 = cc in absurd (omega arith)
spells_complete (b ∷ c) [] e = let n : ◌≡◌ {A = ℕ} 0 1 = cc in absurd (omega arith)
spells_complete (b ∷ c) (x ∷ w) e = and_from _ _ (eq-eqb (to_ascii_lowercase b) x (cc)) (spells_complete c w (cc))

pub spells_is : (r : Bool) (c w : List ℕ) → MatchBool r (map to_ascii_lowercase c ≡ w) (map to_ascii_lowercase c ≡ w → ⊥) → r ≡ lowercases_to c w
spells_is true c w h = sym (spells_complete c w h)
spells_is false c w h = by (lowercases_to c w) (spells_sound c w)
  where
    by : (t : Bool) → (t ≡ true → map to_ascii_lowercase c ≡ w) → false ≡ t
    by true f = absurd (h (f refl))
    by false f = refl

-- A line of three bytes, or of four, by its bytes.

pub three_bytes : (c : List ℕ) (x y z : ℕ) → length c ≡ 3 → get_or c 0 0 ≡ x → get_or c 1 0 ≡ y → get_or c 2 0 ≡ z → c ≡ x ∷ y ∷ z ∷ []
three_bytes [] x y z n p q r = absurd (omega arith)
three_bytes (a ∷ []) x y z n p q r = absurd (omega arith)
three_bytes (a ∷ b ∷ []) x y z n p q r = absurd (omega arith)
three_bytes (a ∷ b ∷ d ∷ []) x y z n p q r = λ i. p i ∷ q i ∷ r i ∷ []
three_bytes (a ∷ b ∷ d ∷ e ∷ c) x y z n p q r = absurd (omega arith)

pub four_bytes : (c : List ℕ) (w x y z : ℕ) → length c ≡ 4 → get_or c 0 0 ≡ w → get_or c 1 0 ≡ x → get_or c 2 0 ≡ y → get_or c 3 0 ≡ z → c ≡ w ∷ x ∷ y ∷ z ∷ []
four_bytes [] w x y z n o p q r = absurd (omega arith)
four_bytes (a ∷ c) w x y z n o p q r = λ i. o i ∷ three_bytes c x y z (omega arith) p q r i

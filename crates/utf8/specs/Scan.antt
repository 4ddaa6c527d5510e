-- The table read from left to right, a byte at a time.
use Rattle.std.specs.Prelude.{◌≡◌, ℕ, zero, suc, ◌-◌, ◌<◌, cond, List, [], ◌∷◌, length, drop, Some, None, Option, ◌==◌, nat_lt, if◌then◌else◌}
use Rattle.std.specs.Int.{is_in_range}

-- how many one-bits a byte begins with
abbrev pub ones : ℕ → ℕ
ones b = cond (nat_lt b 128) 0 (cond (nat_lt b 192) 1 (cond (nat_lt b 224) 2 (cond (nat_lt b 240) 3 (cond (nat_lt b 248) 4 (cond (nat_lt b 252) 5 (cond (nat_lt b 254) 6 (cond (nat_lt b 255) 7 8)))))))

-- how many bytes a sequence has, by its lead byte; 0 for a byte that leads none
abbrev pub count : ℕ → ℕ
count b = cond (nat_lt b 128) 1 (cond (nat_lt b 194) 0 (cond (nat_lt b 224) 2 (cond (nat_lt b 240) 3 (cond (nat_lt b 245) 4 0))))

-- the same as an option: no length for a byte that leads none
abbrev pub length_of : ℕ → Option ℕ
length_of b = if count b == 0 then None else Some (count b)

-- the least and the greatest second byte, by the lead byte
abbrev pub least : ℕ → ℕ
least b = cond (b == 224) 160 (cond (b == 240) 144 128)

abbrev pub greatest : ℕ → ℕ
greatest b = cond (b == 237) 159 (cond (b == 244) 143 191)

-- The sequence that began at s has so many bytes still due, the next of them from lo to hi; the answer is what is left from the first ill-formed sequence on.
abbrev pub scan : List ℕ → ℕ → ℕ → ℕ → List ℕ → Option (List ℕ)
scan s zero lo hi [] = None
scan s (suc due) lo hi [] = Some s
scan s zero lo hi (b ∷ l) = cond (count b == 0) (Some (b ∷ l)) (scan (b ∷ l) (count b - 1) (least b) (greatest b) l)
scan s (suc due) lo hi (b ∷ l) = cond (is_in_range lo hi b) (scan s due 128 191 l) (Some s)

-- what is left of a text from its first ill-formed sequence on
abbrev pub ill_formed : List ℕ → Option (List ℕ)
ill_formed c = scan c 0 128 191 c

-- the answer of the code: the place of what `ill_formed` leaves
abbrev pub Located : List ℕ → Option (List ℕ) → Option ℕ → Type 0
Located c None None = Unit {0}
Located c None (Some i) = ⊥
Located c (Some t) None = ⊥
Located c (Some t) (Some i) = (i < length c) × (t ≡ drop i c)

-- How an item is passed by its first byte and its first line alone. Nothing of it is judged: what is said here is right of whole items.
use Rattle.std.specs.Prelude.{ℕ, ◌+◌, ◌-◌, ◌*◌, ◌^◌, min, Bool, cond, ◌||◌, List, [], ◌∷◌, length, take, Some, None, Option, ◌==◌, nat_lt}
use Rattle.numerals.specs.Plain.{capped}
use Rattle.reply.specs.declared.pass.Following.{Following}
use Rattle.reply.specs.declared.pass.Passed.{Passed}
use Rattle.reply.specs.Parted.{after_lf}

-- the number of a line, if 32 bits hold it
abbrev pub short : Option ℕ → Option ℕ
short None = None
short (Some n) = cond (nat_lt n (2 ^ 32)) (Some n) None

abbrev pub counted : List ℕ → Option ℕ
counted c = short (capped c)

-- the first bytes $ ! = * ~ > % |
abbrev pub tells : ℕ → Bool
tells b = b == 36 || (b == 33 || (b == 61 || (b == 42 || (b == 126 || (b == 62 || (b == 37 || b == 124))))))

abbrev pub told_count : ℕ → List ℕ → Option ℕ
told_count b c = cond (tells b) (counted c) None

-- what follows the first line
abbrev pub followed_by : ℕ → Option ℕ → Following
followed_by b None = record { body = 0; items = 0 }
followed_by b (Some n) =
    cond (b == 36) (record { body = n + 2; items = 0 })
    (cond (b == 33) (record { body = n + 2; items = 0 })
    (cond (b == 61) (record { body = n + 2; items = 0 })
    (cond (b == 42) (record { body = 0; items = n })
    (cond (b == 126) (record { body = 0; items = n })
    (cond (b == 62) (record { body = 0; items = n })
    (cond (b == 37) (record { body = 0; items = 2 * n })
    (cond (b == 124) (record { body = 0; items = 2 * n + 1 }) (record { body = 0; items = 0 }))))))))

-- an item of so many bytes at most, after a first line of so many
abbrev pub passed_by : ℕ → ℕ → Following → Passed
passed_by most line f = record { len = min (line + f.body) most; items = f.items }

abbrev pub passed_of : List ℕ → Passed
passed_of [] = record { len = 0; items = 0 }
passed_of (b ∷ bs) = passed_by (length (b ∷ bs)) (after_lf (b ∷ bs)) (followed_by b (told_count b (take (after_lf (b ∷ bs) - 3) bs)))

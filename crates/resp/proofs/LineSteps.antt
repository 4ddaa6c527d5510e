-- The loop that looks for a line's end.
use Rattle.std.proofs.Common.{◌≡◌, ℕ, zero, suc, ◌+◌, ◌-◌, ◌<◌, List, [], ◌∷◌, ◌++◌, length, get_or, take, drop, Ok, sym, refl, ap, ◌∙◌, ap₂, append_assoc, arith}
use Rattle.std.proofs.lemmas.List.{append-nil, drop_more, take_more, take_rest, get_or-drop, length-drop}
use Rattle.std.specs.Prelude.{slice_range}
use Rattle.std.proofs.lemmas.Bool.{ne_eqb}
use Rattle.resp.specs.declared.closed.Closed.{Closed}
use Rattle.resp.specs.Out.{Out, ok, fault, map_out}
use Rattle.resp.specs.Reading.{line, closing}
use Rattle.resp.specs.Told.{Told, Lines}

-- what the n bytes after the item's first leave of its line
abbrev pub Left : List ℕ → ℕ → ℕ → Type 0
Left bs at n =
    line (drop at bs) 1024 (drop (at + 1) bs) ≡ map_out (λ c. take n (drop (at + 1) bs) ++ c) (line (drop at bs) (1024 - n) (drop (at + 1 + n) bs))

-- the bytes from a place on, as the loop goes over them
pub byte_at : (bs : List ℕ) (from n : ℕ) → get_or (slice_range bs from (length bs)) n 0 ≡ get_or bs (from + n) 0
byte_at bs from n = ap (λ l. get_or l n 0) (take_rest bs from) ∙ get_or-drop from bs n 0

line_cr : (s : List ℕ) (room b : ℕ) (bs : List ℕ) → b ≡ 13 → line s room (b ∷ bs) ≡ closing s bs
line_cr s zero b bs e = rw e
line_cr s (suc n) b bs e = rw e

line_on : (s : List ℕ) (room b : ℕ) (bs : List ℕ) → (b ≡ 13 → ⊥) → (b ≡ 10 → ⊥) → line s (suc room) (b ∷ bs) ≡ map_out (λ c. b ∷ c) (line s room bs)
line_on s room b bs p q = rw (ne_eqb b 13 p, ne_eqb b 10 q)

push_on : (x : List ℕ) (b : ℕ) (o : Out (List ℕ)) → map_out (λ c. x ++ c) (map_out (λ c. b ∷ c) o) ≡ map_out (λ c. (x ++ (b ∷ [])) ++ c) o
push_on x b (ok c rest) = ap (λ l. ok l rest) (sym (append_assoc x (b ∷ []) c))
push_on x b (fault k at) = refl

pub left_more : (bs : List ℕ) (at n : ℕ) → Left bs at n → n < 1024 → at + 1 + n < length bs → (get_or bs (at + 1 + n) 0 ≡ 13 → ⊥) → (get_or bs (at + 1 + n) 0 ≡ 10 → ⊥)
    → Left bs at (n + 1)
left_more bs at n e room lt p q =
    let l = drop (at + 1) bs in
    let b = get_or bs (at + 1 + n) 0 in
    let s = drop at bs in
    let next = line s (1024 - (n + 1)) (drop (at + 1 + (n + 1)) bs) in
    let less : 1024 - n ≡ suc (1024 - (n + 1)) = omega arith in
    let a : at + 1 + n + 1 ≡ at + 1 + (n + 1) = omega arith in
    let byte : get_or l n 0 ≡ b = get_or-drop (at + 1) bs n 0 in
    let front : take (n + 1) l ≡ take n l ++ (b ∷ []) = take_more l n 0 (rw length-drop (omega arith)) ∙ ap (λ x. take n l ++ (x ∷ [])) byte in
    let more : drop (at + 1 + n) bs ≡ b ∷ drop (at + 1 + (n + 1)) bs = drop_more bs (at + 1 + n) 0 lt ∙ ap (λ k. b ∷ drop k bs) a in
    let step : line s (1024 - n) (drop (at + 1 + n) bs) ≡ map_out (λ c. b ∷ c) next = rw (less, more) (line_on s (1024 - (n + 1)) b (drop (at + 1 + (n + 1)) bs) p q) in
    e ∙ ap (map_out (λ c. take n l ++ c)) step ∙ push_on (take n l) b next ∙ ap (λ w. map_out (λ c. w ++ c) next) (sym front)

module _ (bs : List ℕ) (at n : ℕ) (e : Left bs at n) where
  -- a CR, and what follows it
  after_cr : at + 1 + n < length bs → get_or bs (at + 1 + n) 0 ≡ 13 → line (drop at bs) (1024 - n) (drop (at + 1 + n) bs) ≡ closing (drop at bs) (drop (at + 1 + n + 1) bs)
  after_cr lt b = ap (line (drop at bs) (1024 - n)) (drop_more bs (at + 1 + n) 0 lt) ∙ line_cr (drop at bs) (1024 - n) (get_or bs (at + 1 + n) 0) (drop (at + 1 + n + 1) bs) b

  pub told_cr_lf : (v : Closed) → v.bytes.now ≡ bs → v.from ≡ at + 1 → v.end ≡ at + 1 + n → at + 1 + n + 1 < length bs → get_or bs (at + 1 + n) 0 ≡ 13 → get_or bs (at + 1 + n + 1) 0 ≡ 10
      → Told (Lines bs) bs (line (drop at bs) 1024 (drop (at + 1) bs)) (Ok v)
  told_cr_lf v bytes from end lt b lf =
      let l = drop (at + 1) bs in
      let k = drop_more bs (at + 1 + n + 1) 0 lt in
      let c : closing (drop at bs) (get_or bs (at + 1 + n + 1) 0 ∷ drop (at + 1 + n + 1 + 1) bs) ≡ ok [] (drop (at + 1 + n + 1 + 1) bs) = rw lf in
      let o = after_cr (omega arith) b ∙ ap (closing (drop at bs)) k ∙ c in
      let w : line (drop at bs) 1024 l ≡ ok (take n l ++ []) (drop (at + 1 + n + 1 + 1) bs) = e ∙ ap (map_out (λ c. take n l ++ c)) o in
      let two : at + 1 + n + 1 + 1 ≡ v.end + 2 = omega arith in
      let sub : v.end - v.from ≡ n = omega arith in
      rw w
      (record {
        bytes = bytes;
        content = append-nil (take n l) ∙ ap₂ take (sym sub) (ap₂ drop (sym from) (sym bytes));
        after = ap₂ drop two (sym bytes);
      })

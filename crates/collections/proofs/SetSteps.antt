-- Members seen before, and the first of each class.
use Rattle.std.proofs.Common.{◌≡◌, ℕ, zero, suc, ◌+◌, ◌-◌, ◌*◌, ◌/◌, ◌<◌, Bool, true, false, cond, ◌||◌, List, [], ◌∷◌, length, take, Some, Ok, Err, Result, sym, refl, ap, ◌∙◌, subst, arith}
use Rattle.resp.specs.Node.{Node}
use Rattle.kinds.specs.declared.fault.Fault.{Fault}
use Rattle.kinds.specs.Rows.{and_then, onto, many_by}
use Rattle.collections.specs.Maps.{last_for, merged_in, seen_key}
use Rattle.collections.specs.Sets.{seen_in}
use Rattle.collections.specs.Steps.{Steps}

module _ (alike : Node → Node → Bool) (x : Node) where
  pub seen_more : (k j : ℕ) (n : Node) (ns ms : List Node) → j + 1 ≡ k → ns ≡ n ∷ ms → seen_in alike x (take k ns) ≡ (alike n x || seen_in alike x (take j ms))
  seen_more k j n ns ms h e = let z : k ≡ suc j = omega arith in ap (λ l. seen_in alike x (take k l)) e ∙ ap (λ i. seen_in alike x (take i (n ∷ ms))) z

  pub seen_none : (k : ℕ) (ns : List Node) → (0 < k → ns ≡ []) → seen_in alike x (take k ns) ≡ false
  seen_none zero ns h = refl
  seen_none (suc k) ns h = ap (λ l. seen_in alike x (take (suc k) l)) (h (omega arith))

module _ (alike : Node → Node → Bool) (x : Node) where
  pub key_more : (k j : ℕ) (n v : Node) (ns ms : List Node) → j + 1 ≡ k → ns ≡ n ∷ v ∷ ms → seen_key alike x (take (2 * k) ns) ≡ (alike n x || seen_key alike x (take (2 * j) ms))
  key_more k j n v ns ms h e =
      let z : 2 * k ≡ suc (suc (2 * j)) = omega arith in ap (λ l. seen_key alike x (take (2 * k) l)) e ∙ ap (λ i. seen_key alike x (take i (n ∷ v ∷ ms))) z

  key_short : (m : ℕ) (ns : List Node) → length ns < 2 → seen_key alike x (take m ns) ≡ false
  key_short zero ns h = refl
  key_short (suc m) [] h = refl
  key_short (suc zero) (n ∷ []) h = refl
  key_short (suc (suc m)) (n ∷ []) h = refl
  key_short (suc m) (n ∷ v ∷ ns) h = absurd (omega arith)

  pub key_none : (k : ℕ) (ns : List Node) → (0 < k → length ns < 2) → seen_key alike x (take (2 * k) ns) ≡ false
  key_none zero ns h = refl
  key_none (suc k) ns h = key_short (2 * suc k) ns (h (omega arith))

  -- a last key without a value counts for nothing
  key_even : (m : ℕ) (ns : List Node) → seen_key alike x (take (2 * (m / 2)) ns) ≡ seen_key alike x (take m ns)
  key_even zero ns = refl
  key_even (suc zero) [] = refl
  key_even (suc zero) (n ∷ ns) = refl
  key_even (suc (suc m)) [] = let z : 2 * (suc (suc m) / 2) ≡ suc (suc (2 * (m / 2))) = omega arith in ap (λ i. seen_key alike x (take i [])) z
  key_even (suc (suc m)) (n ∷ []) = let z : 2 * (suc (suc m) / 2) ≡ suc (suc (2 * (m / 2))) = omega arith in ap (λ i. seen_key alike x (take i (n ∷ []))) z
  key_even (suc (suc m)) (n ∷ v ∷ ns) =
      let z : 2 * (suc (suc m) / 2) ≡ suc (suc (2 * (m / 2))) = omega arith in
      ap (λ i. seen_key alike x (take i (n ∷ v ∷ ns))) z ∙ ap (λ b. alike n x || b) (key_even m ns)

  -- of what stands before an entry
  pub key_before : (b : ℕ) (all ms : List Node) → b ≡ (length all - (length ms + 2)) / 2 → seen_key alike x (take (2 * b) all) ≡ seen_key alike x (take (length all - suc (suc (length ms))) all)
  key_before b all ms e =
      let z : length all - (length ms + 2) ≡ length all - suc (suc (length ms)) = omega arith in
      ap (λ b. seen_key alike x (take (2 * b) all)) e ∙ key_even (length all - (length ms + 2)) all ∙ ap (λ m. seen_key alike x (take m all)) z

-- the next entry is passed by where its key was seen, and else is the next of the merged ones
module _ (alike : Node → Node → Bool) (all : List Node) (k v : Node) (ns ms : List Node) (b : ℕ) (items : ns ≡ k ∷ v ∷ ms) (before : b ≡ (length all - (length ms + 2)) / 2) where
  open_merged : (seen : Bool) → seen ≡ seen_key alike k (take (2 * b) all)
      → merged_in alike all ns ≡ cond seen (merged_in alike all ms) ((k, last_for alike k v ms) ∷ merged_in alike all ms)
  open_merged seen is =
      ap (merged_in alike all) items
      ∙ ap (λ t. cond t (merged_in alike all ms) ((k, last_for alike k v ms) ∷ merged_in alike all ms)) (sym (is ∙ key_before alike k b all ms before))

  pub merged_more : (seen : Bool) → seen ≡ seen_key alike k (take (2 * b) all) → seen ≡ true → merged_in alike all ns ≡ merged_in alike all ms
  merged_more seen is t = open_merged seen is ∙ ap (λ t. cond t (merged_in alike all ms) ((k, last_for alike k v ms) ∷ merged_in alike all ms)) t

  pub merged_here : (seen : Bool) → seen ≡ seen_key alike k (take (2 * b) all) → seen ≡ false → merged_in alike all ns ≡ (k, last_for alike k v ms) ∷ merged_in alike all ms
  merged_here seen is t = open_merged seen is ∙ ap (λ t. cond t (merged_in alike all ms) ((k, last_for alike k v ms) ∷ merged_in alike all ms)) t

-- one of a list, read as a row
step_by : {V : Type 0} (r : Result V Fault) (rest : Result (List V) Fault) → Steps (and_then r (λ v. onto v rest)) (Some r) rest
step_by (Ok v) rest = refl
step_by (Err f) rest = refl

pub many_step : {A V : Type 0} (one : A → Result V Fault) (e : A) (es all : List A) (r : Result V Fault) → all ≡ e ∷ es → r ≡ one e → Steps (many_by one all) (Some r) (many_by one es)
many_step one e es all r is read =
    subst (λ l. Steps (many_by one l) (Some r) (many_by one es)) (sym is)
    (subst (λ r. Steps (many_by one (e ∷ es)) (Some r) (many_by one es)) (sym read) (step_by (one e) (many_by one es)))

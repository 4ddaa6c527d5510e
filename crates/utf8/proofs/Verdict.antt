-- What the scan answers, in the table's terms.
use Rattle.std.proofs.Common.{◌≡◌, ℕ, zero, suc, ◌<◌, ◌⊎◌, List, [], ◌∷◌, ◌++◌, length, Some, None, Option, sym, refl, ap, ◌∙◌, subst, inl, inr, append_assoc, arith}
use Rattle.std.specs.Int.{IsInRange}
use Rattle.utf8.specs.Table.{WellFormed, done, more, IllFormed}
use Rattle.utf8.specs.Scan.{count, least, greatest, scan, ill_formed}
use Rattle.utf8.specs.Theorems.{Accepts, Locates}
use Rattle.utf8.proofs.Steps.{begun, stray, followed, broken, fresh, cases_in}
use Rattle.utf8.proofs.Rows.{Starts, none, next, Led, by, led, Rowed, rowed}

-- bytes that are due are read to their end
passed : {n lo hi : ℕ} {l r : List ℕ} (s : List ℕ) → Starts n lo hi l r → scan s n lo hi l ≡ scan s 0 128 191 r
passed {lo} {hi} {r} s none = fresh s s lo hi 128 191 r
passed s (next {n} {lo} {hi} {l} h t) = followed s lo hi {l = l} refl n h ∙ passed s t

past : {l r : List ℕ} → Led l r → ill_formed l ≡ ill_formed r
past {r} (by {a} {l} _ e t) = begun (a ∷ l) 128 191 {l = l} refl e ∙ passed (a ∷ l) t ∙ fresh (a ∷ l) r 128 191 128 191 r

accepted : {c : List ℕ} → WellFormed c → ill_formed c ≡ None
accepted done = refl
accepted (more {l} r w) = past (led l r) ∙ accepted w

-- what there is to say of the bytes l, of which the sequence that began at s wants n
data Found (s l : List ℕ) (n lo hi : ℕ) : Option (List ℕ) → Type 0 where
  all : {r : List ℕ} → Starts n lo hi l r → WellFormed r → Found s l n lo hi None
  here : ((r : List ℕ) → Starts n lo hi l r → ⊥) → Found s l n lo hi (Some s)
  later : {r t : List ℕ} → Starts n lo hi l r → IllFormed r t → Found s l n lo hi (Some t)

no_end : {n lo hi : ℕ} {r : List ℕ} → Starts (suc n) lo hi [] r → ⊥
no_end t = elim t [ ]

first : {n lo hi b : ℕ} {l r : List ℕ} → Starts (suc n) lo hi (b ∷ l) r → IsInRange lo hi b
first (next h t) = h

after : {n lo hi b : ℕ} {l r : List ℕ} → Starts (suc n) lo hi (b ∷ l) r → Starts n 128 191 l r
after (next h t) = t

-- one byte that was due
longer : {s l : List ℕ} {n lo hi b : ℕ} {o : Option (List ℕ)} → IsInRange lo hi b → Found s l n 128 191 o → Found s (b ∷ l) (suc n) lo hi o
longer h (all t w) = all (next h t) w
longer h (here f) = here (λ r t. f r (after t))
longer h (later t i) = later (next h t) i

-- nothing comes before
at_once : (t : List ℕ) → 0 < length t → ((r : List ℕ) → Led t r → ⊥) → IllFormed t t
at_once t some f = record {
  front = [];
  split = refl;
  well = done;
  some = some;
  none = λ x r w e. f r (subst (λ l. Led l r) (sym e) (led r w));
}

-- a row comes before
further : {l r t : List ℕ} → Rowed l r → IllFormed r t → IllFormed l t
further {t} w i = record {
  front = w.front ++ i.front;
  split = w.split ∙ ap (λ m. w.front ++ m) i.split ∙ sym (append_assoc w.front i.front t);
  well = more w.is i.well;
  some = i.some;
  none = i.none;
}

-- a lead byte
opened : {s l : List ℕ} {n lo hi a : ℕ} {o : Option (List ℕ)} → count a ≡ suc n → Found (a ∷ l) l n (least a) (greatest a) o → Found s (a ∷ l) 0 lo hi o
opened {n} e (all t w) = let f = rowed (by n e t) in all none (subst WellFormed (sym f.split) (more f.is w))
opened {l} {n} {a} e (here f) = later none (at_once (a ∷ l) (omega arith) none_led)
  where
    none_led : (r : List ℕ) → Led (a ∷ l) r → ⊥
    none_led r (by m e' t) = let same : m ≡ n = omega arith in f r (subst (λ k. Starts k (least a) (greatest a) l r) same t)
opened {n} e (later t i) = later none (further (rowed (by n e t)) i)

unled : (a : ℕ) (l r : List ℕ) → count a ≡ 0 → Led (a ∷ l) r → ⊥
unled a l r e (by n e' t) = omega arith

abbrev Finds : List ℕ → ℕ → ℕ → ℕ → List ℕ → Type 0
Finds s n lo hi l = Found s l n lo hi (scan s n lo hi l)

found : (s : List ℕ) (n lo hi : ℕ) (l : List ℕ) → Finds s n lo hi l
found s zero lo hi [] = all none done
found s (suc n) lo hi [] = here (λ r t. no_end t)
found s zero lo hi (a ∷ l) = by_count (count a) refl (λ n. found (a ∷ l) n (least a) (greatest a) l)
  where
    by_count : (k : ℕ) → count a ≡ k → ((n : ℕ) → Finds (a ∷ l) n (least a) (greatest a) l) → Finds s 0 lo hi (a ∷ l)
    by_count zero e f = rw (stray s lo hi {b = a} {l = l} refl e) (later none (at_once (a ∷ l) (omega arith) (λ r. unled a l r e)))
    by_count (suc n) e f = rw (begun s lo hi {b = a} {l = l} refl e) (opened e (f n))
found s (suc n) lo hi (b ∷ l) = by_range (cases_in lo hi b) (found s n 128 191 l)
  where
    by_range : IsInRange lo hi b ⊎ (IsInRange lo hi b → ⊥) → Finds s n 128 191 l → Finds s (suc n) lo hi (b ∷ l)
    by_range (inl h) f = rw (followed s lo hi {b = b} {l = l} refl n h) (longer h f)
    by_range (inr h) f = rw (broken s lo hi {b = b} {l = l} refl n h) (here (λ r t. h (first t)))

abbrev Told : List ℕ → Option (List ℕ) → Type 0
Told c None = WellFormed c
Told c (Some t) = IllFormed c t

told : (c : List ℕ) → Told c (ill_formed c)
told c = whole (found c 0 128 191 c)
  where
    whole : {o : Option (List ℕ)} → Found c c 0 128 191 o → Told c o
    whole (all none w) = w
    whole (here f) = absurd (f c none)
    whole (later none i) = i

pub accepts : Accepts
accepts c = (λ e. subst (Told c) e (told c), accepted)

pub locates : Locates
locates c t e = subst (Told c) e (told c)

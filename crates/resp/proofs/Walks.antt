-- The walk over a reply and its items.
use Rattle.std.proofs.Common.{◌≡◌, ℕ, zero, suc, ◌+◌, ◌-◌, ◌*◌, ◌<◌, ◌≤◌, Bool, true, false, List, [], ◌∷◌, length, drop, Ok, Err, Result, sym, refl, ap, ◌∙◌, subst, arith}
use Rattle.std.proofs.lemmas.Bool.{false≢true}
use Rattle.resp.specs.declared.fault.WireReason.{WireReason}
use Rattle.resp.specs.declared.fault.WireReason.TheVariants.{Content}
use Rattle.resp.specs.declared.fault.WireFault.{WireFault}
use Rattle.resp.specs.declared.opening.Opening.{Opening}
use Rattle.resp.specs.Out.{Out, ok, fault, and_then, map_out}
use Rattle.resp.specs.Reading.{Head, a_leaf, of_array, of_set, of_push, of_map, of_attribute, array, set, push, map, attribute, items, pair, named, parts, form}
use Rattle.resp.specs.Node.{Node, is_string_node, ended, reading, offset}
use Rattle.resp.specs.Told.{Told, Ends, Opens, items_in, is_push, opening_at, opening_from, named_end, starts_string}
use Rattle.resp.proofs.Outs.{clash}
use Rattle.resp.proofs.Tolds.{told_ok, told_err}
use Rattle.resp.proofs.Opens.{opening_from_lem, read_string}
use Rattle.resp.proofs.Heads.{Headed, opening_agrees}

-- where a reader ends, and not what it read
abbrev pub skim : {A : Type 0} → Out A → Out (Unit {0})
skim o = map_out (λ _. tt) o

skim_map : {A B : Type 0} (g : A → B) (o : Out A) → skim (map_out g o) ≡ skim o
skim_map g (ok a rest) = refl
skim_map g (fault k at) = refl

skim_ended : {A B : Type 0} (g : A → List ℕ → B) (o : Out A) → skim (ended g o) ≡ skim o
skim_ended g (ok a rest) = refl
skim_ended g (fault k at) = refl

told_skim : {A : Type 0} (bs : List ℕ) (o : Out A) (r : Result ℕ WireFault) → Told (Ends bs) bs (skim o) r → Told (Ends bs) bs o r
told_skim bs (ok a rest) (Ok e) h = h
told_skim bs (ok a rest) (Err f) h = h
told_skim bs (fault k at) (Ok e) h = h
told_skim bs (fault k at) (Err f) h = h

-- one item more
items_more : {A : Type 0} (f : List ℕ → Out A) (n : ℕ) (bs : List ℕ) (a : A) (more : List ℕ) → f bs ≡ ok a more → skim (items f (suc n) bs) ≡ skim (items f n more)
items_more f n bs a more e = rw e (skim_map (λ l. a ∷ l) (items f n more))

items_fault : {A : Type 0} (f : List ℕ → Out A) (n : ℕ) (bs : List ℕ) (k : WireReason) (at : List ℕ) → f bs ≡ fault k at → skim (items f (suc n) bs) ≡ fault k at
items_fault f n bs k at e = rw e

-- pairs are twice as many items
second : {A : Type 0} (f : List ℕ → Out A) (n m : ℕ) (a : A) (o : Out A) → ((bs : List ℕ) → skim (items (pair f) n bs) ≡ skim (items f m bs))
    → skim (and_then (map_out (λ b. (a, b)) o) (λ p more. map_out (λ l. p ∷ l) (items (pair f) n more))) ≡ skim (and_then o (λ b more. map_out (λ l. b ∷ l) (items f m more)))
second f n m a (ok b more) ih = skim_map _ (items (pair f) n more) ∙ ih more ∙ sym (skim_map _ (items f m more))
second f n m a (fault k at) ih = refl

first : {A : Type 0} (f : List ℕ → Out A) (n m : ℕ) (o : Out A) → ((bs : List ℕ) → skim (items (pair f) n bs) ≡ skim (items f m bs))
    → skim (and_then (and_then o (λ a more. map_out (λ b. (a, b)) (f more))) (λ p more. map_out (λ l. p ∷ l) (items (pair f) n more)))
    ≡ skim (and_then o (λ a more. map_out (λ l. a ∷ l) (items f (suc m) more)))
first f n m (ok a more) ih = second f n m a (f more) ih ∙ sym (skim_map _ (items f (suc m) more))
first f n m (fault k at) ih = refl

items_pairs : {A : Type 0} (f : List ℕ → Out A) (n : ℕ) (bs : List ℕ) → skim (items (pair f) n bs) ≡ skim (items f (2 * n) bs)
items_pairs f zero bs = refl
items_pairs f (suc n) bs =
    let e : 2 * suc n ≡ suc (suc (2 * n)) = omega arith in
    rw e (first f n (2 * n) (f bs) (items_pairs f n))

-- one item more at the end
one_more : {A : Type 0} (f : List ℕ → Out A) (m : ℕ) (bs : List ℕ) → skim (items f (m + 1) bs) ≡ and_then (skim (items f m bs)) (λ _ l. skim (f l))
one_more f zero bs = tail (f bs)
  where
    tail : {C : Type 0} (o : Out C) → skim (and_then o (λ a more. ok (a ∷ []) more)) ≡ skim o
    tail (ok a more) = refl
    tail (fault k at) = refl
one_more f (suc m) bs =
    let e : suc m + 1 ≡ suc (m + 1) = omega arith in
    rw e (head f m (one_more f m) (f bs))
  where
    head : {A : Type 0} (f : List ℕ → Out A) (m : ℕ) → ((l : List ℕ) → skim (items f (m + 1) l) ≡ and_then (skim (items f m l)) (λ _ l. skim (f l)))
        → (o : Out A) → skim (and_then o (λ a more. map_out (λ l. a ∷ l) (items f (m + 1) more))) ≡ and_then (skim (and_then o (λ a more. map_out (λ l. a ∷ l) (items f m more)))) (λ _ l. skim (f l))
    head f m ih (ok a more) =
        skim_map (λ l. a ∷ l) (items f (m + 1) more) ∙ ih more ∙ ap (λ o. and_then o (λ _ l. skim (f l))) (sym (skim_map (λ l. a ∷ l) (items f m more)))
    head f m ih (fault k at) = refl

about : {A B C : Type 0} (g : A → B → C) (f : List ℕ → Out B) (o : Out A) → skim (and_then o (λ a l. map_out (g a) (f l))) ≡ and_then (skim o) (λ _ l. skim (f l))
about g f (ok a l) = skim_map (g a) (f l)
about g f (fault k at) = refl

-- the parts of a head are so many items, of a push with a string first
parts_items : {R : Type 0} (f : List ℕ → Out R) (string : R → Bool) (h : Head) (bs : List ℕ) → is_push h ≡ false → skim (parts f string h bs) ≡ skim (items f (items_in h) bs)
parts_items f string (a_leaf l) bs e = refl
parts_items f string (of_array n) bs e = skim_map array (items f n bs)
parts_items f string (of_set n) bs e = skim_map set (items f n bs)
parts_items f string (of_push n) bs e = absurd (false≢true (sym e))
parts_items f string (of_map n) bs e = skim_map map (items (pair f) n bs) ∙ items_pairs f n bs
parts_items f string (of_attribute n) bs e =
    about attribute f (items (pair f) n bs) ∙ ap (λ o. and_then o (λ _ l. skim (f l))) (items_pairs f n bs) ∙ sym (one_more f (2 * n) bs)

parts_push : {R : Type 0} (f : List ℕ → Out R) (string : R → Bool) (h : Head) (bs : List ℕ) → is_push h ≡ true → skim (parts f string h bs) ≡ skim (named f string (items_in h) bs)
parts_push f string (a_leaf l) bs e = absurd (false≢true e)
parts_push f string (of_array n) bs e = absurd (false≢true e)
parts_push f string (of_set n) bs e = absurd (false≢true e)
parts_push f string (of_push n) bs e = skim_map push (named f string n bs)
parts_push f string (of_map n) bs e = absurd (false≢true e)
parts_push f string (of_attribute n) bs e = absurd (false≢true e)

named_more : {A : Type 0} (f : List ℕ → Out A) (string : A → Bool) (n : ℕ) (bs : List ℕ) (a : A) (more : List ℕ) → f bs ≡ ok a more → string a ≡ true
    → skim (named f string n bs) ≡ skim (items f (n - 1) more)
named_more f string n bs a more e t = rw (e, t) (skim_map (λ l. a ∷ l) (items f (n - 1) more))

named_other : {A : Type 0} (f : List ℕ → Out A) (string : A → Bool) (n : ℕ) (bs : List ℕ) (a : A) (more : List ℕ) → f bs ≡ ok a more → string a ≡ false
    → skim (named f string n bs) ≡ fault Content bs
named_other f string n bs a more e t = rw (e, t)

named_fault : {A : Type 0} (f : List ℕ → Out A) (string : A → Bool) (n : ℕ) (bs : List ℕ) (k : WireReason) (at : List ℕ) → f bs ≡ fault k at → skim (named f string n bs) ≡ fault k at
named_fault f string n bs k at e = rw e

-- the reading of the bytes from a place on
abbrev pub read_at : List ℕ → ℕ → ℕ → Out Node
read_at bs d at = reading (offset (length bs)) d (drop at bs)

abbrev pub Walked : List ℕ → ℕ → ℕ → Result ℕ WireFault → Type 0
Walked bs d at r = Told (Ends bs) bs (read_at bs d at) r

abbrev pub Opened : List ℕ → ℕ → ℕ → Result Opening WireFault → Type 0
Opened bs d at r = Told (Opens bs) bs (opening_from d bs at) r

-- the same by what is left there
opened_at : (bs : List ℕ) (d at : ℕ) (r : Result Opening WireFault) → Opened bs d at r → Told (Opens bs) bs (opening_at d (drop at bs)) r
opened_at bs d at r t = subst (λ o. Told (Opens bs) bs o r) (opening_from_lem d bs at) t

reading_opened : (at : List ℕ → ℕ) (d : ℕ) (l : List ℕ) (h : Head) (rest : List ℕ) → opening_at d l ≡ ok h rest
    → skim (reading at d l) ≡ skim (parts (reading at (d - 1)) is_string_node h rest)
reading_opened at zero [] h rest e = absurd (clash e)
reading_opened at zero (b ∷ l) h rest e = absurd (clash e)
reading_opened at (suc d) l h rest e =
    let less : d ≡ suc d - 1 = omega arith in
    skim_ended _ (form (reading at d) is_string_node l) ∙ ap (λ o. skim (and_then o (parts (reading at d) is_string_node))) e ∙ ap (λ k. skim (parts (reading at k) is_string_node h rest)) less

reading_shut : (at : List ℕ → ℕ) (d : ℕ) (l : List ℕ) (k : WireReason) (place : List ℕ) → opening_at d l ≡ fault k place → skim (reading at d l) ≡ fault k place
reading_shut at zero [] k place e = cc
reading_shut at zero (b ∷ l) k place e = cc
reading_shut at (suc d) l k place e = skim_ended _ (form (reading at d) is_string_node l) ∙ ap (λ o. skim (and_then o (parts (reading at d) is_string_node))) e

pub walk_shut : (bs : List ℕ) (d at : ℕ) (f : WireFault) → Opened bs d at (Err f) → Walked bs d at (Err f)
walk_shut bs d at f t =
    let (k, place, o, h) = told_err (Opens bs) bs (opening_at d (drop at bs)) f (opened_at bs d at (Err f) t) in
    let e = reading_shut (offset (length bs)) d (drop at bs) k place o in
    told_skim bs (read_at bs d at) (Err f) (rw e h)

-- what is left of a reply after i of so many items
pub record Rest (bs : List ℕ) (at d count i end : ℕ) : Type 0 where
  pub within : end ≤ length bs
  pub left : skim (read_at bs d at) ≡ skim (items (reading (offset (length bs)) (d - 1)) (count - i) (drop end bs))

pub rest_items : (bs : List ℕ) (d at : ℕ) (v : Opening) → Opened bs d at (Ok v) → v.named ≡ false → Rest bs at d v.items 0 v.start
rest_items bs d at v t unnamed =
    let (h, rest, o, w) = told_ok (Opens bs) bs (opening_at d (drop at bs)) v (opened_at bs d at (Ok v) t) in
    let f = reading (offset (length bs)) (d - 1) in
    let z : v.items - 0 ≡ v.items = omega arith in
    record {
      within = w.2;
      left = reading_opened (offset (length bs)) d (drop at bs) h rest o ∙ parts_items f is_string_node h rest (sym w.1 ∙ unnamed)
          ∙ ap (λ n. skim (items f n rest)) (sym w.0 ∙ sym z) ∙ ap (λ l. skim (items f (v.items - 0) l)) w.3;
    }

push_opened : (bs : List ℕ) (d at : ℕ) (v : Opening) → Opened bs d at (Ok v) → v.named ≡ true
    → skim (read_at bs d at) ≡ skim (named (reading (offset (length bs)) (d - 1)) is_string_node v.items (drop v.start bs))
push_opened bs d at v t is =
    let (h, rest, o, w) = told_ok (Opens bs) bs (opening_at d (drop at bs)) v (opened_at bs d at (Ok v) t) in
    let f = reading (offset (length bs)) (d - 1) in
    reading_opened (offset (length bs)) d (drop at bs) h rest o ∙ parts_push f is_string_node h rest (sym w.1 ∙ is)
    ∙ ap (λ n. skim (named f is_string_node n rest)) (sym w.0) ∙ ap (λ l. skim (named f is_string_node v.items l)) w.3

-- a push has an item
pub push_some : (bs : List ℕ) (d at : ℕ) (v : Opening) → Opened bs d at (Ok v) → v.named ≡ true → 0 < v.items
push_some bs d at v t is =
    let (h, rest, o, w) = told_ok (Opens bs) bs (opening_at d (drop at bs)) v (opened_at bs d at (Ok v) t) in
    subst (λ n. 0 < n) (sym w.0) (go d (drop at bs) h rest o (sym w.1 ∙ is))
  where
    counted : (h : Head) (x : List ℕ) → Headed h x → is_push h ≡ true → 0 < items_in h
    counted (a_leaf l) x w e = absurd (false≢true e)
    counted (of_array n) x w e = absurd (false≢true e)
    counted (of_set n) x w e = absurd (false≢true e)
    counted (of_push n) x w e = w.1
    counted (of_map n) x w e = absurd (false≢true e)
    counted (of_attribute n) x w e = absurd (false≢true e)

    go : (d : ℕ) (l : List ℕ) (h : Head) (rest : List ℕ) → opening_at d l ≡ ok h rest → is_push h ≡ true → 0 < items_in h
    go zero [] h rest o e = absurd (clash o)
    go zero (b ∷ l) h rest o e = absurd (clash o)
    go (suc d) l h rest o e = let (x, split, w) = opening_agrees.sound l h rest o in counted h x w e

-- what `named_end` answered
named_ok : (s : Bool) (at one end : ℕ) → Ok end ≡ named_end s at one → (s ≡ true) × (end ≡ one)
named_ok true at one end e = (refl, cc)
named_ok false at one end e = absurd (cc)

named_err : (s : Bool) (at one : ℕ) (f : WireFault) → Err f ≡ named_end s at one → (s ≡ false) × (record { reason = Content; place = at } ≡ f)
named_err true at one f e = absurd (cc)
named_err false at one f e = (refl, cc)

pub rest_push : (bs : List ℕ) (d at : ℕ) (v : Opening) (one next : ℕ) → Opened bs d at (Ok v) → v.named ≡ true → Walked bs (d - 1) v.start (Ok one)
    → Ok next ≡ named_end (starts_string (drop v.start bs)) v.start one → Rest bs at d (v.items - 1) 0 next
rest_push bs d at v one next t is w n =
    let f = reading (offset (length bs)) (d - 1) in
    let (a, more, o, h) = told_ok (Ends bs) bs (read_at bs (d - 1) v.start) one w in
    let (s, same) = named_ok (starts_string (drop v.start bs)) v.start one next n in
    let z : v.items - 1 - 0 ≡ v.items - 1 = omega arith in
    let string : is_string_node a ≡ true = read_string (offset (length bs)) (d - 1) (drop v.start bs) a more o ∙ s in
    subst (λ e. Rest bs at d (v.items - 1) 0 e) (sym same)
    (record {
      within = h.0;
      left = push_opened bs d at v t is ∙ named_more f is_string_node v.items (drop v.start bs) a more o string
          ∙ ap (λ n. skim (items f n more)) (sym z) ∙ ap (λ l. skim (items f (v.items - 1 - 0) l)) h.1;
    })

pub push_other : (bs : List ℕ) (d at : ℕ) (v : Opening) (one : ℕ) (g : WireFault) → Opened bs d at (Ok v) → v.named ≡ true → Walked bs (d - 1) v.start (Ok one)
    → Err g ≡ named_end (starts_string (drop v.start bs)) v.start one → Walked bs d at (Err g)
push_other bs d at v one g t is w n =
    let f = reading (offset (length bs)) (d - 1) in
    let (h', rest, o', u) = told_ok (Opens bs) bs (opening_at d (drop at bs)) v (opened_at bs d at (Ok v) t) in
    let (a, more, o, h) = told_ok (Ends bs) bs (read_at bs (d - 1) v.start) one w in
    let (s, same) = named_err (starts_string (drop v.start bs)) v.start one g n in
    let string : is_string_node a ≡ false = read_string (offset (length bs)) (d - 1) (drop v.start bs) a more o ∙ s in
    let e : skim (read_at bs d at) ≡ fault Content (drop v.start bs) = push_opened bs d at v t is ∙ named_other f is_string_node v.items (drop v.start bs) a more o string in
    subst (λ k. Walked bs d at (Err k)) same (told_skim bs (read_at bs d at) (Err (record { reason = Content; place = v.start })) (rw e (refl, u.2, refl)))

pub push_fault : (bs : List ℕ) (d at : ℕ) (v : Opening) (f : WireFault) → Opened bs d at (Ok v) → v.named ≡ true → Walked bs (d - 1) v.start (Err f) → Walked bs d at (Err f)
push_fault bs d at v f t is w =
    let (k, place, o, h) = told_err (Ends bs) bs (read_at bs (d - 1) v.start) f w in
    let e : skim (read_at bs d at) ≡ fault k place = push_opened bs d at v t is ∙ named_fault (reading (offset (length bs)) (d - 1)) is_string_node v.items (drop v.start bs) k place o in
    told_skim bs (read_at bs d at) (Err f) (rw e h)

pub rest_more : (bs : List ℕ) (at d count i end next : ℕ) → Rest bs at d count i end → i < count → Walked bs (d - 1) end (Ok next) → Rest bs at d count (i + 1) next
rest_more bs at d count i end next r lt t =
    let f = reading (offset (length bs)) (d - 1) in
    let (a, more, o, h) = told_ok (Ends bs) bs (read_at bs (d - 1) end) next t in
    let s : count - i ≡ suc (count - (i + 1)) = omega arith in
    record {
      within = h.0;
      left = r.left ∙ ap (λ n. skim (items f n (drop end bs))) s ∙ items_more f (count - (i + 1)) (drop end bs) a more o
          ∙ ap (λ l. skim (items f (count - (i + 1)) l)) h.1;
    }

pub rest_fault : (bs : List ℕ) (at d count i end : ℕ) (f : WireFault) → Rest bs at d count i end → i < count → Walked bs (d - 1) end (Err f) → Walked bs d at (Err f)
rest_fault bs at d count i end f r lt t =
    let (k, x, o, h) = told_err (Ends bs) bs (read_at bs (d - 1) end) f t in
    let s : count - i ≡ suc (count - (i + 1)) = omega arith in
    let e : skim (read_at bs d at) ≡ fault k x =
    r.left ∙ ap (λ n. skim (items (reading (offset (length bs)) (d - 1)) n (drop end bs))) s ∙ items_fault (reading (offset (length bs)) (d - 1)) (count - (i + 1)) (drop end bs) k x o in
    told_skim bs (read_at bs d at) (Err f) (rw e h)

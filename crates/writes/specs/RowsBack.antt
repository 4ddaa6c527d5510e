-- Lists, sets and maps read back what they wrote.
use Rattle.std.specs.Prelude.{◌≡◌, ℕ, suc, ◌-◌, Bool, false, cond, ◌||◌, List, [], ◌∷◌, ◌++◌, length, take, Ok, Option, Result, refl}
use Rattle.std.proofs.Common.{sym, ap, ◌∙◌, subst, append_assoc, arith, length-append}
use Rattle.std.proofs.lemmas.List.{take_at}
use Rattle.resp.specs.Reply.{Reply}
use Rattle.resp.specs.Node.{Node, erase}
use Rattle.reply.specs.declared.spot.Spot.{Spot}
use Rattle.reply.specs.Held.{Held}
use Rattle.reply.specs.Inside.{Inside}
use Rattle.reply.specs.Parts.{flat_of, parts_of, spot_of}
use Rattle.kinds.specs.declared.fault.Fault.{Fault}
use Rattle.kinds.specs.Rows.{and_then, bytes_of, counted, many_by, many_of, mapped, onto}
use Rattle.kinds.specs.Texts.{case_at, text_in}
use Rattle.collections.specs.declared.listed.Listed.{Listed}
use Rattle.collections.specs.Lists.{list_by, list_rows, listed_at, listed_one}
use Rattle.collections.specs.Maps.{entries, entry_one, last_for, map_by, map_of, map_rows, merged_in, seen_key}
use Rattle.collections.specs.Sets.{firsts_in, seen_in, set_by, set_of, set_rows}
use Rattle.writes.specs.Writing.{All, Apart, Each, ManyBack, ReadsBack, Unlike, Can2, list_written, MapCan, map_written, RowsStand, SetCan, set_written, Stands2}
use Rattle.writes.specs.Trees.{all_inside, alternated, array_of, map_of_lem, set_of_lem}
use Rattle.writes.specs.ReadBack.{each_back}

-- the rows of a part, as a value
listed_is : {V M : Type 0} (bs : List ℕ) (tree : Node) → Held bs tree → (rows : Node → Result (List V) Fault) (stands : V → M → Type 0) (n : Node) (vs : List V) (ms : List M)
    → Inside n tree → rows n ≡ Ok vs → Each stands vs ms → (v : Listed V) × (listed_one rows n ≡ Ok v) × RowsStand tree rows stands v ms
listed_is bs tree h rows stands n vs ms i e s =
    (listed_at (spot_of n) (length vs), ap (λ r. and_then (counted r) (λ c. Ok (listed_at (spot_of n) c))) e, (n, vs, h.found n i, e, refl, s))

pub list_back : {V M : Type 0} (bs : List ℕ) (tree : Node) → Held bs tree → (one : Node → Result V Fault) (flat : List Node → Bool) (more : ℕ) (joined : Spot → List Node → Result V Fault) (bytewise : Option (ℕ → V))
    (can : M → Type 0) (written : M → Reply) (stands : V → M → Type 0) → ManyBack tree (λ ns. many_of one (flat ns) more joined ns) can written stands
    → ReadsBack tree (listed_one (list_rows one flat more joined bytewise)) (All can) (list_written written) (RowsStand tree (list_rows one flat more joined bytewise) stands)
list_back bs tree h one flat more joined bytewise can written stands back ms n i c e =
    let (k, t) = array_of n (mapped written ms) e in
    let ns = parts_of n in
    let ins = all_inside n tree ns i (subst (All (λ x. Inside x n)) (sym t.parts) t.inner) in
    let (vs, o, s) = back ms ns ins c (ap (mapped erase) t.parts ∙ t.items) in
    let r : list_rows one flat more joined bytewise n ≡ Ok vs =
    ap (list_by (spot_of n) (bytes_of bytewise (one n) (text_in n)) (many_of one (flat ns) more joined ns) (many_by one ns)) k ∙ o in
    listed_is bs tree h (list_rows one flat more joined bytewise) stands n vs ms i r s

-- a set without equals keeps all
none_seen : (alike : Node → Node → Bool) (n : Node) (ns : List Node) → All (λ m. alike m n ≡ false) ns → seen_in alike n ns ≡ false
none_seen alike n [] a = refl
none_seen alike n (m ∷ ms) a = ap (λ b. b || seen_in alike n ms) a.0 ∙ none_seen alike n ms a.1

Unlikes : (Node → Node → Bool) → List Node → Type 0
Unlikes alike [] = Unit {0}
Unlikes alike (n ∷ ns) = All (λ m. alike n m ≡ false) ns × Unlikes alike ns

all_map : {A : Type 0} (P Q : A → Type 0) → ((x : A) → P x → Q x) → (xs : List A) → All P xs → All Q xs
all_map P Q f [] a = tt
all_map P Q f (x ∷ xs) a = (f x a.0, all_map P Q f xs a.1)

all_join : {A : Type 0} (P : A → Type 0) (xs ys : List A) → All P xs → All P ys → All P (xs ++ ys)
all_join P [] ys a b = b
all_join P (x ∷ xs) ys a b = (a.0, all_join P xs ys a.1 b)

front_of : (pre : List Node) (n : Node) (ns : List Node) → take (length (pre ++ (n ∷ ns)) - suc (length ns)) (pre ++ (n ∷ ns)) ≡ pre
front_of pre n ns = let l = length-append pre (n ∷ ns) in take_at pre (n ∷ ns) (length (pre ++ (n ∷ ns)) - suc (length ns)) (omega arith)

firsts_all : (alike : Node → Node → Bool) (pre ns : List Node) → All (λ p. All (λ m. alike p m ≡ false) ns) pre → Unlikes alike ns → firsts_in alike (pre ++ ns) ns ≡ ns
unfolding Unlikes
firsts_all alike pre [] a u = refl
firsts_all alike pre (n ∷ ns) a u =
    let whole = pre ++ (n ∷ ns) in
    let heads : All (λ p. alike p n ≡ false) pre = all_map (λ p. All (λ m. alike p m ≡ false) (n ∷ ns)) (λ p. alike p n ≡ false) (λ p x. x.0) pre a in
    let tails : All (λ p. All (λ m. alike p m ≡ false) ns) pre = all_map (λ p. All (λ m. alike p m ≡ false) (n ∷ ns)) (λ p. All (λ m. alike p m ≡ false) ns) (λ p x. x.1) pre a in
    let next : firsts_in alike ((pre ++ (n ∷ [])) ++ ns) ns ≡ ns = firsts_all alike (pre ++ (n ∷ [])) ns (all_join (λ p. All (λ m. alike p m ≡ false) ns) pre (n ∷ []) tails (u.0, tt)) u.1 in
    let same : (pre ++ (n ∷ [])) ++ ns ≡ whole = append_assoc pre (n ∷ []) ns in
    ap (λ l. cond (seen_in alike n l) (firsts_in alike whole ns) (n ∷ firsts_in alike whole ns)) (front_of pre n ns)
    ∙ ap (λ b. cond b (firsts_in alike whole ns) (n ∷ firsts_in alike whole ns)) (none_seen alike n pre heads)
    ∙ ap (λ l. n ∷ firsts_in alike l ns) (sym same)
    ∙ ap (λ l. n ∷ l) next

unlike_with : {M : Type 0} (alike : Node → Node → Bool) (written : M → Reply) (n : Node) (r : Reply) → erase n ≡ r → (ms : List M) (ns : List Node) → All (λ l. Unlike alike r (written l)) ms
    → mapped erase ns ≡ mapped written ms → All (λ m. alike n m ≡ false) ns
unlike_with alike written n r e ms [] a q = tt
unlike_with alike written n r e [] (x ∷ ns) a q = absurd cc
unlike_with alike written n r e (m ∷ ms) (x ∷ ns) a q =
    let p : erase x ≡ written m = cc in
    let t : mapped erase ns ≡ mapped written ms = cc in
    (a.0 n x e p, unlike_with alike written n r e ms ns a.1 t)

unlikes : {M : Type 0} (alike : Node → Node → Bool) (written : M → Reply) (ms : List M) (ns : List Node) → Apart alike written ms → mapped erase ns ≡ mapped written ms → Unlikes alike ns
unfolding Unlikes
unlikes alike written ms [] a q = tt
unlikes alike written [] (x ∷ ns) a q = absurd cc
unlikes alike written (m ∷ ms) (x ∷ ns) a q =
    let p : erase x ≡ written m = cc in
    let t : mapped erase ns ≡ mapped written ms = cc in
    (unlike_with alike written x (written m) p ms ns a.0 t, unlikes alike written ms ns a.1 t)

pub set_back : {V M : Type 0} (bs : List ℕ) (tree : Node) → Held bs tree → (one : Node → Result V Fault) (alike : Node → Node → Bool) (can : M → Type 0) (written : M → Reply) (stands : V → M → Type 0)
    → ReadsBack tree one can written stands
    → ReadsBack tree (listed_one (set_rows one alike)) (SetCan alike can written) (set_written written) (RowsStand tree (set_rows one alike) stands)
set_back bs tree h one alike can written stands back ms n i c e =
    let (k, t) = set_of_lem n (mapped written ms) e in
    let ns = parts_of n in
    let ins = all_inside n tree ns i (subst (All (λ x. Inside x n)) (sym t.parts) t.inner) in
    let q : mapped erase ns ≡ mapped written ms = ap (mapped erase) t.parts ∙ t.items in
    let (vs, o, s) = each_back tree one can written stands back ms ns ins c.0 q in
    let f : firsts_in alike ns ns ≡ ns = firsts_all alike [] ns tt (unlikes alike written ms ns c.1 q) in
    let r : set_rows one alike n ≡ Ok vs =
    ap (λ x. set_by (spot_of n) (set_of one alike (parts_of x)) (case_at x)) t.bare
    ∙ ap (set_by (spot_of n) (set_of one alike ns)) k
    ∙ ap (λ x. and_then x (λ read. many_by one (firsts_in alike ns ns))) o
    ∙ ap (many_by one) f ∙ o in
    listed_is bs tree h (set_rows one alike) stands n vs ms i r s

-- entries, one after another
abbrev halves : {A B : Type 0} → (A → Reply) → (B → Reply) → List (A × B) → List Reply
halves wk wv ms = alternated (mapped (λ m. (wk m.0, wv m.1)) ms)

entries_back : {A B MA MB : Type 0} (tree : Node) (key : Node → Result A Fault) (value : Node → Result B Fault) (ck : MA → Type 0) (cv : MB → Type 0) (wk : MA → Reply) (wv : MB → Reply) (sk : A → MA → Type 0) (sv : B → MB → Type 0)
    → ReadsBack tree key ck wk sk → ReadsBack tree value cv wv sv → (ms : List (MA × MB)) (ns : List Node) → All (λ n. Inside n tree) ns → All (Can2 ck cv) ms → mapped erase ns ≡ halves wk wv ms
    → (vs : List (A × B)) × (many_by (entry_one key value) (entries ns) ≡ Ok vs) × Each (Stands2 sk sv) vs ms
entries_back tree key value ck cv wk wv sk sv bk bv [] [] i c e = ([], refl, tt)
entries_back tree key value ck cv wk wv sk sv bk bv [] (k ∷ ns) i c e = absurd cc
entries_back tree key value ck cv wk wv sk sv bk bv (m ∷ ms) [] i c e = absurd cc
entries_back tree key value ck cv wk wv sk sv bk bv (m ∷ ms) (k ∷ []) i c e = absurd cc
entries_back tree key value ck cv wk wv sk sv bk bv (m ∷ ms) (k ∷ v ∷ ns) i c e =
    let p : erase k ≡ wk m.0 = cc in
    let q : erase v ≡ wv m.1 = cc in
    let t : mapped erase ns ≡ halves wk wv ms = cc in
    let (x, ox, sx) = bk m.0 k i.0 c.0.0 p in
    let (y, oy, sy) = bv m.1 v i.1.0 c.0.1 q in
    let (vs, os, ss) = entries_back tree key value ck cv wk wv sk sv bk bv ms ns i.1.1 c.1 t in (
      (x, y) ∷ vs,
      ap (λ r. and_then (and_then r (λ a. and_then (value v) (λ b. Ok (a, b)))) (λ u. onto u (many_by (entry_one key value) (entries ns)))) ox ∙ ap (λ r. and_then (and_then r (λ b. Ok (x, b))) (λ u. onto u (many_by (entry_one key value) (entries ns)))) oy ∙ ap (onto (x, y)) os,
      ((sx, sy), ss),
    )

-- of each key
KeyAll : (Node → Type 0) → List Node → Type 0
KeyAll P [] = Unit {0}
KeyAll P (k ∷ []) = Unit {0}
KeyAll P (k ∷ v ∷ ns) = P k × KeyAll P ns

KeysUnlike : (Node → Node → Bool) → List Node → Type 0
KeysUnlike alike [] = Unit {0}
KeysUnlike alike (k ∷ []) = Unit {0}
KeysUnlike alike (k ∷ v ∷ ns) = KeyAll (λ j. alike k j ≡ false) ns × KeysUnlike alike ns

flat_pairs : List (Node × Node) → List Node
flat_pairs [] = []
flat_pairs (p ∷ ps) = p.0 ∷ p.1 ∷ flat_pairs ps

flat_join : (ps qs : List (Node × Node)) → flat_pairs (ps ++ qs) ≡ flat_pairs ps ++ flat_pairs qs
unfolding flat_pairs
flat_join [] qs = refl
flat_join (p ∷ ps) qs = ap (λ l. p.0 ∷ p.1 ∷ l) (flat_join ps qs)

key_none : (alike : Node → Node → Bool) (k : Node) (ps : List (Node × Node)) → All (λ p. alike p.0 k ≡ false) ps → seen_key alike k (flat_pairs ps) ≡ false
unfolding flat_pairs
key_none alike k [] a = refl
key_none alike k (p ∷ ps) a = ap (λ b. b || seen_key alike k (flat_pairs ps)) a.0 ∙ key_none alike k ps a.1

last_same : (alike : Node → Node → Bool) (k v : Node) (ns : List Node) → KeyAll (λ j. alike k j ≡ false) ns → last_for alike k v ns ≡ v
unfolding KeyAll
last_same alike k v [] a = refl
last_same alike k v (j ∷ []) a = refl
last_same alike k v (j ∷ w ∷ ns) a = ap (λ b. last_for alike k (cond b w v) ns) a.0 ∙ last_same alike k v ns a.1

front_two : (pre : List Node) (k v : Node) (ns : List Node) → take (length (pre ++ (k ∷ v ∷ ns)) - suc (suc (length ns))) (pre ++ (k ∷ v ∷ ns)) ≡ pre
front_two pre k v ns = let l = length-append pre (k ∷ v ∷ ns) in take_at pre (k ∷ v ∷ ns) (length (pre ++ (k ∷ v ∷ ns)) - suc (suc (length ns))) (omega arith)

merged_all : (alike : Node → Node → Bool) (pre : List (Node × Node)) (ns : List Node) → All (λ p. KeyAll (λ j. alike p.0 j ≡ false) ns) pre → KeysUnlike alike ns → merged_in alike (flat_pairs pre ++ ns) ns ≡ entries ns
unfolding KeyAll KeysUnlike flat_pairs
merged_all alike pre [] a u = refl
merged_all alike pre (k ∷ []) a u = refl
merged_all alike pre (k ∷ v ∷ ns) a u =
    let flat = flat_pairs pre in
    let whole = flat ++ (k ∷ v ∷ ns) in
    let heads : All (λ p. alike p.0 k ≡ false) pre = all_map (λ p. KeyAll (λ j. alike p.0 j ≡ false) (k ∷ v ∷ ns)) (λ p. alike p.0 k ≡ false) (λ p x. x.0) pre a in
    let tails : All (λ p. KeyAll (λ j. alike p.0 j ≡ false) ns) pre =
    all_map (λ p. KeyAll (λ j. alike p.0 j ≡ false) (k ∷ v ∷ ns)) (λ p. KeyAll (λ j. alike p.0 j ≡ false) ns) (λ p x. x.1) pre a in
    let more = pre ++ ((k, v) ∷ []) in
    let next : merged_in alike (flat_pairs more ++ ns) ns ≡ entries ns =
    merged_all alike more ns (all_join (λ p. KeyAll (λ j. alike p.0 j ≡ false) ns) pre ((k, v) ∷ []) tails (u.0, tt)) u.1 in
    let same : flat_pairs more ++ ns ≡ whole = ap (λ l. l ++ ns) (flat_join pre ((k, v) ∷ [])) ∙ append_assoc flat (k ∷ v ∷ []) ns in
    ap (λ l. cond (seen_key alike k l) (merged_in alike whole ns) ((k, last_for alike k v ns) ∷ merged_in alike whole ns)) (front_two flat k v ns)
    ∙ ap (λ b. cond b (merged_in alike whole ns) ((k, last_for alike k v ns) ∷ merged_in alike whole ns)) (key_none alike k pre heads)
    ∙ ap (λ w. (k, w) ∷ merged_in alike whole ns) (last_same alike k v ns u.0)
    ∙ ap (λ l. (k, v) ∷ merged_in alike l ns) (sym same)
    ∙ ap (λ l. (k, v) ∷ l) next

key_with : {MA MB : Type 0} (alike : Node → Node → Bool) (wk : MA → Reply) (wv : MB → Reply) (n : Node) (r : Reply) → erase n ≡ r → (ms : List (MA × MB)) (ns : List Node)
    → All (λ l. Unlike alike r (wk l.0)) ms → mapped erase ns ≡ halves wk wv ms → KeyAll (λ j. alike n j ≡ false) ns
unfolding KeyAll
key_with alike wk wv n r e ms [] a q = tt
key_with alike wk wv n r e ms (k ∷ []) a q = tt
key_with alike wk wv n r e [] (k ∷ v ∷ ns) a q = absurd cc
key_with alike wk wv n r e (m ∷ ms) (k ∷ v ∷ ns) a q =
    let p : erase k ≡ wk m.0 = cc in
    let t : mapped erase ns ≡ halves wk wv ms = cc in
    (a.0 n k e p, key_with alike wk wv n r e ms ns a.1 t)

keys_unlike : {MA MB : Type 0} (alike : Node → Node → Bool) (wk : MA → Reply) (wv : MB → Reply) (ms : List (MA × MB)) (ns : List Node) → Apart alike (λ m. wk m.0) ms → mapped erase ns ≡ halves wk wv ms → KeysUnlike alike ns
unfolding KeysUnlike
keys_unlike alike wk wv ms [] a q = tt
keys_unlike alike wk wv ms (k ∷ []) a q = tt
keys_unlike alike wk wv [] (k ∷ v ∷ ns) a q = absurd cc
keys_unlike alike wk wv (m ∷ ms) (k ∷ v ∷ ns) a q =
    let p : erase k ≡ wk m.0 = cc in
    let t : mapped erase ns ≡ halves wk wv ms = cc in
    (key_with alike wk wv k (wk m.0) p ms ns a.0 t, keys_unlike alike wk wv ms ns a.1 t)

pub map_back : {A B MA MB : Type 0} (bs : List ℕ) (tree : Node) → Held bs tree → (key : Node → Result A Fault) (value : Node → Result B Fault) (alike : Node → Node → Bool) (ck : MA → Type 0) (cv : MB → Type 0) (wk : MA → Reply) (wv : MB → Reply)
    (sk : A → MA → Type 0) (sv : B → MB → Type 0) → ReadsBack tree key ck wk sk → ReadsBack tree value cv wv sv
    → ReadsBack tree (listed_one (map_rows key value alike)) (MapCan alike ck cv wk) (map_written wk wv) (RowsStand tree (map_rows key value alike) (Stands2 sk sv))
unfolding flat_pairs
map_back bs tree h key value alike ck cv wk wv sk sv bk bv ms n i c e =
    let (k, t) = map_of_lem n (mapped (λ m. (wk m.0, wv m.1)) ms) e in
    let ns = flat_of n in
    let ins = all_inside n tree ns i t.inner in
    let (vs, o, s) = entries_back tree key value ck cv wk wv sk sv bk bv ms ns ins c.0 t.items in
    let f : merged_in alike ns ns ≡ entries ns = merged_all alike [] ns tt (keys_unlike alike wk wv ms ns c.1 t.items) in
    let r : map_rows key value alike n ≡ Ok vs =
    ap (λ x. map_by (spot_of n) (flat_of x) (map_of key value alike (flat_of x)) (case_at x)) t.bare
    ∙ ap (map_by (spot_of n) ns (map_of key value alike ns)) k
    ∙ ap (λ x. and_then x (λ read. many_by (entry_one key value) (merged_in alike ns ns))) o
    ∙ ap (many_by (entry_one key value)) f ∙ o in
    listed_is bs tree h (map_rows key value alike) (Stands2 sk sv) n vs ms i r s

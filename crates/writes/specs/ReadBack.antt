-- Kinds read back what they wrote.
use Rattle.std.specs.Prelude.{◌≡◌, ℕ, suc, true, false, cond, ◌&&◌, List, [], ◌∷◌, length, take, drop, ℤ, Some, None, Ok, Err, Result, ◌==◌, nat_eq, refl}
use Rattle.std.proofs.Common.{sym, ap, ◌∙◌, subst}
use Rattle.std.proofs.lemmas.Bool.{false≢true}
use Rattle.resp.specs.declared.case.Case.TheVariants as case
use Rattle.resp.specs.Reply.{Leaf, Nil, Int, BulkString, SimpleString, Okay, Double, Boolean, VerbatimString, BigNumber, ServerError, Reply, One}
use Rattle.resp.specs.Node.{Node, OneAt, ArrayAt, SetAt, PushAt, MapAt, AttributeAt, PairAt, erase}
use Rattle.reply.specs.declared.spot.Spot.{Spot}
use Rattle.reply.specs.Held.{Held}
use Rattle.reply.specs.Inside.{Inside}
use Rattle.reply.specs.Parted.{part_of}
use Rattle.reply.specs.Parts.{flat_of, spot_of, unwrapped}
use Rattle.reply.specs.Says.{Says}
use Rattle.utf8.specs.Scan.{ill_formed}
use Rattle.kinds.specs.declared.bounds.Bounds.{Bounds}
use Rattle.kinds.specs.declared.fault.ElementReason.TheVariants.{Kind, Range, Count}
use Rattle.kinds.specs.declared.fault.Fault.{Fault}
use Rattle.kinds.specs.Fault.{refused}
use Rattle.kinds.specs.Numbers.{integer_one, narrowed, or_refuse}
use Rattle.kinds.specs.Plain.{bool_one, option_by, option_one, some, text_one, utf8_by, value_one}
use Rattle.kinds.specs.Rows.{and_then, many_by, many_of, mapped, onto}
use Rattle.kinds.specs.Texts.{case_at}
use Rattle.kinds.specs.Tuples.{exactly, fields2, fields3, fields4, holds, is_tuple, tuple_flat, tuple_one}
use Rattle.writes.specs.Writing.{All, ManyBack, ReadsBack, InBounds, is_solid, OptionCan, OptionStands, option_written, PlaceStands, TextStands, written2, written3, written4, Stands2, Stands3, Stands4, Can2, Can3, Can4}
use Rattle.writes.specs.Trees.{leaf_of_lem, array_of, all_inside}

-- each by itself
pub each_back : {V M : Type 0} (tree : Node) (one : Node → Result V Fault) (can : M → Type 0) (written : M → Reply) (stands : V → M → Type 0)
    → ReadsBack tree one can written stands → ManyBack tree (many_by one) can written stands
each_back tree one can written stands back [] [] i c e = ([], refl, tt)
each_back tree one can written stands back [] (n ∷ ns) i c e = absurd cc
each_back tree one can written stands back (m ∷ ms) [] i c e = absurd cc
each_back tree one can written stands back (m ∷ ms) (n ∷ ns) i c e =
    let p : erase n ≡ written m = cc in
    let q : mapped erase ns ≡ mapped written ms = cc in
    let (v, o, s) = back m n i.0 c.0 p in
    let (vs, os, ss) = each_back tree one can written stands back ms ns i.1 c.1 q in
    (v ∷ vs, ap (λ r. and_then r (λ x. onto x (many_by one ns))) o ∙ ap (onto v) os, (s, ss))

-- the same of the rows of a list, where each of its replies is a row
pub rows_back : {V M : Type 0} (tree : Node) (one : Node → Result V Fault) (many : List Node → Result (List V) Fault) (can : M → Type 0) (written : M → Reply) (stands : V → M → Type 0)
    → ((ns : List Node) → many ns ≡ many_by one ns) → ReadsBack tree one can written stands → ManyBack tree many can written stands
rows_back tree one many can written stands each back ms ns i c e =
    let (vs, o, s) = each_back tree one can written stands back ms ns i c e in
    (vs, each ns ∙ o, s)

pub int_back : (tree : Node) (b : Bounds) → ReadsBack tree (integer_one b) (InBounds b) (λ z. One (Int z)) (λ v m. v ≡ m)
int_back tree b z n i c e =
    let l = leaf_of_lem n (Int z) e in
    (z, ap (integer_one b) l.is ∙ ap (λ t. or_refuse Range (spot_of (OneAt l.from l.to (Int z))) (cond t (Some z) None)) c, refl)

-- the same of any type of integers: narrow is the value that an integer is, and widen the integer that a value is
pub integer_back : {V : Type 0} (tree : Node) (b : Bounds) (narrow : ℤ → V) (widen : V → ℤ) (carried : V → Type 0) → ((v : V) → narrow (widen v) ≡ v)
    → ReadsBack tree (λ n. narrowed narrow (integer_one b n)) (λ m. InBounds b (widen m) × carried m) (λ m. One (Int (widen m))) (λ v m. v ≡ m)
integer_back tree b narrow widen carried same m n i c e =
    let (z, o, s) = int_back tree b (widen m) n i c.0 e in
    (narrow z, ap (narrowed narrow) o, ap narrow s ∙ same m)

pub bool_back : (tree : Node) → ReadsBack tree bool_one (λ m. Unit {0}) (λ m. One (Boolean m)) (λ v m. v ≡ m)
bool_back tree true n i c e = (true, ap bool_one (leaf_of_lem n (Boolean true) e).is, refl)
bool_back tree false n i c e = (false, ap bool_one (leaf_of_lem n (Boolean false) e).is, refl)

pub text_back : (bs : List ℕ) (tree : Node) → Held bs tree → ReadsBack tree text_one (λ m. ill_formed m ≡ None) (λ m. One (BulkString m)) (TextStands bs)
text_back bs tree h m n i c e =
    let l = leaf_of_lem n (BulkString m) e in
    let k = OneAt l.from l.to (BulkString m) in (
      part_of n,
      ap text_one l.is ∙ ap (λ o. utf8_by (spot_of k) o (Ok (part_of k))) c ∙ ap (λ x. Ok (part_of x)) (sym l.is),
      subst (λ x. Says x (take (part_of n).len (drop (part_of n).start bs))) l.is (h.texts n i),
    )

pub value_back : (bs : List ℕ) (tree : Node) → Held bs tree → ReadsBack tree value_one (λ m. Unit {0}) (λ m. m) (PlaceStands tree)
value_back bs tree h m n i c e = (spot_of n, refl, (n, h.found n i, e))

-- what is neither a nil nor an attribute
solid_leaf : (p e : ℕ) (l : Leaf) → is_solid (One l) ≡ true → {V : Type 0} (r : Result V Fault) → option_by r (case_at (OneAt p e l)) ≡ some r
solid_leaf p e Nil h r = absurd (false≢true h)
solid_leaf p e (Int z) h r = refl
solid_leaf p e (BulkString s) h r = refl
solid_leaf p e (SimpleString s) h r = refl
solid_leaf p e Okay h r = refl
solid_leaf p e (Double s) h r = refl
solid_leaf p e (Boolean b) h r = refl
solid_leaf p e (VerbatimString f s) h r = refl
solid_leaf p e (BigNumber s) h r = refl
solid_leaf p e (ServerError s) h r = refl

solid_of : (n : Node) → is_solid (erase n) ≡ true → {V : Type 0} (one : Node → Result V Fault) → option_one one n ≡ some (one n)
solid_of (OneAt p e l) h one = solid_leaf p e l h (one (OneAt p e l))
solid_of (ArrayAt p e ns) h one = refl
solid_of (SetAt p e ns) h one = refl
solid_of (PushAt p e ns) h one = refl
solid_of (MapAt p e ps) h one = refl
solid_of (AttributeAt p e ps d) h one = absurd (false≢true h)
solid_of (PairAt p e k v) h one = refl

pub option_back : {V M : Type 0} (tree : Node) (one : Node → Result V Fault) (can : M → Type 0) (written : M → Reply) (stands : V → M → Type 0)
    → ReadsBack tree one can written stands → ReadsBack tree (option_one one) (OptionCan can written) (option_written written) (OptionStands stands)
option_back tree one can written stands back None n i c e = (None, ap (option_one one) (leaf_of_lem n Nil e).is, tt)
option_back tree one can written stands back (Some m) n i c e =
    let (v, o, s) = back m n i c.0 e in
    (Some v, solid_of n (ap is_solid e ∙ c.1) one ∙ ap some o, s)

-- tuples: an array of the parts
tuple_is : {V : Type 0} (m : ℕ) (fields : List Node → Result V Fault) (n : Node) (ns : List Node) → case_at n ≡ case.Array → unwrapped n ≡ n → flat_of n ≡ ns
    → (length ns == suc m) ≡ true → tuple_one m fields n ≡ fields ns
tuple_is m fields n ns c b f l =
    ap (λ x. cond (holds (case_at x)) (exactly m (spot_of n) fields (flat_of x)) (Err (refused Kind (spot_of n)))) b
    ∙ ap (λ k. cond (holds k) (exactly m (spot_of n) fields (flat_of n)) (Err (refused Kind (spot_of n)))) c
    ∙ ap (exactly m (spot_of n) fields) f
    ∙ ap (λ t. cond t (fields ns) (Err (refused Count (spot_of n)))) l

tuple_test : (m : ℕ) (n : Node) (ns : List Node) → case_at n ≡ case.Array → flat_of n ≡ ns → (length ns == suc m) ≡ true → is_tuple m n ≡ true
tuple_test m n ns c f l = ap (λ k. holds k && length (flat_of n) == suc m) c ∙ ap (λ x. nat_eq (length x) (suc m)) f ∙ l

not_flat : {M : Type 0} (k : ℕ) (written : M → Reply) → ((m : M) (n : Node) → erase n ≡ written m → is_tuple k n ≡ true)
    → (ms : List M) (ns : List Node) → mapped erase ns ≡ mapped written ms → tuple_flat k ns ≡ false
not_flat k written t ms [] e = refl
not_flat k written t [] (n ∷ ns) e = absurd cc
not_flat k written t (m ∷ ms) (n ∷ ns) e =
    let p : erase n ≡ written m = cc in
    let q : mapped erase ns ≡ mapped written ms = cc in
    ap (λ b. cond b (tuple_flat k ns) true) (t m n p) ∙ not_flat k written t ms ns q

pub tuples_back : {V M : Type 0} (tree : Node) (k : ℕ) (one : Node → Result V Fault) (joined : Spot → List Node → Result V Fault) (can : M → Type 0) (written : M → Reply) (stands : V → M → Type 0)
    → ((m : M) (n : Node) → erase n ≡ written m → is_tuple k n ≡ true) → ReadsBack tree one can written stands
    → ManyBack tree (λ ns. many_of one (tuple_flat k ns) k joined ns) can written stands
tuples_back tree k one joined can written stands t back ms ns i c e =
    let (vs, os, ss) = each_back tree one can written stands back ms ns i c e in
    (vs, ap (λ b. many_of one b k joined ns) (not_flat k written t ms ns e) ∙ os, ss)

-- 2 replies
record Of2 (ns : List Node) (r0 r1 : Reply) : Type 0 where
  x0 : Node
  x1 : Node
  is : ns ≡ x0 ∷ x1 ∷ []
  ex0 : erase x0 ≡ r0
  ex1 : erase x1 ≡ r1

of2 : (ns : List Node) (r0 r1 : Reply) → mapped erase ns ≡ r0 ∷ r1 ∷ [] → Of2 ns r0 r1
of2 ([]) r0 r1 e = absurd cc
of2 (x0 ∷ []) r0 r1 e = absurd cc
of2 (x0 ∷ x1 ∷ []) r0 r1 e = record { x0 = x0; x1 = x1; is = refl; ex0 = cc; ex1 = cc }
of2 (x0 ∷ x1 ∷ y ∷ ns) r0 r1 e = absurd cc

pub test2 : {Ma : Type 0} {Mb : Type 0} (wa : Ma → Reply) (wb : Mb → Reply) (m : Ma × Mb) (n : Node) → erase n ≡ written2 wa wb m → is_tuple 1 n ≡ true
test2 wa wb m n e =
    let (c, h) = array_of n (wa m.0 ∷ wb m.1 ∷ []) e in
    let o = of2 (flat_of n) (wa m.0) (wb m.1) h.items in
    tuple_test 1 n (o.x0 ∷ o.x1 ∷ []) c o.is refl

pub back2 : {A Ma : Type 0} {B Mb : Type 0} (tree : Node) (a : Node → Result A Fault) (ca : Ma → Type 0) (wa : Ma → Reply) (sa : A → Ma → Type 0) (b : Node → Result B Fault) (cb : Mb → Type 0) (wb : Mb → Reply) (sb : B → Mb → Type 0) → ReadsBack tree a ca wa sa → ReadsBack tree b cb wb sb
    → ReadsBack tree (tuple_one 1 (fields2 a b)) (Can2 ca cb) (written2 wa wb) (Stands2 sa sb)
back2 tree a ca wa sa b cb wb sb ba bb m n i c e =
    let (k, h) = array_of n (wa m.0 ∷ wb m.1 ∷ []) e in
    let o = of2 (flat_of n) (wa m.0) (wb m.1) h.items in
    let inner = subst (All (λ x. Inside x n)) o.is h.inner in
    let ins = all_inside n tree (o.x0 ∷ o.x1 ∷ []) i inner in
    let (va, oa, ta) = ba m.0 o.x0 ins.0 c.0 o.ex0 in
    let (vb, ob, tb) = bb m.1 o.x1 ins.1.0 c.1 o.ex1 in (
      (va, vb),
      tuple_is 1 (fields2 a b) n (o.x0 ∷ o.x1 ∷ []) k h.bare o.is refl
          ∙ ap (λ r. and_then r (λ y0. and_then (b o.x1) (λ y1. Ok (y0, y1)))) oa
          ∙ ap (λ r. and_then r (λ y1. Ok (va, y1))) ob,
      (ta, tb),
    )

-- 3 replies
record Of3 (ns : List Node) (r0 r1 r2 : Reply) : Type 0 where
  x0 : Node
  x1 : Node
  x2 : Node
  is : ns ≡ x0 ∷ x1 ∷ x2 ∷ []
  ex0 : erase x0 ≡ r0
  ex1 : erase x1 ≡ r1
  ex2 : erase x2 ≡ r2

of3 : (ns : List Node) (r0 r1 r2 : Reply) → mapped erase ns ≡ r0 ∷ r1 ∷ r2 ∷ [] → Of3 ns r0 r1 r2
of3 ([]) r0 r1 r2 e = absurd cc
of3 (x0 ∷ []) r0 r1 r2 e = absurd cc
of3 (x0 ∷ x1 ∷ []) r0 r1 r2 e = absurd cc
of3 (x0 ∷ x1 ∷ x2 ∷ []) r0 r1 r2 e = record { x0 = x0; x1 = x1; x2 = x2; is = refl; ex0 = cc; ex1 = cc; ex2 = cc }
of3 (x0 ∷ x1 ∷ x2 ∷ y ∷ ns) r0 r1 r2 e = absurd cc

pub test3 : {Ma : Type 0} {Mb : Type 0} {Mg : Type 0} (wa : Ma → Reply) (wb : Mb → Reply) (wg : Mg → Reply) (m : Ma × Mb × Mg) (n : Node) → erase n ≡ written3 wa wb wg m → is_tuple 2 n ≡ true
test3 wa wb wg m n e =
    let (c, h) = array_of n (wa m.0 ∷ wb m.1 ∷ wg m.2 ∷ []) e in
    let o = of3 (flat_of n) (wa m.0) (wb m.1) (wg m.2) h.items in
    tuple_test 2 n (o.x0 ∷ o.x1 ∷ o.x2 ∷ []) c o.is refl

pub back3 : {A Ma : Type 0} {B Mb : Type 0} {C Mg : Type 0} (tree : Node) (a : Node → Result A Fault) (ca : Ma → Type 0) (wa : Ma → Reply) (sa : A → Ma → Type 0) (b : Node → Result B Fault) (cb : Mb → Type 0) (wb : Mb → Reply) (sb : B → Mb → Type 0) (g : Node → Result C Fault) (cg : Mg → Type 0) (wg : Mg → Reply) (sg : C → Mg → Type 0) → ReadsBack tree a ca wa sa → ReadsBack tree b cb wb sb → ReadsBack tree g cg wg sg
    → ReadsBack tree (tuple_one 2 (fields3 a b g)) (Can3 ca cb cg) (written3 wa wb wg) (Stands3 sa sb sg)
back3 tree a ca wa sa b cb wb sb g cg wg sg ba bb bg m n i c e =
    let (k, h) = array_of n (wa m.0 ∷ wb m.1 ∷ wg m.2 ∷ []) e in
    let o = of3 (flat_of n) (wa m.0) (wb m.1) (wg m.2) h.items in
    let inner = subst (All (λ x. Inside x n)) o.is h.inner in
    let ins = all_inside n tree (o.x0 ∷ o.x1 ∷ o.x2 ∷ []) i inner in
    let (va, oa, ta) = ba m.0 o.x0 ins.0 c.0 o.ex0 in
    let (vb, ob, tb) = bb m.1 o.x1 ins.1.0 c.1 o.ex1 in
    let (vg, og, tg) = bg m.2 o.x2 ins.1.1.0 c.2 o.ex2 in (
      (va, vb, vg),
      tuple_is 2 (fields3 a b g) n (o.x0 ∷ o.x1 ∷ o.x2 ∷ []) k h.bare o.is refl
          ∙ ap (λ r. and_then r (λ y0. and_then (b o.x1) (λ y1. and_then (g o.x2) (λ y2. Ok (y0, y1, y2))))) oa
          ∙ ap (λ r. and_then r (λ y1. and_then (g o.x2) (λ y2. Ok (va, y1, y2)))) ob
          ∙ ap (λ r. and_then r (λ y2. Ok (va, vb, y2))) og,
      (ta, tb, tg),
    )

-- 4 replies
record Of4 (ns : List Node) (r0 r1 r2 r3 : Reply) : Type 0 where
  x0 : Node
  x1 : Node
  x2 : Node
  x3 : Node
  is : ns ≡ x0 ∷ x1 ∷ x2 ∷ x3 ∷ []
  ex0 : erase x0 ≡ r0
  ex1 : erase x1 ≡ r1
  ex2 : erase x2 ≡ r2
  ex3 : erase x3 ≡ r3

of4 : (ns : List Node) (r0 r1 r2 r3 : Reply) → mapped erase ns ≡ r0 ∷ r1 ∷ r2 ∷ r3 ∷ [] → Of4 ns r0 r1 r2 r3
of4 ([]) r0 r1 r2 r3 e = absurd cc
of4 (x0 ∷ []) r0 r1 r2 r3 e = absurd cc
of4 (x0 ∷ x1 ∷ []) r0 r1 r2 r3 e = absurd cc
of4 (x0 ∷ x1 ∷ x2 ∷ []) r0 r1 r2 r3 e = absurd cc
of4 (x0 ∷ x1 ∷ x2 ∷ x3 ∷ []) r0 r1 r2 r3 e = record { x0 = x0; x1 = x1; x2 = x2; x3 = x3; is = refl; ex0 = cc; ex1 = cc; ex2 = cc; ex3 = cc }
of4 (x0 ∷ x1 ∷ x2 ∷ x3 ∷ y ∷ ns) r0 r1 r2 r3 e = absurd cc

pub test4 : {Ma : Type 0} {Mb : Type 0} {Mg : Type 0} {Md : Type 0} (wa : Ma → Reply) (wb : Mb → Reply) (wg : Mg → Reply) (wd : Md → Reply) (m : Ma × Mb × Mg × Md) (n : Node) → erase n ≡ written4 wa wb wg wd m → is_tuple 3 n ≡ true
test4 wa wb wg wd m n e =
    let (c, h) = array_of n (wa m.0 ∷ wb m.1 ∷ wg m.2 ∷ wd m.3 ∷ []) e in
    let o = of4 (flat_of n) (wa m.0) (wb m.1) (wg m.2) (wd m.3) h.items in
    tuple_test 3 n (o.x0 ∷ o.x1 ∷ o.x2 ∷ o.x3 ∷ []) c o.is refl

pub back4 : {A Ma : Type 0} {B Mb : Type 0} {C Mg : Type 0} {D Md : Type 0} (tree : Node) (a : Node → Result A Fault) (ca : Ma → Type 0) (wa : Ma → Reply) (sa : A → Ma → Type 0) (b : Node → Result B Fault) (cb : Mb → Type 0) (wb : Mb → Reply) (sb : B → Mb → Type 0) (g : Node → Result C Fault) (cg : Mg → Type 0) (wg : Mg → Reply) (sg : C → Mg → Type 0) (d : Node → Result D Fault) (cd : Md → Type 0) (wd : Md → Reply) (sd : D → Md → Type 0) → ReadsBack tree a ca wa sa → ReadsBack tree b cb wb sb → ReadsBack tree g cg wg sg → ReadsBack tree d cd wd sd
    → ReadsBack tree (tuple_one 3 (fields4 a b g d)) (Can4 ca cb cg cd) (written4 wa wb wg wd) (Stands4 sa sb sg sd)
back4 tree a ca wa sa b cb wb sb g cg wg sg d cd wd sd ba bb bg bd m n i c e =
    let (k, h) = array_of n (wa m.0 ∷ wb m.1 ∷ wg m.2 ∷ wd m.3 ∷ []) e in
    let o = of4 (flat_of n) (wa m.0) (wb m.1) (wg m.2) (wd m.3) h.items in
    let inner = subst (All (λ x. Inside x n)) o.is h.inner in
    let ins = all_inside n tree (o.x0 ∷ o.x1 ∷ o.x2 ∷ o.x3 ∷ []) i inner in
    let (va, oa, ta) = ba m.0 o.x0 ins.0 c.0 o.ex0 in
    let (vb, ob, tb) = bb m.1 o.x1 ins.1.0 c.1 o.ex1 in
    let (vg, og, tg) = bg m.2 o.x2 ins.1.1.0 c.2 o.ex2 in
    let (vd, od, td) = bd m.3 o.x3 ins.1.1.1.0 c.3 o.ex3 in (
      (va, vb, vg, vd),
      tuple_is 3 (fields4 a b g d) n (o.x0 ∷ o.x1 ∷ o.x2 ∷ o.x3 ∷ []) k h.bare o.is refl
          ∙ ap (λ r. and_then r (λ y0. and_then (b o.x1) (λ y1. and_then (g o.x2) (λ y2. and_then (d o.x3) (λ y3. Ok (y0, y1, y2, y3)))))) oa
          ∙ ap (λ r. and_then r (λ y1. and_then (g o.x2) (λ y2. and_then (d o.x3) (λ y3. Ok (va, y1, y2, y3))))) ob
          ∙ ap (λ r. and_then r (λ y2. and_then (d o.x3) (λ y3. Ok (va, vb, y2, y3)))) og
          ∙ ap (λ r. and_then r (λ y3. Ok (va, vb, vg, y3))) od,
      (ta, tb, tg, td),
    )

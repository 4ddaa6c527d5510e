-- Where views begin, and the two parts of a pair.
use Rattle.std.proofs.Common.{◌≡◌, ℕ, ◌≤◌, Bool, true, false, List, [], ◌∷◌, length, drop, sym, refl, ap, ◌∙◌, arith}
use Rattle.std.proofs.lemmas.List.{length-drop}
use Rattle.std.proofs.lemmas.Bool.{false≢true}
use Rattle.resp.specs.declared.case.Case.TheVariants as case
use Rattle.resp.specs.Cases.{case_of}
use Rattle.resp.specs.Limits.{deepest}
use Rattle.resp.specs.Out.{ok, and_then, map_out}
use Rattle.resp.specs.Reading.{Form, leaf, array, set, push, map, attribute, form, pair}
use Rattle.resp.specs.Node.{Node, OneAt, ArrayAt, SetAt, PushAt, MapAt, AttributeAt, PairAt, erase, is_string_node, knit, reading, offset}
use Rattle.resp.proofs.Outs.{and_then_ok, map_out_ok}
use Rattle.resp.proofs.Opens.{ended_ok}
use Rattle.reply.specs.declared.spot.Spot.{Spot}
use Rattle.reply.specs.Parts.{start_of, is_pair, spot_of, pair_node, parts_of, flat_of, inner_of, is_attribute, key_of, value_of}
use Rattle.reply.specs.Tree.{view_at, row_at, is_read, node_at, nodes_at, wholly, Ended}
use Rattle.reply.proofs.Rows.{read_ok, ok_read, node_is, nodes_are}

pub knit_start : (p e : ℕ) (f : Form Node) → start_of (knit p e f) ≡ p
knit_start p e (leaf l) = refl
knit_start p e (array ns) = refl
knit_start p e (set ns) = refl
knit_start p e (push ns) = refl
knit_start p e (map ps) = refl
knit_start p e (attribute ps n) = refl

knit_pair : (p e : ℕ) (f : Form Node) → is_pair (knit p e f) ≡ false
knit_pair p e (leaf l) = refl
knit_pair p e (array ns) = refl
knit_pair p e (set ns) = refl
knit_pair p e (push ns) = refl
knit_pair p e (map ps) = refl
knit_pair p e (attribute ps n) = refl

-- the level that a view was read from
pub level : (bs : List ℕ) (p : ℕ) (t : Node) (rest : List ℕ) → view_at bs false p ≡ ok t rest
    → (f : Form Node) × (form (reading (offset (length bs)) 31) is_string_node (drop p bs) ≡ ok f rest) × (knit (offset (length bs) (drop p bs)) (offset (length bs) rest) f ≡ t)
level bs p t rest e = ended_ok _ (form (reading (offset (length bs)) 31) is_string_node (drop p bs)) t rest e

place : (bs : List ℕ) (p : ℕ) → p ≤ length bs → offset (length bs) (drop p bs) ≡ p
place bs p le = let l = length-drop p bs in omega arith

start_is : (bs : List ℕ) (p : ℕ) (t : Node) (rest : List ℕ) → p ≤ length bs → view_at bs false p ≡ ok t rest → (start_of t ≡ p) × (is_pair t ≡ false)
start_is bs p t rest le e =
    let (f, o, k) = level bs p t rest e in
    (ap start_of (sym k) ∙ knit_start _ _ f ∙ place bs p le, ap is_pair (sym k) ∙ knit_pair _ _ f)

-- the two replies of a pair
pub halves : (bs : List ℕ) (p : ℕ) → is_read (view_at bs true p) ≡ true
    → (k v : Node) × (more rest : List ℕ) × (view_at bs false p ≡ ok k more) × (reading (offset (length bs)) deepest more ≡ ok v rest) × (view_at bs true p ≡ ok (pair_node (k, v)) rest)
halves bs p h =
    let f = reading (offset (length bs)) deepest in
    let (n, rest, w) = read_ok (view_at bs true p) h in
    let (q, o, i) = map_out_ok (pair f (drop p bs)) pair_node n rest w in
    let (a, more, o1, o2) = and_then_ok (view_at bs false p) _ q rest o in
    let (b, o3, i2) = map_out_ok (f more) (λ b. (a, b)) q rest o2 in
    (a, b, more, rest, o1, o3, w ∙ ap (λ x. ok x rest) (sym i ∙ ap pair_node (sym i2)))

pub spot_is : (bs : List ℕ) (m : Bool) (p : ℕ) → p ≤ length bs → is_read (view_at bs m p) ≡ true → record { at = p; pair = m } ≡ spot_of (node_at bs m p)
spot_is bs false p le h =
    let (t, rest, e) = read_ok (view_at bs false p) h in
    let (s, i) = start_is bs p t rest le e in
    spots (sym s) (sym i) ∙ ap spot_of (sym (node_is bs false p t rest e))
  where
    spots : {a b : ℕ} {x y : Bool} → a ≡ b → x ≡ y → ◌≡◌ {A = Spot} (record { at = a; pair = x }) (record { at = b; pair = y })
    spots e f = cc
spot_is bs true p le h =
    let (k, v, more, rest, o, _, w) = halves bs p h in
    let (s, i) = start_is bs p k more le o in
    spots (sym s) ∙ ap spot_of (sym (node_is bs true p (pair_node (k, v)) rest w))
  where
    spots : {a b : ℕ} → a ≡ b → ◌≡◌ {A = Spot} (record { at = a; pair = true }) (record { at = b; pair = true })
    spots e = cc

-- what is no pair is its own key and value
whole_key : (n : Node) → is_pair n ≡ false → (key_of n ≡ n) × (value_of n ≡ n)
whole_key (OneAt p e l) h = (refl, refl)
whole_key (ArrayAt p e ns) h = (refl, refl)
whole_key (SetAt p e ns) h = (refl, refl)
whole_key (PushAt p e ns) h = (refl, refl)
whole_key (MapAt p e ps) h = (refl, refl)
whole_key (AttributeAt p e ps n) h = (refl, refl)
whole_key (PairAt p e k v) h = absurd (false≢true (sym h))

pub key_is : (bs : List ℕ) (m : Bool) (p : ℕ) → p ≤ length bs → is_read (view_at bs m p) ≡ true → node_at bs false p ≡ key_of (node_at bs m p)
key_is bs false p le h =
    let (t, rest, e) = read_ok (view_at bs false p) h in
    let n = node_is bs false p t rest e in
    n ∙ sym (whole_key t (start_is bs p t rest le e).1).0 ∙ ap key_of (sym n)
key_is bs true p le h =
    let (k, v, more, rest, o, _, w) = halves bs p h in
    node_is bs false p k more o ∙ ap key_of (sym (node_is bs true p (pair_node (k, v)) rest w))

pub value_same : (bs : List ℕ) (m : Bool) (p : ℕ) → m ≡ false → p ≤ length bs → is_read (view_at bs m p) ≡ true → node_at bs m p ≡ value_of (node_at bs m p)
value_same bs true p e le h = absurd (false≢true (sym e))
value_same bs false p e le h =
    let (t, rest, o) = read_ok (view_at bs false p) h in
    let n = node_is bs false p t rest o in
    n ∙ sym (whole_key t (start_is bs p t rest le o).1).1 ∙ ap value_of (sym n)

-- the value of a pair begins where its key ends
pub record Valued (bs : List ℕ) (m : Bool) (p e : ℕ) : Type 0 where
  pub whole : is_read (view_at bs false e) ≡ true
  pub inside : e ≤ length bs
  pub node : node_at bs false e ≡ value_of (node_at bs m p)

pub value_is : (bs : List ℕ) (m : Bool) (p e : ℕ) → m ≡ true → is_read (view_at bs m p) ≡ true → Ended bs false p e → Valued bs m p e
value_is bs false p e is h t = absurd (false≢true is)
value_is bs true p e is h t =
    let (k, v, more, rest, o, i, w) = halves bs p h in
    let z = t.reads in
    let m : more ≡ drop e bs = cc in
    let q : view_at bs false e ≡ ok v rest = ap (reading (offset (length bs)) deepest) (sym m) ∙ i in
    record { whole = ok_read (view_at bs false e) v rest q; inside = t.inside; node = node_is bs false e v rest q ∙ ap value_of (sym (node_is bs true p (pair_node (k, v)) rest w)) }

-- what is an attribute is no pair
pub attribute_single : (bs : List ℕ) (m : Bool) (p : ℕ) → is_read (view_at bs m p) ≡ true → is_attribute (node_at bs m p) ≡ true → m ≡ false
attribute_single bs false p h is = refl
attribute_single bs true p h is = let (k, v, more, rest, o, i, w) = halves bs p h in absurd (false≢true (ap is_attribute (sym (node_is bs true p (pair_node (k, v)) rest w)) ∙ is))

-- what stands below a pair is itself alone
pub pair_parts : (bs : List ℕ) (m : Bool) (p : ℕ) → m ≡ true → is_read (view_at bs m p) ≡ true → node_at bs m p ∷ [] ≡ parts_of (node_at bs m p)
pair_parts bs false p e h = absurd (false≢true e)
pair_parts bs true p e h =
    let (k, v, more, rest, o, i, w) = halves bs p h in
    let is = node_is bs true p (pair_node (k, v)) rest w in
    ap (λ n. n ∷ []) is ∙ ap parts_of (sym is)

-- a pair is a row of its key and its value
pub pair_flat : (bs : List ℕ) (m : Bool) (p : ℕ) → m ≡ true → is_read (view_at bs m p) ≡ true → (is_read (row_at bs false p 2) ≡ true) × (nodes_at bs false p 2 ≡ flat_of (node_at bs m p))
pair_flat bs false p e h = absurd (false≢true e)
pair_flat bs true p e h =
    let (k, v, more, rest, o, i, w) = halves bs p h in
    let r : row_at bs false p 2 ≡ ok (k ∷ v ∷ []) rest =
    ap (λ o. and_then o (λ a l. map_out (λ ns. a ∷ ns) (and_then (reading (offset (length bs)) deepest l) (λ b l. ok (b ∷ []) l)))) o ∙ ap (λ o. map_out (λ ns. k ∷ ns) (and_then o (λ b l. ok (b ∷ []) l))) i in
    (ok_read (row_at bs false p 2) _ rest r, nodes_are bs false p 2 _ rest r ∙ ap flat_of (sym (node_is bs true p (pair_node (k, v)) rest w)))

-- which is all that stands below it
pub pair_inner : (bs : List ℕ) (m : Bool) (p : ℕ) → m ≡ true → is_read (view_at bs m p) ≡ true → flat_of (node_at bs m p) ≡ inner_of (node_at bs m p)
pair_inner bs false p e h = absurd (false≢true e)
pair_inner bs true p e h =
    let (k, v, more, rest, o, i, w) = halves bs p h in
    let is = node_is bs true p (pair_node (k, v)) rest w in
    ap flat_of is ∙ ap inner_of (sym is)

-- a view that is no pair
pub single : (bs : List ℕ) (m : Bool) (p : ℕ) → m ≡ false → wholly bs m p ≡ true → (wholly bs false p ≡ true) × (node_at bs false p ≡ node_at bs m p)
single bs false p e h = (h, refl)
single bs true p e h = absurd (false≢true (sym e))

pub pair_case : (bs : List ℕ) (m : Bool) (p : ℕ) → m ≡ true → is_read (view_at bs m p) ≡ true → case.Map ≡ case_of (erase (node_at bs m p))
pair_case bs false p e h = absurd (false≢true e)
pair_case bs true p e h =
    let (k, v, more, rest, o, i, w) = halves bs p h in
    ap (λ n. case_of (erase n)) (sym (node_is bs true p (pair_node (k, v)) rest w))

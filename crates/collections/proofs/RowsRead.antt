-- What the rows of a reply are, where they could be read.
use Rattle.std.proofs.Common.{◌≡◌, ℕ, ◌%◌, Bool, true, false, cond, eqb, leb, ◌⊎◌, List, [], ◌∷◌, ◌++◌, length, take, drop, Some, None, Ok, Err, Option, Result, sym, refl, ap, ◌∙◌, inl, inr, arith}
use Rattle.std.proofs.lemmas.List.{take_at}
use Rattle.std.proofs.lemmas.Bool.{le-leb}
use Rattle.resp.specs.declared.case.Case.{Case}
use Rattle.resp.specs.declared.case.Case.TheVariants as case
use Rattle.resp.specs.Node.{Node, OneAt, ArrayAt, SetAt, PushAt, MapAt, AttributeAt, PairAt}
use Rattle.reply.specs.declared.spot.Spot.{Spot}
use Rattle.reply.specs.Parts.{flat_of, parts_of, spot_of, unwrapped}
use Rattle.kinds.specs.declared.fault.Fault.{Fault}
use Rattle.kinds.specs.declared.fault.Fault.TheVariants.{Intake}
use Rattle.kinds.specs.declared.fault.IntakeReason.TheVariants.{Table}
use Rattle.kinds.specs.declared.fault.ElementReason.TheVariants.{Kind}
use Rattle.kinds.specs.Fault.{refused}
use Rattle.kinds.specs.Rows.{and_then, bytes_of, cuts, many_by, many_of, mapped, onto}
use Rattle.kinds.specs.Same.{Equality}
use Rattle.kinds.specs.Texts.{case_at, text_in}
use Rattle.collections.specs.Lists.{list_by, list_rows}
use Rattle.collections.specs.Maps.{entries, entry_one, map_by, map_of, map_rows, merged}
use Rattle.collections.specs.Sets.{firsts, set_by, set_of, set_rows}
use Rattle.collections.specs.Steps.{tabled}
use Rattle.collections.specs.Theorems.{OneOf, SetRows, MapRows, ListRows, of_nil, of_bytes, of_one, of_pairs, of_each, of_cuts}
use Rattle.collections.proofs.CutUps.{cuts_whole}
use Rattle.collections.proofs.Firsts.{firsts_distinct}
use Rattle.collections.proofs.ListSteps.{nil_parts}
use Rattle.collections.proofs.Merges.{merged_distinct}

-- no refusal is a value
not_read : {V F : Type 0} {P : Type 0} (f : F) (v : V) → ◌≡◌ {A = Result V F} (Err f) (Ok v) → P
not_read f v e = absurd cc

and_then_read : {A B : Type 0} (r : Result A Fault) (k : A → Result B Fault) (y : B) → and_then r k ≡ Ok y → (x : A) × ((r ≡ Ok x) × (k x ≡ Ok y))
and_then_read (Ok x) k y e = (x, (refl, e))
and_then_read (Err f) k y e = not_read f y e

onto_read : {V : Type 0} (v : V) (r : Result (List V) Fault) (us : List V) → onto v r ≡ Ok us → (vs : List V) × (r ≡ Ok vs)
onto_read v (Ok vs) us e = (vs, refl)
onto_read v (Err f) us e = not_read f us e

each_read : {A V : Type 0} (one : A → Result V Fault) (ns : List A) (us : List V) → many_by one ns ≡ Ok us → (n : A) → OneOf n ns → (v : V) × (one n ≡ Ok v)
each_read one [] us e n o = absurd o
each_read one (m ∷ ns) us e n o =
    let (v, (a, b)) = and_then_read (one m) (λ v. onto v (many_by one ns)) us e in
    let (vs, c) = onto_read v (many_by one ns) us b in
    by v a (each_read one ns vs c n) o
  where
    by : (v : _) → one m ≡ Ok v → (OneOf n ns → (v : _) × (one n ≡ Ok v)) → OneOf n (m ∷ ns) → (v : _) × (one n ≡ Ok v)
    by v a next (inl is) = (v, ap one is ∙ a)
    by v a next (inr p) = next p

set_read : {V : Type 0} (p : Spot) (r : Result (List V) Fault) (vs : List V) (c : Case) → set_by p r c ≡ Ok vs → ((c ≡ case.Nil) × (vs ≡ [])) ⊎ (r ≡ Ok vs)
set_read p r vs case.Nil e = let z : vs ≡ [] = cc in inl (refl, z)
set_read p r vs case.Int e = not_read _ vs e
set_read p r vs case.BulkString e = not_read _ vs e
set_read p r vs case.Array e = inr e
set_read p r vs case.SimpleString e = not_read _ vs e
set_read p r vs case.Okay e = not_read _ vs e
set_read p r vs case.Map e = not_read _ vs e
set_read p r vs case.Attribute e = not_read _ vs e
set_read p r vs case.Set e = inr e
set_read p r vs case.Double e = not_read _ vs e
set_read p r vs case.Boolean e = not_read _ vs e
set_read p r vs case.VerbatimString e = not_read _ vs e
set_read p r vs case.BigNumber e = not_read _ vs e
set_read p r vs case.Push e = not_read _ vs e
set_read p r vs case.ServerError e = not_read _ vs e

map_read : {V : Type 0} (p : Spot) (ns : List Node) (r : Result (List V) Fault) (vs : List V) (c : Case) → map_by p ns r c ≡ Ok vs → ((c ≡ case.Nil) × (vs ≡ [])) ⊎ (r ≡ Ok vs)
map_read p ns r vs case.Nil e = let z : vs ≡ [] = cc in inl (refl, z)
map_read p ns r vs case.Int e = not_read _ vs e
map_read p ns r vs case.BulkString e = not_read _ vs e
map_read p ns r vs case.Array e = by (eqb (length ns % 2) 0) e
  where
    by : (b : Bool) → cond b r (Err (refused Kind p)) ≡ Ok vs → ((case.Array ≡ case.Nil) × (vs ≡ [])) ⊎ (r ≡ Ok vs)
    by true e = inr e
    by false e = not_read _ vs e
map_read p ns r vs case.SimpleString e = not_read _ vs e
map_read p ns r vs case.Okay e = not_read _ vs e
map_read p ns r vs case.Map e = inr e
map_read p ns r vs case.Attribute e = not_read _ vs e
map_read p ns r vs case.Set e = not_read _ vs e
map_read p ns r vs case.Double e = not_read _ vs e
map_read p ns r vs case.Boolean e = not_read _ vs e
map_read p ns r vs case.VerbatimString e = not_read _ vs e
map_read p ns r vs case.BigNumber e = not_read _ vs e
map_read p ns r vs case.Push e = not_read _ vs e
map_read p ns r vs case.ServerError e = not_read _ vs e

nil_flat : (n : Node) → case_at n ≡ case.Nil → flat_of n ≡ []
nil_flat (OneAt p e l) h = refl
nil_flat (ArrayAt p e ns) h = absurd cc
nil_flat (SetAt p e ns) h = absurd cc
nil_flat (PushAt p e ns) h = absurd cc
nil_flat (MapAt p e ps) h = absurd cc
nil_flat (AttributeAt p e ps n) h = absurd cc
nil_flat (PairAt p e k v) h = absurd cc

module _ {V : Type 0} (one : Node → Result V Fault) (alike : Node → Node → Bool) (E : Equality alike) where
  set_made : (ns : List Node) (vs : List V) → set_of one alike ns ≡ Ok vs → SetRows one alike ns vs
  set_made ns vs e =
      let (us, (a, b)) = and_then_read (many_by one ns) (λ read. many_by one (firsts alike ns)) vs e in
      record { kept = firsts alike ns; distinct = firsts_distinct alike E ns; read = each_read one ns us a; values = b }

  pub set_rows_lem : (n : Node) (vs : List V) → set_rows one alike n ≡ Ok vs → SetRows one alike (parts_of (unwrapped n)) vs
  set_rows_lem n vs e = by (set_read (spot_of n) (set_of one alike (parts_of (unwrapped n))) vs (case_at (unwrapped n)) e)
    where
      by : ((case_at (unwrapped n) ≡ case.Nil) × (vs ≡ [])) ⊎ (set_of one alike (parts_of (unwrapped n)) ≡ Ok vs) → SetRows one alike (parts_of (unwrapped n)) vs
      by (inl (c, z)) = set_made (parts_of (unwrapped n)) vs (ap (set_of one alike) (nil_parts (unwrapped n) c) ∙ ap Ok (sym z))
      by (inr r) = set_made (parts_of (unwrapped n)) vs r

module _ {A B : Type 0} (key : Node → Result A Fault) (value : Node → Result B Fault) (alike : Node → Node → Bool) (E : Equality alike) where
  map_made : (ns : List Node) (vs : List (A × B)) → map_of key value alike ns ≡ Ok vs → MapRows key value alike (entries ns) vs
  map_made ns vs e =
      let (us, (a, b)) = and_then_read (many_by (entry_one key value) (entries ns)) (λ read. many_by (entry_one key value) (merged alike ns)) vs e in
      record { kept = merged alike ns; distinct = merged_distinct alike E ns; read = each_read (entry_one key value) (entries ns) us a; values = b }

  pub map_rows_lem : (n : Node) (vs : List (A × B)) → map_rows key value alike n ≡ Ok vs → MapRows key value alike (entries (flat_of (unwrapped n))) vs
  map_rows_lem n vs e = by (map_read (spot_of n) (flat_of (unwrapped n)) (map_of key value alike (flat_of (unwrapped n))) vs (case_at (unwrapped n)) e)
    where
      by : ((case_at (unwrapped n) ≡ case.Nil) × (vs ≡ [])) ⊎ (map_of key value alike (flat_of (unwrapped n)) ≡ Ok vs) → MapRows key value alike (entries (flat_of (unwrapped n))) vs
      by (inl (c, z)) = map_made (flat_of (unwrapped n)) vs (ap (map_of key value alike) (nil_flat (unwrapped n) c) ∙ ap Ok (sym z))
      by (inr r) = map_made (flat_of (unwrapped n)) vs r

module _ {V : Type 0} (one : Node → Result V Fault) (flat : List Node → Bool) (more : ℕ) (joined : Spot → List Node → Result V Fault) where
  list_many : (bytewise : Option (ℕ → V)) (n : Node) (vs : List V) (b : Bool) → (case_at n ≡ case.Array) ⊎ (case_at n ≡ case.Set) → flat (parts_of n) ≡ b → many_of one b more joined (parts_of n) ≡ Ok vs → ListRows one flat more joined bytewise n vs
  list_many bytewise n vs true c is e = of_cuts c is (cuts more (parts_of n)) (cuts_whole more (parts_of n)) e
  list_many bytewise n vs false c is e = of_each c is e

  list_bytes : (bytewise : Option (ℕ → V)) (n : Node) (vs : List V) → case_at n ≡ case.BulkString → bytes_of bytewise (one n) (text_in n) ≡ Ok vs → ListRows one flat more joined bytewise n vs
  list_bytes (Some f) n vs c e = let z : vs ≡ mapped f (text_in n) = cc in of_bytes f c refl z
  list_bytes None n vs c e = of_one c refl (by (one n) e)
    where
      by : (r : Result V Fault) → and_then r (λ v. Ok (v ∷ [])) ≡ Ok vs → and_then r (λ v. onto v (Ok [])) ≡ Ok vs
      by (Ok v) e = e
      by (Err f) e = e

  list_by_lem : (bytewise : Option (ℕ → V)) (n : Node) (vs : List V) (c : Case) → case_at n ≡ c
      → list_by (spot_of n) (bytes_of bytewise (one n) (text_in n)) (many_of one (flat (parts_of n)) more joined (parts_of n)) (many_by one (parts_of n)) c ≡ Ok vs
      → ListRows one flat more joined bytewise n vs
  list_by_lem bytewise n vs case.Nil is e = let z : vs ≡ [] = cc in of_nil is z
  list_by_lem bytewise n vs case.Int is e = not_read _ vs e
  list_by_lem bytewise n vs case.BulkString is e = list_bytes bytewise n vs is e
  list_by_lem bytewise n vs case.Array is e = list_many bytewise n vs (flat (parts_of n)) (inl is) refl e
  list_by_lem bytewise n vs case.SimpleString is e = not_read _ vs e
  list_by_lem bytewise n vs case.Okay is e = not_read _ vs e
  list_by_lem bytewise n vs case.Map is e = of_pairs is e
  list_by_lem bytewise n vs case.Attribute is e = not_read _ vs e
  list_by_lem bytewise n vs case.Set is e = list_many bytewise n vs (flat (parts_of n)) (inr is) refl e
  list_by_lem bytewise n vs case.Double is e = not_read _ vs e
  list_by_lem bytewise n vs case.Boolean is e = not_read _ vs e
  list_by_lem bytewise n vs case.VerbatimString is e = not_read _ vs e
  list_by_lem bytewise n vs case.BigNumber is e = not_read _ vs e
  list_by_lem bytewise n vs case.Push is e = not_read _ vs e
  list_by_lem bytewise n vs case.ServerError is e = not_read _ vs e

  pub list_rows_lem : (bytewise : Option (ℕ → V)) (n : Node) (vs : List V) → list_rows one flat more joined bytewise n ≡ Ok vs → ListRows one flat more joined bytewise n vs
  list_rows_lem bytewise n vs e = list_by_lem bytewise n vs (case_at n) refl e

  -- no replies, no rows
  many_none : (b : Bool) → many_of one b more joined [] ≡ Ok []
  many_none true = refl
  many_none false = refl

  pub list_none : (bytewise : Option (ℕ → V)) (n : Node) → case_at n ≡ case.Array → parts_of n ≡ [] → list_rows one flat more joined bytewise n ≡ Ok []
  list_none bytewise n c p =
      ap (list_by (spot_of n) (bytes_of bytewise (one n) (text_in n)) (many_of one (flat (parts_of n)) more joined (parts_of n)) (many_by one (parts_of n))) c
      ∙ ap (λ l. many_of one (flat (parts_of n)) more joined l) p
      ∙ many_none (flat (parts_of n))

-- a table that nothing is written to
pub table_none : {V : Type 0} (rows : Result (List V) Fault) (old new : List V) (r : Result ℕ Fault) → ◌≡◌ {A = Result ℕ Fault × List V} (r, new) (tabled rows old) → rows ≡ Ok [] → r ≡ Ok 0
table_none {V} rows old new r e none =
    ap (λ (z : Result ℕ Fault × List V). z.0)
    (e ∙ ap (λ x. tabled x old) none
    ∙ ap (λ b. cond {A = Result ℕ Fault × List V} b (Ok 0, [] ++ drop 0 old) (Err (Intake Table), old)) (le-leb 0 (length old) (omega arith)))

-- the first rows of a table are what was read
pub table_rows : {V : Type 0} (rows : Result (List V) Fault) (old new : List V) (r : Result ℕ Fault) (count : ℕ) → ◌≡◌ {A = Result ℕ Fault × List V} (r, new) (tabled rows old) → r ≡ Ok count
    → rows ≡ Ok (take count new)
table_rows {V} (Err f) old new r count e is =
    let z : ◌≡◌ {A = Result ℕ Fault} (Err f) (Ok count) = sym (ap (λ (z : Result ℕ Fault × List V). z.0) e) ∙ is in
    not_read f count z
table_rows {V} (Ok vs) old new r count e is = by (leb (length vs) (length old)) e
  where
    by : (b : Bool) → ◌≡◌ {A = Result ℕ Fault × List V} (r, new) (cond b (Ok (length vs), vs ++ drop (length vs) old) (Err (Intake Table), old)) → ◌≡◌ {A = Result (List V) Fault} (Ok vs) (Ok (take count new))
    by true e =
        let a : ◌≡◌ {A = Result ℕ Fault} (Ok (length vs)) (Ok count) = sym (ap (λ (z : Result ℕ Fault × List V). z.0) e) ∙ is in
        let n : length vs ≡ count = cc a in
        let t : vs ++ drop (length vs) old ≡ new = sym (ap (λ (z : Result ℕ Fault × List V). z.1) e) in
        ap Ok (sym (ap (take count) (sym t) ∙ take_at vs (drop (length vs) old) count n))
    by false e =
        let a : r ≡ Err (Intake Table) = ap (λ (z : Result ℕ Fault × List V). z.0) e in
        let z : ◌≡◌ {A = Result ℕ Fault} (Err (Intake Table)) (Ok count) = sym a ∙ is in
        not_read (Intake Table) count z

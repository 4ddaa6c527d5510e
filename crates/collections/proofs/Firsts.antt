-- The first of each class.
use Rattle.std.proofs.Common.{◌≡◌, ℕ, zero, suc, ◌+◌, ◌-◌, Bool, true, false, cond, ◌⊎◌, List, [], ◌∷◌, ◌++◌, length, take, Some, sym, refl, ap, ◌∙◌, inl, inr, append_assoc, arith, length-append}
use Rattle.std.proofs.lemmas.List.{take_at}
use Rattle.std.proofs.lemmas.Bool.{both_ways, or_cases, or_parts}
use Rattle.resp.specs.Node.{Node}
use Rattle.kinds.specs.Same.{Equality}
use Rattle.collections.specs.Sets.{firsts, firsts_in, seen_in}
use Rattle.collections.specs.Steps.{nth}
use Rattle.collections.specs.Theorems.{OneOf, InOrder, none, taken, passed, First, DistinctFirsts}

pub one_left : {A : Type 0} (x : A) (xs ys : List A) → OneOf x xs → OneOf x (xs ++ ys)
one_left x [] ys h = absurd h
one_left x (y ∷ xs) ys (inl e) = inl e
one_left x (y ∷ xs) ys (inr h) = inr (one_left x xs ys h)

pub one_right : {A : Type 0} (x : A) (xs ys : List A) → OneOf x ys → OneOf x (xs ++ ys)
one_right x [] ys h = h
one_right x (y ∷ xs) ys h = inr (one_right x xs ys h)

pub one_either : {A : Type 0} (x : A) (xs ys : List A) → OneOf x (xs ++ ys) → OneOf x xs ⊎ OneOf x ys
one_either x [] ys h = inr h
one_either x (y ∷ xs) ys (inl e) = inl (inl e)
one_either x (y ∷ xs) ys (inr h) = go (one_either x xs ys h)
  where
    go : OneOf x xs ⊎ OneOf x ys → OneOf x (y ∷ xs) ⊎ OneOf x ys
    go (inl a) = inl (inr a)
    go (inr b) = inr b

pub one_at : {A : Type 0} (i : ℕ) (x : A) (xs : List A) → nth i xs ≡ Some x → OneOf x xs
one_at i x [] e = absurd cc
one_at zero x (y ∷ xs) e = let s : x ≡ y = cc in inl s
one_at (suc i) x (y ∷ xs) e = inr (one_at i x xs e)

module _ (alike : Node → Node → Bool) where
  pub seen_one : (n : Node) (ns : List Node) → seen_in alike n ns ≡ true → (m : Node) × (OneOf m ns × (alike m n ≡ true))
  seen_one n [] h = absurd (both_ways false refl h)
  seen_one n (m ∷ ns) h = go (seen_one n ns) (or_cases (alike m n) (seen_in alike n ns) h)
    where
      go : (seen_in alike n ns ≡ true → (k : Node) × (OneOf k ns × (alike k n ≡ true))) → (alike m n ≡ true) ⊎ (seen_in alike n ns ≡ true)
          → (k : Node) × (OneOf k (m ∷ ns) × (alike k n ≡ true))
      go next (inl e) = (m, (inl refl, e))
      go next (inr s) = let (k, (o, e)) = next s in (k, (inr o, e))

  pub unseen : (n : Node) (ns : List Node) → seen_in alike n ns ≡ false → (m : Node) → OneOf m ns → alike m n ≡ false
  unseen n [] h m o = absurd o
  unseen n (k ∷ ns) h m (inl e) = ap (λ x. alike x n) e ∙ (or_parts (alike k n) (seen_in alike n ns) h).0
  unseen n (k ∷ ns) h m (inr o) = unseen n ns (or_parts (alike k n) (seen_in alike n ns) h).1 m o

  -- each is unlike those after it
  abbrev pub Apart : List Node → Type 0
  Apart [] = Unit {0}
  Apart (n ∷ ns) = ((m : Node) → OneOf m ns → alike n m ≡ false) × Apart ns

  -- n is one of ns, and like none before it, those that were passed among them
  pub record Fresh (passed : List Node) (n : Node) (ns : List Node) : Type 0 where
    pub before : List Node
    pub after : List Node
    pub stands : ns ≡ before ++ (n ∷ after)
    pub old : (m : Node) → OneOf m passed → alike m n ≡ false
    pub new : (m : Node) → OneOf m before → alike m n ≡ false

  -- what is kept of ns, where some were passed
  pub record Walked (before ns kept : List Node) : Type 0 where
    pub order : InOrder kept ns
    pub apart : Apart kept
    pub fresh : (n : Node) → OneOf n kept → Fresh before n ns
    pub all : (n : Node) → OneOf n ns → (m : Node) × ((OneOf m before ⊎ OneOf m kept) × (alike m n ≡ true))

  pub walked_none : (before : List Node) → Walked before [] []
  walked_none before = record { order = none; apart = tt; fresh = λ n o. absurd o; all = λ n o. absurd o }

  -- what was fresh after one more was passed is fresh
  fresh_more : (before ns : List Node) (n m : Node) → Fresh (before ++ (n ∷ [])) m ns → Fresh before m (n ∷ ns)
  fresh_more before ns n m f =
      record {
        before = n ∷ f.before;
        after = f.after;
        stands = ap (λ l. n ∷ l) f.stands;
        old = λ k p. f.old k (one_left k before (n ∷ []) p);
        new = new;
      }
    where
      new : (k : Node) → OneOf k (n ∷ f.before) → alike k m ≡ false
      new k (inl e) = ap (λ x. alike x m) e ∙ f.old n (one_right n before (n ∷ []) (inl refl))
      new k (inr p) = f.new k p

  -- n is like one that was passed or is kept
  abbrev Met : List Node → List Node → Node → Type 0
  Met before kept n = (m : Node) × ((OneOf m before ⊎ OneOf m kept) × (alike m n ≡ true))

  met_more : Equality alike → (before ns kept more : List Node) (n : Node) → Met before more n → ((x : Node) → OneOf x kept → OneOf x more)
      → ((m : Node) → OneOf m ns → Met (before ++ (n ∷ [])) kept m) → (m : Node) → OneOf m (n ∷ ns) → Met before more m
  met_more E before ns kept more n (k, (o, e)) wider all m (inl same) = (k, (o, ap (alike k) same ∙ e))
  met_more E before ns kept more n (k, (o, e)) wider all m (inr mem) = by (all m mem)
    where
      split : (x : Node) → alike x m ≡ true → OneOf x before ⊎ OneOf x (n ∷ []) → Met before more m
      split x a (inl p) = (x, (inl p, a))
      split x a (inr (inl is)) = (k, (o, E.transitive k n m e (ap (λ y. alike y m) (sym is) ∙ a)))
      split x a (inr (inr never)) = absurd never

      by : Met (before ++ (n ∷ [])) kept m → Met before more m
      by (x, (inl p, a)) = split x a (one_either x before (n ∷ []) p)
      by (x, (inr p, a)) = (x, (inr (wider x p), a))

  -- a member more in front: kept where it is like none that was passed
  pub walked_more : Equality alike → (before ns kept : List Node) (n : Node) (b : Bool) → seen_in alike n before ≡ b → Walked (before ++ (n ∷ [])) ns kept
      → Walked before (n ∷ ns) (cond b kept (n ∷ kept))
  walked_more E before ns kept n true seen w =
      let (k, (o, e)) = seen_one n before seen in
      record {
        order = passed w.order;
        apart = w.apart;
        fresh = λ m o. fresh_more before ns n m (w.fresh m o);
        all = met_more E before ns kept kept n (k, (inl o, e)) (λ x p. p) w.all;
      }
  walked_more E before ns kept n false seen w =
      record {
        order = taken w.order;
        apart = (λ m o. (w.fresh m o).old n (one_right n before (n ∷ []) (inl refl)), w.apart);
        fresh = fresh;
        all = met_more E before ns kept (n ∷ kept) n (n, (inr (inl refl), E.reflexive n)) (λ x p. inr p) w.all;
      }
    where
      fresh : (m : Node) → OneOf m (n ∷ kept) → Fresh before m (n ∷ ns)
      fresh m (inl e) =
          record {
            before = [];
            after = ns;
            stands = ap (λ x. x ∷ ns) (sym e);
            old = λ k p. ap (alike k) e ∙ unseen n before seen k p;
            new = λ k p. absurd p;
          }
      fresh m (inr o) = fresh_more before ns n m (w.fresh m o)

  apart_at : Equality alike → (kept : List Node) → Apart kept → (i j : ℕ) (n m : Node) → nth i kept ≡ Some n → nth j kept ≡ Some m → alike n m ≡ true → i ≡ j
  apart_at E [] a i j n m p q t = absurd cc
  apart_at E (x ∷ xs) (a, as') zero zero n m p q t = refl
  apart_at E (x ∷ xs) (a, as') zero (suc j) n m p q t =
      let is : n ≡ x = cc in absurd (both_ways (alike x m) (a m (one_at j m xs q)) (ap (λ y. alike y m) (sym is) ∙ t))
  apart_at E (x ∷ xs) (a, as') (suc i) zero n m p q t =
      let is : m ≡ x = cc in absurd (both_ways (alike x n) (a n (one_at i n xs p)) (ap (λ y. alike y n) (sym is) ∙ E.symmetric n m t))
  apart_at E (x ∷ xs) (a, as') (suc i) (suc j) n m p q t = ap suc (apart_at E xs as' i j n m p q t)

  pub walked_all : Equality alike → (ns kept : List Node) → Walked [] ns kept → DistinctFirsts alike ns kept
  walked_all E ns kept w = record { order = w.order; apart = apart_at E kept w.apart; initial = initial; all = λ n o. all (w.all n o) }
    where
      initial : (n : Node) → OneOf n kept → First alike n ns
      initial n o = let f = w.fresh n o in record { before = f.before; after = f.after; stands = f.stands; new = f.new }

      all : {n : Node} → Met [] kept n → (m : Node) × (OneOf m kept × (alike m n ≡ true))
      all (m, (inl never, e)) = absurd never
      all (m, (inr o, e)) = (m, (o, e))

  walk : Equality alike → (all before ns : List Node) → all ≡ before ++ ns → Walked before ns (firsts_in alike all ns)
  walk E all before [] is = walked_none before
  walk E all before (n ∷ ns) is =
      let len : length all ≡ length before + suc (length ns) = ap length is ∙ length-append before (n ∷ ns) in
      let front : take (length all - suc (length ns)) all ≡ before = ap (take (length all - suc (length ns))) is ∙ take_at before (n ∷ ns) _ (omega arith) in
      walked_more E before ns (firsts_in alike all ns) n (seen_in alike n (take (length all - suc (length ns)) all)) (ap (seen_in alike n) (sym front))
      (walk E all (before ++ (n ∷ [])) ns (is ∙ sym (append_assoc before (n ∷ []) ns)))

  pub firsts_distinct : Equality alike → (ns : List Node) → DistinctFirsts alike ns (firsts alike ns)
  firsts_distinct E ns = walked_all E ns (firsts alike ns) (walk E ns [] ns refl)

-- What is found in a tree.
use Rattle.std.proofs.Common.{◌≡◌, ℕ, suc, ◌+◌, ◌<◌, ◌≤◌, Bool, true, false, cond, not, ◌&&◌, eqb, List, [], ◌∷◌, ◌++◌, Some, None, Option, sym, refl, ap, ◌∙◌, subst, arith}
use Rattle.std.proofs.lemmas.Bool.{and_parts, eqb-true, eq-eqb}
use Rattle.std.specs.Bool.{beq}
use Rattle.std.specs.Option.{MatchOption}
use Rattle.resp.specs.Node.{Node, OneAt, ArrayAt, SetAt, PushAt, MapAt, AttributeAt, PairAt, Nodes, no_node, node_then, NodePairs, no_nodes, nodes_then}
use Rattle.reply.specs.declared.spot.Spot.{Spot}
use Rattle.reply.specs.declared.view.Reply.{Reply}
use Rattle.reply.specs.Parts.{spot_of, pair_node, listed, paired, flattened, inner_of}
use Rattle.reply.specs.Inside.{Among, first, later, Inside, itself, below}
use Rattle.reply.specs.Find.{same_spot, or_else, hit, find, find_each, find_pairs, find_halves, find_among, told, Begins, NoneBegins}
use Rattle.reply.specs.View.{node_of}

pub or_none : (o : Option Node) → or_else o None ≡ o
or_none (Some n) = refl
or_none None = refl

or_or : (a b c : Option Node) → or_else a (or_else b c) ≡ or_else (or_else a b) c
or_or (Some n) b c = refl
or_or None b c = refl

-- in terms of lists
each_among : (s : Spot) (ns : Nodes) → find_each s ns ≡ find_among s (listed ns)
each_among s no_node = refl
each_among s (node_then n ns) = ap (or_else (find s n)) (each_among s ns)

pairs_among : (s : Spot) (ps : NodePairs) → find_pairs s ps ≡ find_among s (paired ps)
pairs_among s no_nodes = refl
pairs_among s (nodes_then k v ps) = ap (or_else (find s (pair_node (k, v)))) (pairs_among s ps)

halves_among : (s : Spot) (ps : NodePairs) (n : Node) → or_else (find_halves s ps) (find s n) ≡ find_among s (flattened ps ++ (n ∷ []))
halves_among s no_nodes n = sym (or_none (find s n))
halves_among s (nodes_then k v ps) n =
    sym (or_or (find s k) (or_else (find s v) (find_halves s ps)) (find s n)) ∙ ap (or_else (find s k)) (sym (or_or (find s v) (find_halves s ps) (find s n)) ∙ ap (or_else (find s v)) (halves_among s ps n))

pub find_inner : (s : Spot) (n : Node) → find s n ≡ or_else (hit s n) (find_among s (inner_of n))
find_inner s (OneAt p e l) = sym (or_none (hit s (OneAt p e l)))
find_inner s (ArrayAt p e ns) = ap (or_else (hit s (ArrayAt p e ns))) (each_among s ns)
find_inner s (SetAt p e ns) = ap (or_else (hit s (SetAt p e ns))) (each_among s ns)
find_inner s (PushAt p e ns) = ap (or_else (hit s (PushAt p e ns))) (each_among s ns)
find_inner s (MapAt p e ps) = ap (or_else (hit s (MapAt p e ps))) (pairs_among s ps)
find_inner s (AttributeAt p e ps n) = ap (or_else (hit s (AttributeAt p e ps n))) (halves_among s ps n)
find_inner s (PairAt p e k v) = ap (λ o. or_else (hit s (PairAt p e k v)) (or_else (find s k) o)) (sym (or_none (find s v)))

pub find_here : (s : Spot) (n : Node) → same_spot (spot_of n) s ≡ true → find s n ≡ Some n
find_here s n e = find_inner s n ∙ ap (λ t. or_else (cond t (Some n) None) (find_among s (inner_of n))) e

pub find_below : (s : Spot) (n : Node) → same_spot (spot_of n) s ≡ false → find s n ≡ find_among s (inner_of n)
find_below s n e = find_inner s n ∙ ap (λ t. or_else (cond t (Some n) None) (find_among s (inner_of n))) e

-- spots
bools : (a b : Bool) → cond a b (not b) ≡ true → a ≡ b
bools true b e = sym e
bools false true e = absurd cc
bools false false e = refl

bools_same : (a : Bool) → cond a a (not a) ≡ true
bools_same true = refl
bools_same false = refl

pub same_spot_lem : (a b : Spot) → same_spot a b ≡ true → a ≡ b
same_spot_lem a b e =
    let (i, j) = and_parts (eqb a.at b.at) (cond a.pair b.pair (not b.pair)) e in
    spots (eqb-true a.at b.at i) (bools a.pair b.pair j)
  where
    spots : {p q : ℕ} {x y : Bool} → p ≡ q → x ≡ y → ◌≡◌ {A = Spot} (record { at = p; pair = x }) (record { at = q; pair = y })
    spots e f = cc

pub spot_same : (a b : Spot) → a ≡ b → same_spot a b ≡ true
spot_same a b e = subst (λ c. same_spot a c ≡ true) e (ap (λ t. t && cond a.pair a.pair (not a.pair)) (eq-eqb a.at a.at refl) ∙ bools_same a.pair)

clash : {n : Node} → ◌≡◌ {A = Option Node} None (Some n) → ⊥
clash e = cc

-- one of two
or_some : {P : Type 0} (a b : Option Node) (n : Node) → or_else a b ≡ Some n → (a ≡ Some n → P) → (b ≡ Some n → P) → P
or_some (Some m) b n e p q = p e
or_some None b n e p q = q e

or_nothing : (a b : Option Node) → or_else a b ≡ None → (a ≡ None) × (b ≡ None)
or_nothing (Some m) b e = absurd (clash (sym e))
or_nothing None b e = (refl, e)

hit_is : (s : Spot) (n m : Node) → hit s n ≡ Some m → (n ≡ m) × (spot_of n ≡ s)
hit_is s n m e = go (same_spot (spot_of n) s) refl e
  where
    go : (t : Bool) → same_spot (spot_of n) s ≡ t → cond t (Some n) None ≡ Some m → (n ≡ m) × (spot_of n ≡ s)
    go true t e = (cc, same_spot_lem (spot_of n) s t)
    go false t e = absurd (clash e)

itself_found : (s : Spot) (n m : Node) → hit s n ≡ Some m → Begins s n m
itself_found s n m e = let (same, is) = hit_is s n m e in subst (Begins s n) same (record { part = itself; spot = is })

-- what is found among some trees is inside one of them
pub record FoundAmong (s : Spot) (ns : List Node) (m : Node) : Type 0 where
  pub tree : Node
  pub among : Among tree ns
  pub begins : Begins s tree m

deeper : (s : Spot) (n m : Node) → FoundAmong s (inner_of n) m → Begins s n m
deeper s n m f = record { part = below f.among f.begins.part; spot = f.begins.spot }

in_first : (s : Spot) (n : Node) (ns : List Node) (m : Node) → Begins s n m → FoundAmong s (n ∷ ns) m
in_first s n ns m b = record { tree = n; among = first; begins = b }

in_later : (s : Spot) (n : Node) (ns : List Node) (m : Node) → FoundAmong s ns m → FoundAmong s (n ∷ ns) m
in_later s n ns m f = record { tree = f.tree; among = later f.among; begins = f.begins }

in_two : (s : Spot) (k v m : Node) → or_else (find s k) (find s v) ≡ Some m → (find s k ≡ Some m → Begins s k m) → (find s v ≡ Some m → Begins s v m) → FoundAmong s (k ∷ v ∷ []) m
in_two s k v m is a b = or_some (find s k) (find s v) m is (λ i. in_first s k (v ∷ []) m (a i)) (λ i. in_later s k (v ∷ []) m (in_first s v [] m (b i)))

-- what is found is a part that begins there
mutual
  pub find_is : (s : Spot) (n m : Node) → find s n ≡ Some m → Begins s n m
  find_is s (OneAt p e l) m is = itself_found s (OneAt p e l) m is
  find_is s (ArrayAt p e ns) m is = or_some (hit s (ArrayAt p e ns)) (find_each s ns) m is (itself_found s (ArrayAt p e ns) m) (λ h. deeper s (ArrayAt p e ns) m (each_is s ns m h))
  find_is s (SetAt p e ns) m is = or_some (hit s (SetAt p e ns)) (find_each s ns) m is (itself_found s (SetAt p e ns) m) (λ h. deeper s (SetAt p e ns) m (each_is s ns m h))
  find_is s (PushAt p e ns) m is = or_some (hit s (PushAt p e ns)) (find_each s ns) m is (itself_found s (PushAt p e ns) m) (λ h. deeper s (PushAt p e ns) m (each_is s ns m h))
  find_is s (MapAt p e ps) m is = or_some (hit s (MapAt p e ps)) (find_pairs s ps) m is (itself_found s (MapAt p e ps) m) (λ h. deeper s (MapAt p e ps) m (pairs_is s ps m h))
  find_is s (AttributeAt p e ps n) m is =
      or_some (hit s (AttributeAt p e ps n)) (or_else (find_halves s ps) (find s n)) m is (itself_found s (AttributeAt p e ps n) m)
      (λ h. deeper s (AttributeAt p e ps n) m (halves_is s ps (n ∷ []) (find s n) m h (λ i. in_first s n [] m (find_is s n m i))))
  find_is s (PairAt p e k v) m is =
      or_some (hit s (PairAt p e k v)) (or_else (find s k) (find s v)) m is (itself_found s (PairAt p e k v) m)
      (λ h. deeper s (PairAt p e k v) m (in_two s k v m h (find_is s k m) (find_is s v m)))

  each_is : (s : Spot) (ns : Nodes) (m : Node) → find_each s ns ≡ Some m → FoundAmong s (listed ns) m
  each_is s no_node m is = absurd (clash is)
  each_is s (node_then n ns) m is = or_some (find s n) (find_each s ns) m is (λ i. in_first s n (listed ns) m (find_is s n m i)) (λ i. in_later s n (listed ns) m (each_is s ns m i))

  pairs_is : (s : Spot) (ps : NodePairs) (m : Node) → find_pairs s ps ≡ Some m → FoundAmong s (paired ps) m
  pairs_is s no_nodes m is = absurd (clash is)
  pairs_is s (nodes_then k v ps) m is =
      or_some (or_else (hit s (pair_node (k, v))) (or_else (find s k) (find s v))) (find_pairs s ps) m is
      (λ i. in_first s (pair_node (k, v)) (paired ps) m
      (or_some (hit s (pair_node (k, v))) (or_else (find s k) (find s v)) m i (itself_found s (pair_node (k, v)) m) (λ j. deeper s (pair_node (k, v)) m (in_two s k v m j (find_is s k m) (find_is s v m)))))
      (λ i. in_later s (pair_node (k, v)) (paired ps) m (pairs_is s ps m i))

  halves_is : (s : Spot) (ps : NodePairs) (ns : List Node) (o : Option Node) (m : Node) → or_else (find_halves s ps) o ≡ Some m → (o ≡ Some m → FoundAmong s ns m) → FoundAmong s (flattened ps ++ ns) m
  halves_is s no_nodes ns o m is last = last is
  halves_is s (nodes_then k v ps) ns o m is last =
      or_some (find s k) (or_else (or_else (find s v) (find_halves s ps)) o) m (or_or (find s k) (or_else (find s v) (find_halves s ps)) o ∙ is)
      (λ i. in_first s k (v ∷ (flattened ps ++ ns)) m (find_is s k m i))
      (λ i. in_later s k (v ∷ (flattened ps ++ ns)) m
      (or_some (find s v) (or_else (find_halves s ps) o) m (or_or (find s v) (find_halves s ps) o ∙ i)
      (λ j. in_first s v (flattened ps ++ ns) m (find_is s v m j))
      (λ j. in_later s v (flattened ps ++ ns) m (halves_is s ps ns o m j last))))

pub among_is : (s : Spot) (ns : List Node) (m : Node) → find_among s ns ≡ Some m → FoundAmong s ns m
among_is s [] m is = absurd (clash is)
among_is s (n ∷ ns) m is = or_some (find s n) (find_among s ns) m is (λ i. in_first s n ns m (find_is s n m i)) (λ i. in_later s n ns m (among_is s ns m i))

-- where nothing is found no part begins there
among_none : (s : Spot) (n : Node) (ns : List Node) → Among n ns → find_among s ns ≡ None → find s n ≡ None
among_none s _ _ (first {n = n} {ns = ns}) e = (or_nothing (find s n) (find_among s ns) e).0
among_none s _ _ (later {n = n} {m = m} {ns = ns} a) e = among_none s n ns a (or_nothing (find s m) (find_among s ns) e).1

none_inside : (s : Spot) (part n : Node) → Inside part n → find s n ≡ None → spot_of part ≡ s → ⊥
none_inside s _ _ (itself {n = n}) e is = clash (sym e ∙ find_here s n (spot_same (spot_of n) s is))
none_inside s _ _ (below {part = part} {m = m} {n = n} a i) e is =
    none_inside s part m i (among_none s m (inner_of n) a (or_nothing (hit s n) (find_among s (inner_of n)) (sym (find_inner s n) ∙ e)).1) is

pub find_none : (s : Spot) (n : Node) → find s n ≡ None → NoneBegins s n
find_none s n e part b = none_inside s part n b.part e b.spot

-- sizes: how many trees a tree holds, itself among them
abbrev mutual
  pub size : Node → ℕ
  size (OneAt p e l) = 1
  size (ArrayAt p e ns) = suc (sizes ns)
  size (SetAt p e ns) = suc (sizes ns)
  size (PushAt p e ns) = suc (sizes ns)
  size (MapAt p e ps) = suc (pair_sizes ps)
  size (AttributeAt p e ps n) = suc (pair_sizes ps + size n)
  size (PairAt p e k v) = suc (size k + size v)

  sizes : Nodes → ℕ
  sizes no_node = 0
  sizes (node_then n ns) = size n + sizes ns

  pair_sizes : NodePairs → ℕ
  pair_sizes no_nodes = 0
  pair_sizes (nodes_then k v ps) = suc (size k + size v) + pair_sizes ps

abbrev total : List Node → ℕ
total [] = 0
total (n ∷ ns) = size n + total ns

total_each : (ns : Nodes) → total (listed ns) ≡ sizes ns
total_each no_node = refl
total_each (node_then n ns) = ap (λ k. size n + k) (total_each ns)

total_pairs : (ps : NodePairs) → total (paired ps) ≡ pair_sizes ps
total_pairs no_nodes = refl
total_pairs (nodes_then k v ps) = ap (λ n. suc (size k + size v) + n) (total_pairs ps)

total_halves : (ps : NodePairs) (n : Node) → total (flattened ps ++ (n ∷ [])) ≤ pair_sizes ps + size n
total_halves no_nodes n = omega arith
total_halves (nodes_then k v ps) n = omega (arith, total_halves ps n)

inner_total : (n : Node) → total (inner_of n) < size n
inner_total (OneAt p e l) = omega arith
inner_total (ArrayAt p e ns) = omega (arith, total_each ns)
inner_total (SetAt p e ns) = omega (arith, total_each ns)
inner_total (PushAt p e ns) = omega (arith, total_each ns)
inner_total (MapAt p e ps) = omega (arith, total_pairs ps)
inner_total (AttributeAt p e ps n) = omega (arith, total_halves ps n)
inner_total (PairAt p e k v) = omega arith

among_size : (n : Node) (ns : List Node) → Among n ns → size n ≤ total ns
among_size _ _ (first {n = n} {ns = ns}) = omega arith
among_size _ _ (later {n = n} {m = m} {ns = ns} a) = omega (arith, among_size n ns a)

pub inner_size : (m n : Node) → Among m (inner_of n) → size m < size n
inner_size m n a = omega (arith, among_size m (inner_of n) a, inner_total n)

-- what the comparison of two places says
pub spots_are : (a b : Spot) → same_spot a b ≡ (eqb a.at b.at && beq a.pair b.pair)
spots_are a b = by a.pair b.pair refl refl
  where
    by : (p q : Bool) → a.pair ≡ p → b.pair ≡ q → (eqb a.at b.at && cond p q (not q)) ≡ (eqb a.at b.at && beq p q)
    by true true i j = refl
    by true false i j = refl
    by false true i j = refl
    by false false i j = refl

-- what an answer says of the tree
pub told_begins : (s : Spot) (tree : Node) (o : Option Reply) → told o ≡ find s tree → MatchOption o (NoneBegins s tree) (λ reply. Begins s tree (node_of reply))
told_begins s tree (Some reply) e = find_is s tree (node_of reply) (sym e)
told_begins s tree None e = find_none s tree (sym e)

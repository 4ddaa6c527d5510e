-- The first of each class of keys, with the last value of the class.
use Rattle.std.proofs.Common.{◌≡◌, suc, ◌+◌, ◌-◌, Bool, true, false, cond, ◌||◌, ◌⊎◌, List, [], ◌∷◌, ◌++◌, length, take, sym, refl, ap, ◌∙◌, subst, inl, inr, append_assoc, arith, length-append}
use Rattle.std.proofs.lemmas.List.{take_at}
use Rattle.resp.specs.Node.{Node}
use Rattle.kinds.specs.Rows.{mapped}
use Rattle.kinds.specs.Same.{Equality}
use Rattle.collections.specs.Maps.{entries, last_for, merged, merged_in, seen_key}
use Rattle.collections.specs.Sets.{seen_in}
use Rattle.collections.specs.Theorems.{OneOf, Last, LastValues, key_in}
use Rattle.collections.proofs.Firsts.{Walked, walked_all, walked_more, walked_none, one_either}

-- keys and values, one after the other
abbrev flat : List (Node × Node) → List Node
flat [] = []
flat (e ∷ es) = e.0 ∷ e.1 ∷ flat es

flat_more : (es : List (Node × Node)) (k v : Node) (ns : List Node) → flat es ++ (k ∷ v ∷ ns) ≡ flat (es ++ ((k, v) ∷ [])) ++ ns
flat_more [] k v ns = refl
flat_more (e ∷ es) k v ns = ap (λ l. e.0 ∷ e.1 ∷ l) (flat_more es k v ns)

keys_more : (es : List (Node × Node)) (k v : Node) → mapped key_in (es ++ ((k, v) ∷ [])) ≡ mapped key_in es ++ (k ∷ [])
keys_more [] k v = refl
keys_more (e ∷ es) k v = ap (λ l. e.0 ∷ l) (keys_more es k v)

mapped_cond : (b : Bool) (es : List (Node × Node)) (e : Node × Node) → cond b (mapped key_in es) (e.0 ∷ mapped key_in es) ≡ mapped key_in (cond b es (e ∷ es))
mapped_cond true es e = refl
mapped_cond false es e = refl

one_cond : (b : Bool) (x y : Node × Node) (es : List (Node × Node)) → OneOf x (cond b es (y ∷ es)) → (x ≡ y) ⊎ OneOf x es
one_cond true x y es o = inr o
one_cond false x y es o = o

module _ (alike : Node → Node → Bool) where
  seen_flat : (x : Node) (es : List (Node × Node)) → seen_key alike x (flat es) ≡ seen_in alike x (mapped key_in es)
  seen_flat x [] = refl
  seen_flat x (e ∷ es) = ap (λ b. alike e.0 x || b) (seen_flat x es)

  keys_walk : Equality alike → (all : List Node) (es : List (Node × Node)) (ns : List Node) → all ≡ flat es ++ ns
      → Walked alike (mapped key_in es) (mapped key_in (entries ns)) (mapped key_in (merged_in alike all ns))
  keys_walk E all es [] is = walked_none alike (mapped key_in es)
  keys_walk E all es (k ∷ []) is = walked_none alike (mapped key_in es)
  keys_walk E all es (k ∷ v ∷ ns) is =
      let size = length all - suc (suc (length ns)) in
      let len : length all ≡ length (flat es) + suc (suc (length ns)) = ap length is ∙ length-append (flat es) (k ∷ v ∷ ns) in
      let front : take size all ≡ flat es = ap (take size) is ∙ take_at (flat es) (k ∷ v ∷ ns) size (omega arith) in
      let next = keys_walk E all (es ++ ((k, v) ∷ [])) ns (is ∙ flat_more es k v ns) in
      let kept = mapped key_in (merged_in alike all ns) in
      let w = walked_more alike E (mapped key_in es) (mapped key_in (entries ns)) kept k (seen_key alike k (take size all))
      (sym (seen_flat k es) ∙ ap (seen_key alike k) (sym front))
      (subst (λ l. Walked alike l (mapped key_in (entries ns)) kept) (keys_more es k v) next) in
      subst (Walked alike (mapped key_in es) (k ∷ mapped key_in (entries ns)))
      (mapped_cond (seen_key alike k (take size all)) (merged_in alike all ns) (k, last_for alike k v ns)) w

  -- more entries before
  last_after : (k v : Node) (es fs : List (Node × Node)) → Last alike k v fs → Last alike k v (es ++ fs)
  last_after k v es fs l =
      record {
        key = l.key;
        before = es ++ l.before;
        after = l.after;
        stands = ap (λ z. es ++ z) l.stands ∙ sym (append_assoc es l.before ((l.key, v) ∷ l.after));
        like = l.like;
        last = l.last;
      }

  -- no key of these is like k
  abbrev Unlike : Node → List (Node × Node) → Type 0
  Unlike k es = (j w : Node) → OneOf (j, w) es → alike k j ≡ false

  last_here : (k j v : Node) (es : List (Node × Node)) → alike k j ≡ true → Unlike k es → Last alike k v ((j, v) ∷ es)
  last_here k j v es a u = record { key = j; before = []; after = es; stands = refl; like = a; last = u }

  unlike_more : (k i w : Node) (es : List (Node × Node)) → Unlike k es → alike k i ≡ false → Unlike k (es ++ ((i, w) ∷ []))
  unlike_more k i w es u a j x o = by (one_either (j, x) es ((i, w) ∷ []) o)
    where
      by : OneOf (j, x) es ⊎ OneOf {A = Node × Node} (j, x) ((i, w) ∷ []) → alike k j ≡ false
      by (inl p) = u j x p
      by (inr (inl e)) = ap (λ (z : Node × Node). alike k z.0) e ∙ a
      by (inr (inr never)) = absurd never

  unlike_end : (k : Node) (es : List (Node × Node)) → Unlike k es → Unlike k (es ++ [])
  unlike_end k es u j x o = by (one_either (j, x) es [] o)
    where
      by : OneOf (j, x) es ⊎ OneOf {A = Node × Node} (j, x) [] → alike k j ≡ false
      by (inl p) = u j x p
      by (inr never) = absurd never

  last_of : (k j v : Node) (mid : List (Node × Node)) (ns : List Node) → alike k j ≡ true → Unlike k mid → Last alike k (last_for alike k v ns) ((j, v) ∷ (mid ++ entries ns))
  last_of k j v mid [] a u = last_here k j v (mid ++ []) a (unlike_end k mid u)
  last_of k j v mid (x ∷ []) a u = last_here k j v (mid ++ []) a (unlike_end k mid u)
  last_of k j v mid (i ∷ w ∷ ns) a u = by (alike k i) refl (λ y. last_of k i w [] ns y (λ j x o. absurd o)) (λ y. last_of k j v (mid ++ ((i, w) ∷ [])) ns a (unlike_more k i w mid u y))
    where
      by : (b : Bool) → alike k i ≡ b → (alike k i ≡ true → Last alike k (last_for alike k w ns) ((i, w) ∷ entries ns))
          → (alike k i ≡ false → Last alike k (last_for alike k v ns) ((j, v) ∷ ((mid ++ ((i, w) ∷ [])) ++ entries ns)))
          → Last alike k (last_for alike k (cond b w v) ns) ((j, v) ∷ (mid ++ ((i, w) ∷ entries ns)))
      by true is yes' no' = last_after k (last_for alike k w ns) ((j, v) ∷ mid) ((i, w) ∷ entries ns) (yes' is)
      by false is yes' no' = subst (λ l. Last alike k (last_for alike k v ns) ((j, v) ∷ l)) (append_assoc mid ((i, w) ∷ []) (entries ns)) (no' is)

  values_walk : Equality alike → (all ns : List Node) (k v : Node) → OneOf (k, v) (merged_in alike all ns) → Last alike k v (entries ns)
  values_walk E all [] k v o = absurd o
  values_walk E all (j ∷ []) k v o = absurd o
  values_walk E all (j ∷ w ∷ ns) k v o = by (values_walk E all ns k v) (one_cond _ (k, v) (j, last_for alike j w ns) (merged_in alike all ns) o)
    where
      by : (OneOf (k, v) (merged_in alike all ns) → Last alike k v (entries ns)) → ◌≡◌ {A = Node × Node} (k, v) (j, last_for alike j w ns) ⊎ OneOf (k, v) (merged_in alike all ns)
          → Last alike k v ((j, w) ∷ entries ns)
      by next (inl e) = subst (λ (z : Node × Node). Last alike z.0 z.1 ((j, w) ∷ entries ns)) (sym e) (last_of j j w [] ns (E.reflexive j) (λ i x o. absurd o))
      by next (inr p) = last_after k v ((j, w) ∷ []) (entries ns) (next p)

  pub merged_distinct : Equality alike → (ns : List Node) → LastValues alike (entries ns) (merged alike ns)
  merged_distinct E ns =
      record {
        keys = walked_all alike E (mapped key_in (entries ns)) (mapped key_in (merged alike ns)) (keys_walk E ns [] ns refl);
        values = values_walk E ns ns;
      }

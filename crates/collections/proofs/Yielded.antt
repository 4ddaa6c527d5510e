-- What the iterators over replies and over entries yield, and what the last of some is.
use Rattle.std.proofs.Common.{◌≡◌, ℕ, Bool, true, false, cond, List, [], ◌∷◌, length, map, Some, None, Option, sym, refl, ap, ◌∙◌, arith}
use Rattle.std.specs.Prelude.{IsSomeAnd, MatchOption, filter, option_map}
use Rattle.std.specs.Iterator.{AlwaysYields, Drains}
use Rattle.std.specs.List.{last_or}
use Rattle.std.proofs.lemmas.Iterator.{YieldsList, items_from_drains}
use Rattle.resp.specs.Node.{Node}
use Rattle.reply.specs.View.{node_of, nodes_of}
use Rattle.reply.specs.declared.view.Items.{Items}
use Rattle.reply.specs.declared.view.Reply.{Reply}
use Rattle.reply.specs.Rows.{Over, Passes}
use Rattle.collections.specs.Entries.{NoEntry, PassesEntry}
use Rattle.collections.specs.Maps.{entries, last_for}
use Rattle.collections.specs.Picks.{found_nodes, is_named, last_named, last_named_from}
use Rattle.collections.specs.declared.entry.Entry.{Entry}
use Rattle.collections.specs.declared.entry.Entries.{Entries}

abbrev pub entry_steps : Entries → Option Entry → Entries → Type 0
entry_steps row first others = MatchOption first (NoEntry row others) (λ entry. PassesEntry row entry others)

-- an entry as its key and value
abbrev pub both_of : Entry → Node × Node
both_of e = (node_of e.key, node_of e.value)

gives : (ns : List Node) (s : Entries) → nodes_of s.rest ≡ ns → AlwaysYields entry_steps both_of s (entries ns)
gives [] s e = λ x j p. absurd cc
gives (k ∷ []) s e = λ x j p. absurd cc
gives (k ∷ v ∷ ns) s e = (
  (λ j p. absurd (omega (arith, ap length e, p.few))),
  λ x j p. let is : node_of x.key ∷ node_of x.value ∷ nodes_of j.rest ≡ k ∷ v ∷ ns = sym p.items ∙ e in
      let key : node_of x.key ≡ k = cc in
      let value : node_of x.value ≡ v = cc in
      (ap (λ n. (n, node_of x.value)) key ∙ ap (λ n. (k, n)) value, gives ns j cc),
)

pub entries_yield : (s : Entries) → YieldsList entry_steps both_of s (entries (nodes_of s.rest))
entries_yield s = record { runs = gives (nodes_of s.rest) s refl }

abbrev pub reply_steps : Items → Option Reply → Items → Type 0
reply_steps row first others = MatchOption first (Over row others) (λ reply. Passes row reply others)

gives_replies : (ns : List Node) (s : Items) → nodes_of s ≡ ns → AlwaysYields reply_steps node_of s ns
gives_replies [] s e = λ x j p. absurd cc
gives_replies (n ∷ ns) s e = (
  (λ j p. absurd cc),
  λ x j p. let is : node_of x ∷ nodes_of j ≡ n ∷ ns = sym p.items ∙ e in (cc, gives_replies ns j cc),
)

pub replies_yield : (s : Items) → YieldsList reply_steps node_of s (nodes_of s)
replies_yield s = record { runs = gives_replies (nodes_of s) s refl }

last_map : {A B : Type 0} (v : A → B) (o : Option A) (xs : List A) → option_map v (last_or o xs) ≡ last_or (option_map v o) (map v xs)
last_map v o [] = refl
last_map v o (x ∷ xs) = last_map v (Some x) xs

pub last_is : {S A B : Type 0} {steps : S → Option A → S → Type 0} {v : A → B} {s : S} {all : List B} → YieldsList steps v s all
    → (r : Option A) → (xs : List A) × Drains steps s xs × (r ≡ last_or None xs) → option_map v r ≡ last_or None all
last_is {v = v} y r (xs, d, e) = ap (option_map v) e ∙ last_map v None xs ∙ ap (last_or None) (items_from_drains xs (d.1.0, d.1.1, λ _. (d.0, d.1.2)) y)

-- the value of an entry, if there is one
abbrev value_or : Node → Option (Node × Node) → Node
value_or v None = v
value_or v (Some e) = e.1

abbrev values_or : List Node → Option (Node × Node) → List Node
values_or found None = found
values_or found (Some e) = e.1 ∷ []

chosen : {A B : Type 0} (P : List A → B → Type 0) (b : Bool) (es fs : List A) (x y : B) → P es x → P fs y → P (cond b es fs) (cond b x y)
chosen P true es fs x y here past = here
chosen P false es fs x y here past = past

module _ (alike : Node → Node → Bool) (k v : Node) where
  for_last : (o : Option (Node × Node)) (ns : List Node) → value_or v (last_or o (filter (λ e. alike k e.0) (entries ns))) ≡ last_for alike k (value_or v o) ns
  for_last o [] = refl
  for_last o (j ∷ []) = refl
  for_last o (j ∷ w ∷ ns) =
      let rest = filter (λ e. alike k e.0) (entries ns) in
      chosen (λ es n. value_or v (last_or o es) ≡ last_for alike k n ns) (alike k j) ((j, w) ∷ rest) rest w (value_or v o) (for_last (Some (j, w)) ns) (for_last o ns)

  valued : (P : Entry → Type 0) (r d : Reply) (o : Option Entry) → node_of d ≡ v → MatchOption o (r ≡ d) P → ((e : Entry) → P e → r ≡ e.value) → node_of r ≡ value_or v (option_map both_of o)
  valued P r d None is m so = ap node_of m ∙ is
  valued P r d (Some e) is m so = ap node_of (so e m)

  pub last_for_is : (P : Entry → Type 0) (ns : List Node) (r d : Reply) (o : Option Entry) → node_of d ≡ v → MatchOption o (r ≡ d) P → ((e : Entry) → P e → r ≡ e.value)
      → option_map both_of o ≡ last_or None (filter (λ e. alike k e.0) (entries ns)) → node_of r ≡ last_for alike k v ns
  last_for_is P ns r d o is m so l = valued P r d o is m so ∙ ap (value_or v) l ∙ for_last None ns

module _ (name : List ℕ) where
  named_last : (found : List Node) (o : Option (Node × Node)) (ns : List Node)
      → values_or found (last_or o (filter (λ e. is_named name e.0) (entries ns))) ≡ last_named_from name (values_or found o) ns
  named_last found o [] = refl
  named_last found o (k ∷ []) = refl
  named_last found o (k ∷ v ∷ ns) =
      let rest = filter (λ e. is_named name e.0) (entries ns) in
      chosen (λ es ms. values_or found (last_or o es) ≡ last_named_from name ms ns) (is_named name k) ((k, v) ∷ rest) rest (v ∷ []) (values_or found o) (named_last found (Some (k, v)) ns)
      (named_last found o ns)

  found_value : (P : Entry → Reply → Type 0) (r : Option Reply) (o : Option Entry) → MatchOption o (r ≡ None) (λ e. IsSomeAnd r (P e)) → ((e : Entry) (v : Reply) → P e v → v ≡ e.value)
      → found_nodes r ≡ values_or [] (option_map both_of o)
  found_value P r None m so = ap found_nodes m
  found_value P None (Some e) m so = absurd m
  found_value P (Some v) (Some e) m so = ap (λ v. node_of v ∷ []) (so e v m)

  pub last_named_is : (P : Entry → Reply → Type 0) (ns : List Node) (r : Option Reply) (o : Option Entry) → MatchOption o (r ≡ None) (λ e. IsSomeAnd r (P e))
      → ((e : Entry) (v : Reply) → P e v → v ≡ e.value) → option_map both_of o ≡ last_or None (filter (λ e. is_named name e.0) (entries ns)) → found_nodes r ≡ last_named name ns
  last_named_is P ns r o m so l = found_value P r o m so ∙ ap (values_or []) l ∙ named_last [] None ns

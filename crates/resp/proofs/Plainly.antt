-- The reading of replies without places, and that the located reading differs from it in the places alone.
use Rattle.std.proofs.Common.{◌≡◌, ℕ, zero, suc, ◌-◌, Bool, true, false, cond, List, [], ◌∷◌, map as each, sym, refl, ap, ◌∙◌}
use mathlib.Core.Path.{fun_ext}
use Rattle.resp.specs.declared.fault.WireReason.TheVariants.{NotWhole, Limit, Content}
use Rattle.resp.specs.Out.{Out, ok, fault, and_then, map_out}
use Rattle.resp.specs.Reply.{Reply, One, Array, Set, Push, Map, Attribute, then, pair_then, replies, pairs, is_string_reply}
use Rattle.resp.specs.Reading.{Head, a_leaf, of_array, of_set, of_push, of_map, of_attribute, Form, leaf, array, set, push, map, attribute, opening, items, pair, named, parts, form}
use Rattle.resp.specs.Node.{Node, OneAt, ArrayAt, SetAt, PushAt, MapAt, AttributeAt, PairAt, nodes, node_pairs, erase, erase_all, erase_pairs, is_string_node, knit, ended, reading}

abbrev pub weave : Form Reply → Reply
weave (leaf l) = One l
weave (array rs) = Array (replies rs)
weave (set rs) = Set (replies rs)
weave (push rs) = Push (replies rs)
weave (map ps) = Map (pairs ps)
weave (attribute ps r) = Attribute (pairs ps) r

abbrev pub plainly : ℕ → List ℕ → Out Reply
plainly zero [] = fault NotWhole []
plainly zero (b ∷ bs) = fault Limit (b ∷ bs)
plainly (suc d) bs = map_out weave (form (plainly d) is_string_reply bs)

abbrev both : {R S : Type 0} → (R → S) → R × R → S × S
both g p = (g p.0, g p.1)

abbrev map_form : {R S : Type 0} → (R → S) → Form R → Form S
map_form g (leaf l) = leaf l
map_form g (array rs) = array (each g rs)
map_form g (set rs) = set (each g rs)
map_form g (push rs) = push (each g rs)
map_form g (map ps) = map (each (both g) ps)
map_form g (attribute ps r) = attribute (each (both g) ps) (g r)

map_map : {A B C : Type 0} (f : B → C) (g : A → B) (h : A → C) (o : Out A) → ((a : A) → f (g a) ≡ h a) → map_out f (map_out g o) ≡ map_out h o
map_map f g h (ok a rest) e = ap (λ c. ok c rest) (e a)
map_map f g h (fault k at) e = refl

map_then : {A B C : Type 0} (g : B → C) (o : Out A) (k : A → List ℕ → Out B) (k' : A → List ℕ → Out C) → ((a : A) (l : List ℕ) → k' a l ≡ map_out g (k a l))
    → and_then o k' ≡ map_out g (and_then o k)
map_then g (ok a rest) k k' h = h a rest
map_then g (fault n at) k k' h = refl

-- the inner reader's values renamed
then_map : {A B C D : Type 0} (g : A → B) (o : Out A) (h : C → D) (k : B → List ℕ → Out D) (k' : A → List ℕ → Out C) → ((a : A) (l : List ℕ) → k (g a) l ≡ map_out h (k' a l))
    → and_then (map_out g o) k ≡ map_out h (and_then o k')
then_map g (ok a rest) h k k' e = e a rest
then_map g (fault n at) h k k' e = refl

-- two ways round a square of renamings
square : {A B C D : Type 0} (f : B → D) (g : A → B) (f' : C → D) (g' : A → C) (o : Out A) → ((a : A) → f (g a) ≡ f' (g' a)) → map_out f (map_out g o) ≡ map_out f' (map_out g' o)
square f g f' g' (ok a rest) e = ap (λ c. ok c rest) (e a)
square f g f' g' (fault k at) e = refl

pub items_natural : {R S : Type 0} (g : R → S) (f : List ℕ → Out R) (n : ℕ) (bs : List ℕ) → items (λ l. map_out g (f l)) n bs ≡ map_out (each g) (items f n bs)
items_natural g f zero bs = refl
items_natural g f (suc n) bs =
    then_map g (f bs) (each g) _ _ (λ a more.
    ap (map_out (λ l. g a ∷ l)) (items_natural g f n more) ∙ square (λ l. g a ∷ l) (each g) (each g) (λ l. a ∷ l) (items f n more) (λ _. refl))

pub pair_natural : {R S : Type 0} (g : R → S) (f : List ℕ → Out R) (bs : List ℕ) → pair (λ l. map_out g (f l)) bs ≡ map_out (both g) (pair f bs)
pair_natural g f bs = then_map g (f bs) (both g) _ _ (λ a more. square (λ b. (g a, b)) g (both g) (λ b. (a, b)) (f more) (λ _. refl))

named_natural : {R S : Type 0} (g : R → S) (f : List ℕ → Out R) (p : R → Bool) (q : S → Bool) → ((r : R) → q (g r) ≡ p r) → (n : ℕ) (bs : List ℕ)
    → named (λ l. map_out g (f l)) q n bs ≡ map_out (each g) (named f p n bs)
named_natural g f p q same n bs =
    then_map g (f bs) (each g) _ _ (λ a more.
    ap (λ t. cond t (map_out (λ l. g a ∷ l) (items (λ l. map_out g (f l)) (n - 1) more)) (fault Content bs)) (same a) ∙ by (p a) a more)
  where
    by : (t : Bool) (a : _) (more : List ℕ)
        → cond t (map_out (λ l. g a ∷ l) (items (λ l. map_out g (f l)) (n - 1) more)) (fault Content bs) ≡ map_out (each g) (cond t (map_out (λ l. a ∷ l) (items f (n - 1) more)) (fault Content bs))
    by true a more = ap (map_out (λ l. g a ∷ l)) (items_natural g f (n - 1) more) ∙ square (λ l. g a ∷ l) (each g) (each g) (λ l. a ∷ l) (items f (n - 1) more) (λ _. refl)
    by false a more = refl

pairs_natural : {R S : Type 0} (g : R → S) (f : List ℕ → Out R) (n : ℕ) (bs : List ℕ) → items (pair (λ l. map_out g (f l))) n bs ≡ map_out (each (both g)) (items (pair f) n bs)
pairs_natural g f n bs = ap (λ h. items h n bs) (fun_ext (pair_natural g f)) ∙ items_natural (both g) (pair f) n bs

parts_natural : {R S : Type 0} (g : R → S) (f : List ℕ → Out R) (p : R → Bool) (q : S → Bool) → ((r : R) → q (g r) ≡ p r) → (h : Head) (bs : List ℕ)
    → parts (λ l. map_out g (f l)) q h bs ≡ map_out (map_form g) (parts f p h bs)
parts_natural g f p q same (a_leaf l) bs = refl
parts_natural g f p q same (of_array n) bs = ap (map_out array) (items_natural g f n bs) ∙ square array (each g) (map_form g) array (items f n bs) (λ _. refl)
parts_natural g f p q same (of_set n) bs = ap (map_out set) (items_natural g f n bs) ∙ square set (each g) (map_form g) set (items f n bs) (λ _. refl)
parts_natural g f p q same (of_push n) bs = ap (map_out push) (named_natural g f p q same n bs) ∙ square push (each g) (map_form g) push (named f p n bs) (λ _. refl)
parts_natural g f p q same (of_map n) bs = ap (map_out map) (pairs_natural g f n bs) ∙ square map (each (both g)) (map_form g) map (items (pair f) n bs) (λ _. refl)
parts_natural g f p q same (of_attribute n) bs =
    ap (λ o. and_then o (λ ps l. map_out (attribute ps) (map_out g (f l)))) (pairs_natural g f n bs)
    ∙ then_map (each (both g)) (items (pair f) n bs) (map_form g) _ _ (λ ps l. square (attribute (each (both g) ps)) g (map_form g) (attribute ps) (f l) (λ _. refl))

form_natural : {R S : Type 0} (g : R → S) (f : List ℕ → Out R) (p : R → Bool) (q : S → Bool) → ((r : R) → q (g r) ≡ p r) → (bs : List ℕ)
    → form (λ l. map_out g (f l)) q bs ≡ map_out (map_form g) (form f p bs)
form_natural g f p q same bs = map_then (map_form g) (opening bs) _ _ (parts_natural g f p q same)

-- without its places
string_erase : (n : Node) → is_string_reply (erase n) ≡ is_string_node n
string_erase (OneAt p e l) = refl
string_erase (ArrayAt p e ns) = refl
string_erase (SetAt p e ns) = refl
string_erase (PushAt p e ns) = refl
string_erase (MapAt p e ps) = refl
string_erase (AttributeAt p e ps n) = refl
string_erase (PairAt p e k v) = refl

erase_nodes : (ns : List Node) → erase_all (nodes ns) ≡ replies (each erase ns)
erase_nodes [] = refl
erase_nodes (n ∷ ns) = ap (then (erase n)) (erase_nodes ns)

erase_pairs_lem : (ps : List (Node × Node)) → erase_pairs (node_pairs ps) ≡ pairs (each (both erase) ps)
erase_pairs_lem [] = refl
erase_pairs_lem (p ∷ ps) = ap (pair_then (erase p.0) (erase p.1)) (erase_pairs_lem ps)

erase_knit : (p e : ℕ) (f : Form Node) → erase (knit p e f) ≡ weave (map_form erase f)
erase_knit p e (leaf l) = refl
erase_knit p e (array ns) = ap Array (erase_nodes ns)
erase_knit p e (set ns) = ap Set (erase_nodes ns)
erase_knit p e (push ns) = ap Push (erase_nodes ns)
erase_knit p e (map ps) = ap Map (erase_pairs_lem ps)
erase_knit p e (attribute ps n) = ap (λ qs. Attribute qs (erase n)) (erase_pairs_lem ps)

map_ended : {A B C : Type 0} (h : B → C) (k : A → List ℕ → B) (g : A → C) (o : Out A) → ((a : A) (rest : List ℕ) → h (k a rest) ≡ g a) → map_out h (ended k o) ≡ map_out g o
map_ended h k g (ok a rest) e = ap (λ c. ok c rest) (e a rest)
map_ended h k g (fault n at) e = refl

pub erases : (at : List ℕ → ℕ) (d : ℕ) (bs : List ℕ) → map_out erase (reading at d bs) ≡ plainly d bs
erases at zero [] = refl
erases at zero (b ∷ bs) = refl
erases at (suc d) bs =
    map_ended erase _ (λ f. weave (map_form erase f)) (form (reading at d) is_string_node bs) (λ f rest. erase_knit (at bs) (at rest) f)
    ∙ sym (map_map weave (map_form erase) (λ f. weave (map_form erase f)) (form (reading at d) is_string_node bs) (λ _. refl))
    ∙ ap (map_out weave) (sym (form_natural erase (reading at d) is_string_node is_string_reply string_erase bs) ∙ ap (λ f. form f is_string_reply bs) (fun_ext (erases at d)))

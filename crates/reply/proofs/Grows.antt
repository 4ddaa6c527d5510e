-- What is read where some levels are left is read, the same, where one more is.
use Rattle.std.proofs.Common.{◌≡◌, ℕ, zero, suc, ◌-◌, Bool, true, false, cond, List, [], ◌∷◌, refl, ap, ◌∙◌}
use Rattle.resp.specs.declared.fault.WireReason.TheVariants.{Content}
use Rattle.resp.specs.Out.{Out, ok, fault, and_then, map_out}
use Rattle.resp.specs.Reading.{Head, a_leaf, of_array, of_set, of_push, of_map, of_attribute, array, set, push, map, attribute, opening, items, pair, named, parts, form}
use Rattle.resp.specs.Node.{is_string_node, ended, reading}
use Rattle.resp.proofs.Outs.{clash}

abbrev pub Grows : {A : Type 0} → (List ℕ → Out A) → (List ℕ → Out A) → Type 0
Grows {A = A} f g = (bs : List ℕ) (a : A) (rest : List ℕ) → f bs ≡ ok a rest → g bs ≡ ok a rest

grows_map : {A B : Type 0} (h : A → B) (o o' : Out A) (b : B) (rest : List ℕ) → ((a : A) (l : List ℕ) → o ≡ ok a l → o' ≡ ok a l) → map_out h o ≡ ok b rest → map_out h o' ≡ ok b rest
grows_map h (ok a l) o' b rest k e = ap (map_out h) (k a l refl) ∙ e
grows_map h (fault n x) o' b rest k e = absurd (clash e)

grows_then : {A B : Type 0} (o o' : Out A) (k k' : A → List ℕ → Out B) (b : B) (rest : List ℕ) → ((a : A) (l : List ℕ) → o ≡ ok a l → o' ≡ ok a l)
    → ((a : A) (l : List ℕ) → k a l ≡ ok b rest → k' a l ≡ ok b rest) → and_then o k ≡ ok b rest → and_then o' k' ≡ ok b rest
grows_then (ok a l) o' k k' b rest g h e = ap (λ o. and_then o k') (g a l refl) ∙ h a l e
grows_then (fault n x) o' k k' b rest g h e = absurd (clash e)

pub grows_items : {A : Type 0} (f g : List ℕ → Out A) → Grows f g → (n : ℕ) → Grows (items f n) (items g n)
grows_items f g h zero bs a rest e = e
grows_items f g h (suc n) bs l rest e =
    grows_then (f bs) (g bs) _ _ l rest (h bs) (λ a more. grows_map (λ l. a ∷ l) (items f n more) (items g n more) l rest (grows_items f g h n more)) e

pub grows_pair : {A : Type 0} (f g : List ℕ → Out A) → Grows f g → Grows (pair f) (pair g)
grows_pair f g h bs p rest e = grows_then (f bs) (g bs) _ _ p rest (h bs) (λ a more. grows_map (λ b. (a, b)) (f more) (g more) p rest (h more)) e

grows_cond : {A : Type 0} (t : Bool) (x x' y : Out A) (a : A) (rest : List ℕ) → (x ≡ ok a rest → x' ≡ ok a rest) → cond t x y ≡ ok a rest → cond t x' y ≡ ok a rest
grows_cond true x x' y a rest h e = h e
grows_cond false x x' y a rest h e = e

pub grows_named : {A : Type 0} (f g : List ℕ → Out A) (string : A → Bool) → Grows f g → (n : ℕ) → Grows (named f string n) (named g string n)
grows_named f g string h n bs l rest e =
    grows_then (f bs) (g bs) _ _ l rest (h bs)
    (λ a more. grows_cond (string a) _ _ (fault Content bs) l rest (grows_map (λ l. a ∷ l) (items f (n - 1) more) (items g (n - 1) more) l rest (grows_items f g h (n - 1) more))) e

grows_parts : {R : Type 0} (f g : List ℕ → Out R) (string : R → Bool) → Grows f g → (h : Head) → Grows (parts f string h) (parts g string h)
grows_parts f g string k (a_leaf l) bs a rest e = e
grows_parts f g string k (of_array n) bs a rest e = grows_map array (items f n bs) (items g n bs) a rest (grows_items f g k n bs) e
grows_parts f g string k (of_set n) bs a rest e = grows_map set (items f n bs) (items g n bs) a rest (grows_items f g k n bs) e
grows_parts f g string k (of_push n) bs a rest e = grows_map push (named f string n bs) (named g string n bs) a rest (grows_named f g string k n bs) e
grows_parts f g string k (of_map n) bs a rest e = grows_map map (items (pair f) n bs) (items (pair g) n bs) a rest (grows_items (pair f) (pair g) (grows_pair f g k) n bs) e
grows_parts f g string k (of_attribute n) bs a rest e =
    grows_then (items (pair f) n bs) (items (pair g) n bs) _ _ a rest (grows_items (pair f) (pair g) (grows_pair f g k) n bs) (λ ps l. grows_map (attribute ps) (f l) (g l) a rest (k l)) e

grows_ended : {A B : Type 0} (h : A → List ℕ → B) (o o' : Out A) (b : B) (rest : List ℕ) → ((a : A) (l : List ℕ) → o ≡ ok a l → o' ≡ ok a l) → ended h o ≡ ok b rest → ended h o' ≡ ok b rest
grows_ended h (ok a l) o' b rest k e = ap (ended h) (k a l refl) ∙ e
grows_ended h (fault n x) o' b rest k e = absurd (clash e)

pub grows : (at : List ℕ → ℕ) (d : ℕ) → Grows (reading at d) (reading at (suc d))
grows at zero [] n rest e = absurd (clash e)
grows at zero (b ∷ bs) n rest e = absurd (clash e)
grows at (suc d) bs n rest e =
    grows_ended _ (form (reading at d) is_string_node bs) (form (reading at (suc d)) is_string_node bs) n rest
    (λ f l. grows_then (opening bs) (opening bs) _ _ f l (λ _ _ e. e) (λ h more. grows_parts (reading at d) (reading at (suc d)) is_string_node (grows at d) h more f l)) e

-- Reading agrees with the grammar.
use Rattle.std.proofs.Common.{◌≡◌, ℕ, zero, suc, ◌-◌, ◌<◌, List, [], ◌∷◌, ◌++◌, length, sym, ap, ◌∙◌, subst, append_assoc, arith}
use Rattle.std.proofs.lemmas.List.{append-nil}
use Rattle.resp.specs.Limits.{items_most, pairs_most}
use Rattle.resp.specs.Out.{Out, ok, map_out}
use Rattle.resp.specs.Reply.{Reply, is_string_reply}
use Rattle.resp.specs.Grammar as grammar
use Rattle.resp.specs.Grammar.{Header, Each, none, more, Two, Formed, an_array, a_set, a_push, a_map, an_attribute, Whole}
use Rattle.resp.specs.Reading.{Head, a_leaf, of_array, of_set, of_push, of_map, of_attribute, Form, leaf, array, set, push, map, attribute, opening, items, pair, named, parts, form}
use Rattle.resp.proofs.Outs.{clash, and_then_ok, map_out_ok, by_test}
use Rattle.resp.proofs.Lists.{Agrees, joined, items_sound, items_complete, pair_agrees}
use Rattle.resp.proofs.Heads.{Headed, opening_agrees}
use Rattle.resp.proofs.Plainly.{weave, plainly}

-- the parts that follow a head written as x
abbrev Follows : (Reply → List ℕ → Type 0) → List ℕ → List ℕ → Form Reply → List ℕ → Type 0
Follows W x bs f rest = (y : List ℕ) × (bs ≡ y ++ rest) × Formed W (weave f) (x ++ y)

refollow : (W : Reply → List ℕ → Type 0) (x bs : List ℕ) (f g : Form Reply) (rest : List ℕ) → f ≡ g → Follows W x bs f rest → Follows W x bs g rest
refollow W x bs f g rest e w = subst (λ h. Follows W x bs h rest) e w

list_sound : (f : List ℕ → Out Reply) (W : Reply → List ℕ → Type 0) → Agrees f W → (b n : ℕ) (g : List Reply → Form Reply) (x bs : List ℕ) (r : Form Reply) (rest : List ℕ)
    → Header b items_most n x → ((rs : List Reply) (y : List ℕ) → Header b items_most (length rs) x → Each W rs y → Formed W (weave (g rs)) (x ++ y))
    → map_out g (items f n bs) ≡ ok r rest → Follows W x bs r rest
list_sound f W ag b n g x bs r rest hd made e =
    let (l, p, q) = map_out_ok (items f n bs) g r rest e in
    let (y, split, ws, len) = items_sound f W ag n bs l rest p in
    refollow W x bs (g l) r rest q (y, split, made l y (subst (λ m. Header b items_most m x) (sym len) hd) ws)

push_sound : (f : List ℕ → Out Reply) (W : Reply → List ℕ → Type 0) → Agrees f W → (n : ℕ) (x bs : List ℕ) (l : List Reply) (rest : List ℕ)
    → Header 62 items_most n x → 0 < n → named f is_string_reply n bs ≡ ok l rest → Follows W x bs (push l) rest
push_sound f W ag n x bs l rest hd some e =
    let (a, m, p, q) = and_then_ok (f bs) _ l rest e in
    by_test (is_string_reply a) _ _ _ q
    (λ t i.
    let (as', r, s) = map_out_ok (items f (n - 1) m) (λ l. a ∷ l) l rest i in
    let (y, split, w) = ag.sound bs a m p in
    let (z, split', ws, len) = items_sound f W ag (n - 1) m as' rest r in
    let count : n ≡ length (a ∷ as') = omega arith in
    refollow W x bs (push (a ∷ as')) (push l) rest (ap push s)
    (y ++ z, joined bs y m z rest split split', a_push (subst (λ k. Header 62 items_most k x) count hd) t (more w ws)))
    (λ t i. absurd (clash i))

parts_sound : (f : List ℕ → Out Reply) (W : Reply → List ℕ → Type 0) → Agrees f W → (h : Head) (x : List ℕ) → Headed h x
    → (bs : List ℕ) (r : Form Reply) (rest : List ℕ) → parts f is_string_reply h bs ≡ ok r rest → Follows W x bs r rest
parts_sound f W ag (a_leaf l) x w bs r rest e =
    let is : leaf l ≡ r = cc in
    refollow W x bs (leaf l) r rest is ([], cc, grammar.a_leaf (subst (grammar.Leafed l) (sym (append-nil x)) w))
parts_sound f W ag (of_array n) x w bs r rest e = list_sound f W ag 42 n array x bs r rest w (λ rs y hd ws. an_array hd ws) e
parts_sound f W ag (of_set n) x w bs r rest e = list_sound f W ag 126 n set x bs r rest w (λ rs y hd ws. a_set hd ws) e
parts_sound f W ag (of_push n) x w bs r rest e =
    let (l, p, q) = map_out_ok (named f is_string_reply n bs) push r rest e in
    refollow W x bs (push l) r rest q (push_sound f W ag n x bs l rest w.0 w.1 p)
parts_sound f W ag (of_map n) x w bs r rest e =
    let (l, p, q) = map_out_ok (items (pair f) n bs) map r rest e in
    let (y, split, ws, len) = items_sound (pair f) (Two W) (pair_agrees f W ag) n bs l rest p in
    refollow W x bs (map l) r rest q (y, split, a_map (subst (λ m. Header 37 pairs_most m x) (sym len) w) ws)
parts_sound f W ag (of_attribute n) x w bs r rest e =
    let (l, m, p, q) = and_then_ok (items (pair f) n bs) _ r rest e in
    let (a, i, j) = map_out_ok (f m) (attribute l) r rest q in
    let (y, split, ws, len) = items_sound (pair f) (Two W) (pair_agrees f W ag) n bs l m p in
    let (z, split', v) = ag.sound m a rest i in
    refollow W x bs (attribute l a) r rest j
    (y ++ z, joined bs y m z rest split split', an_attribute (subst (λ k. Header 124 pairs_most k x) (sym len) w) ws v)

level_sound : (f : List ℕ → Out Reply) (W : Reply → List ℕ → Type 0) → Agrees f W → (bs : List ℕ) (r : Reply) (rest : List ℕ)
    → map_out weave (form f is_string_reply bs) ≡ ok r rest → (x : List ℕ) × (bs ≡ x ++ rest) × Formed W r x
level_sound f W ag bs r rest e =
    let (fm, p, q) = map_out_ok (form f is_string_reply bs) weave r rest e in
    let (h, m, i, j) = and_then_ok (opening bs) (parts f is_string_reply) fm rest p in
    let (x, split, w) = opening_agrees.sound bs h m i in
    let (y, split', v) = parts_sound f W ag h x w m fm rest j in
    (x ++ y, joined bs x m y rest split split', subst (λ k. Formed W k (x ++ y)) q v)

opened : (h : Head) (x y rest : List ℕ) → Headed h x → opening ((x ++ y) ++ rest) ≡ ok h (y ++ rest)
opened h x y rest w = ap opening (append_assoc x y rest) ∙ opening_agrees.complete x h (y ++ rest) w

level_complete : (f : List ℕ → Out Reply) (W : Reply → List ℕ → Type 0) → Agrees f W → (x : List ℕ) (r : Reply) (rest : List ℕ)
    → Formed W r x → map_out weave (form f is_string_reply (x ++ rest)) ≡ ok r rest
level_complete f W ag x _ rest (grammar.a_leaf {l = l} w) = rw (opening_agrees.complete x (a_leaf l) rest w)
level_complete f W ag _ _ rest (an_array {rs = rs} {h = h} {x = x} hd ws) = rw (opened (of_array (length rs)) h x rest hd, items_complete f W ag rs x rest ws)
level_complete f W ag _ _ rest (a_set {rs = rs} {h = h} {x = x} hd ws) = rw (opened (of_set (length rs)) h x rest hd, items_complete f W ag rs x rest ws)
level_complete f W ag _ _ rest (a_push {r = r} {rs = rs} {h = h} hd t (more {x = x} {y = y} w ws)) =
    let one : length (r ∷ rs) - 1 ≡ length rs = omega arith in
    rw (opened (of_push (length (r ∷ rs))) h (x ++ y) rest (hd, omega arith), append_assoc x y rest, ag.complete x r (y ++ rest) w, t, one, items_complete f W ag rs y rest ws)
level_complete f W ag _ _ rest (a_map {ps = ps} {h = h} {x = x} hd ws) =
    rw (opened (of_map (length ps)) h x rest hd, items_complete (pair f) (Two W) (pair_agrees f W ag) ps x rest ws)
level_complete f W ag _ _ rest (an_attribute {ps = ps} {r = r} {h = h} {x = x} {y = y} hd ws w) =
    rw (
      opened (of_attribute (length ps)) h (x ++ y) rest hd,
      append_assoc x y rest,
      items_complete (pair f) (Two W) (pair_agrees f W ag) ps x (y ++ rest) ws,
      ag.complete y r rest w,
    )

none_sound : (bs : List ℕ) (r : Reply) (rest : List ℕ) → plainly zero bs ≡ ok r rest → ⊥
none_sound [] r rest e = clash e
none_sound (b ∷ bs) r rest e = clash e

pub plainly_agrees : (d : ℕ) → Agrees (plainly d) (Whole d)
plainly_agrees zero = record { sound = λ bs r rest e. absurd (none_sound bs r rest e); complete = λ x r rest w. absurd w }
plainly_agrees (suc d) =
    let ag = plainly_agrees d in
    record { sound = level_sound (plainly d) (Whole d) ag; complete = λ x r rest w. level_complete (plainly d) (Whole d) ag x r rest w }

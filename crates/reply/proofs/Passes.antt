-- Items passed one after another.
use Rattle.std.proofs.Common.{◌≡◌, ℕ, zero, suc, ◌+◌, ◌-◌, ◌*◌, ◌^◌, ◌<◌, ◌≤◌, min, Bool, true, false, cond, List, [], ◌∷◌, ◌++◌, length, take, drop, Some, None, Option, sym, refl, ap, ◌∙◌, subst, append_assoc, arith}
use Rattle.std.proofs.lemmas.List.{length-append, take_at}
use Rattle.std.proofs.lemmas.Bool.{lt-ltb}
use Rattle.numerals.specs.Plain.{Plain, value}
use Rattle.resp.specs.Out.{Out, ok, and_then, map_out}
use Rattle.resp.specs.Grammar as grammar
use Rattle.resp.specs.Grammar.{Clean, Header, header, Leafed, crlf}
use Rattle.resp.specs.Limits.{length_most, items_most, pairs_most}
use Rattle.resp.specs.Reply.{Leaf}
use Rattle.resp.specs.Reading.{Head, a_leaf, of_array, of_set, of_push, of_map, of_attribute, Form, array, set, push, map, attribute, opening, items, pair, named, parts}
use Rattle.resp.specs.declared.case.Case.{Case}
use Rattle.resp.specs.Cases.{case_of}
use Rattle.resp.specs.Node.{Node, erase, is_string_node, reading, offset}
use Rattle.resp.specs.Told.{items_in}
use Rattle.resp.proofs.Outs.{and_then_ok, map_out_ok}
use Rattle.resp.proofs.Heads.{Headed, opening_agrees}
use Rattle.reply.specs.declared.open.Row.{Row}
use Rattle.reply.specs.declared.pass.Passed.{Passed}
use Rattle.reply.specs.Parted.{after_lf}
use Rattle.reply.specs.Pass.{short, counted, tells, told_count, followed_by, passed_by, passed_of}
use Rattle.reply.specs.Opened.{row_from}
use Rattle.reply.specs.Tree.{view, view_at, row_at, is_read, node_at, wholly, RowEnded}
use Rattle.reply.proofs.Rows.{read_ok, node_is}
use Rattle.reply.proofs.Views.{level, single}
use Rattle.reply.proofs.Grows.{grows, grows_items}
use Rattle.reply.proofs.PartSteps.{lf_header}
use Rattle.reply.proofs.Opening.{items_in_turn, items_and_one, named_items, front, row_is, Rowed}
use Rattle.reply.proofs.Bounds.{reply_ends, row_ends}

-- the number of a line
count_is : (n : ℕ) (c : List ℕ) → Plain n c → n < 2 ^ 32 → counted c ≡ Some n
count_is n c p lt =
    let small : min n (2 ^ 64 - 1) ≡ n = omega arith in
    ap (λ t. short (cond t (Some (min (value c) (2 ^ 64 - 1))) None)) p.0 ∙ ap (λ v. short (Some (min v (2 ^ 64 - 1)))) p.1 ∙ ap (λ v. short (Some v)) small
    ∙ ap (λ t. cond t (Some n) None) (lt-ltb n (2 ^ 32) lt)

-- by its first line
module _ (b : ℕ) (c : List ℕ) (clean : Clean c) (not : b ≡ 10 → ⊥) where
  by_line : (more : List ℕ) (o : Option ℕ) → told_count b c ≡ o → passed_of (b ∷ ((c ++ crlf) ++ more)) ≡ passed_by (length (b ∷ ((c ++ crlf) ++ more))) (suc (length c + 2)) (followed_by b o)
  by_line more o is =
      let all = (c ++ crlf) ++ more in
      let long : after_lf (b ∷ all) ≡ suc (length c + 2) = lf_header b c more not clean in
      let n : length c ≡ suc (length c + 2) - 3 = omega arith in
      let text : take (suc (length c + 2) - 3) all ≡ c = ap (take (suc (length c + 2) - 3)) (append_assoc c crlf more) ∙ take_at c (crlf ++ more) (suc (length c + 2) - 3) n in
      ap (λ k. passed_by (length (b ∷ all)) k (followed_by b (told_count b (take (k - 3) all)))) long
      ∙ ap (λ d. passed_by (length (b ∷ all)) (suc (length c + 2)) (followed_by b (told_count b d))) text
      ∙ ap (λ o. passed_by (length (b ∷ all)) (suc (length c + 2)) (followed_by b o)) is

same_passed : {a n i j : ℕ} → a ≡ n → i ≡ j → ◌≡◌ {A = Passed} (record { len = a; items = i }) (record { len = n; items = j })
same_passed e f = cc

-- x is passed whole, and has so many replies right below it
abbrev Passes : List ℕ → ℕ → Type 0
Passes x n = (more : List ℕ) → passed_of (x ++ more) ≡ record { len = length x; items = n }

line_passes : (b : ℕ) (c : List ℕ) (o : Option ℕ) (n : ℕ) → Clean c → (b ≡ 10 → ⊥) → told_count b c ≡ o → followed_by b o ≡ record { body = 0; items = n } → Passes (b ∷ (c ++ crlf)) n
line_passes b c o n clean not is then more =
    let l = length-append c crlf in
    let m = length-append (c ++ crlf) more in
    by_line b c clean not more o is ∙ ap (passed_by (length (b ∷ ((c ++ crlf) ++ more))) (suc (length c + 2))) then ∙ same_passed (omega arith) refl

body_passes : (b : ℕ) (h s : List ℕ) → Header b length_most (length s) h → (b ≡ 10 → ⊥) → tells b ≡ true → ((n : ℕ) → followed_by b (Some n) ≡ record { body = n + 2; items = 0 }) → Passes (h ++ (s ++ crlf)) 0
body_passes b _ s (header {c = c} line p le) not t then more =
    let l = length-append c crlf in
    let k = length-append s crlf in
    let m = length-append (c ++ crlf) ((s ++ crlf) ++ more) in
    let j = length-append (s ++ crlf) more in
    let i = length-append (c ++ crlf) (s ++ crlf) in
    let told : told_count b c ≡ Some (length s) = ap (λ t. cond t (counted c) None) t ∙ count_is (length s) c p (omega arith) in
    ap (λ z. passed_of (b ∷ z)) (append_assoc (c ++ crlf) (s ++ crlf) more)
    ∙ by_line b c line.clean not ((s ++ crlf) ++ more) (Some (length s)) told ∙ ap (passed_by (length (b ∷ ((c ++ crlf) ++ ((s ++ crlf) ++ more)))) (suc (length c + 2))) (then (length s))
    ∙ same_passed (omega arith) refl

head_passes : (b most n m : ℕ) (h : List ℕ) → Header b most n h → most < 2 ^ 32 → (b ≡ 10 → ⊥) → tells b ≡ true → followed_by b (Some n) ≡ record { body = 0; items = m } → Passes h m
head_passes b most n m _ (header {c = c} line p le) lt not t then =
    line_passes b c (Some n) m line.clean not (ap (λ t. cond t (counted c) None) t ∙ count_is n c p (omega arith)) then

one_clean : (b : ℕ) → (b ≡ 13 → ⊥) → (b ≡ 10 → ⊥) → Clean (b ∷ [])
one_clean b x y = (x, y, tt)

leaf_passes : (l : Leaf) (x : List ℕ) → Leafed l x → Passes x 0
leaf_passes _ _ grammar.a_null = line_passes 95 [] None 0 tt (λ e. omega arith) refl refl
leaf_passes _ _ grammar.a_null_bulk = line_passes 36 (45 ∷ 49 ∷ []) None 0 (λ e. omega arith, λ e. omega arith, (λ e. omega arith, λ e. omega arith, tt)) (λ e. omega arith) refl refl
leaf_passes _ _ grammar.a_null_array = line_passes 42 (45 ∷ 49 ∷ []) None 0 (λ e. omega arith, λ e. omega arith, (λ e. omega arith, λ e. omega arith, tt)) (λ e. omega arith) refl refl
leaf_passes _ _ (grammar.an_integer {c = c} line i) = line_passes 58 c None 0 line.clean (λ e. omega arith) refl refl
leaf_passes _ _ grammar.a_true = line_passes 35 (116 ∷ []) None 0 (one_clean 116 (λ e. omega arith) (λ e. omega arith)) (λ e. omega arith) refl refl
leaf_passes _ _ grammar.a_false = line_passes 35 (102 ∷ []) None 0 (one_clean 102 (λ e. omega arith) (λ e. omega arith)) (λ e. omega arith) refl refl
leaf_passes _ _ (grammar.a_double {c = c} line i) = line_passes 44 c None 0 line.clean (λ e. omega arith) refl refl
leaf_passes _ _ (grammar.a_big_number {c = c} line i) = line_passes 40 c None 0 line.clean (λ e. omega arith) refl refl
leaf_passes _ _ grammar.an_okay = line_passes 43 (79 ∷ 75 ∷ []) None 0 (λ e. omega arith, λ e. omega arith, (λ e. omega arith, λ e. omega arith, tt)) (λ e. omega arith) refl refl
leaf_passes _ _ (grammar.a_simple_string {c = c} line w n) = line_passes 43 c None 0 line.clean (λ e. omega arith) refl refl
leaf_passes _ _ (grammar.a_simple_error {c = c} line w) = line_passes 45 c None 0 line.clean (λ e. omega arith) refl refl
leaf_passes _ _ (grammar.a_bulk_string {s = s} {h = h} hd) = body_passes 36 h s hd (λ e. omega arith) refl (λ n. refl)
leaf_passes _ _ (grammar.a_bulk_error {s = s} {h = h} hd w) = body_passes 33 h s hd (λ e. omega arith) refl (λ n. refl)
leaf_passes _ _ (grammar.a_verbatim_string {f = f} {t = t} {h = h} three hd w) = body_passes 61 h (f ++ (58 ∷ t)) hd (λ e. omega arith) refl (λ n. refl)

passes : (h : Head) (x : List ℕ) → Headed h x → Passes x (items_in h)
passes (a_leaf l) x w = leaf_passes l x w
passes (of_array n) x w = head_passes 42 items_most n n x w (omega arith) (λ e. omega arith) refl refl
passes (of_set n) x w = head_passes 126 items_most n n x w (omega arith) (λ e. omega arith) refl refl
passes (of_push n) x w = head_passes 62 items_most n n x w.0 (omega arith) (λ e. omega arith) refl refl
passes (of_map n) x w = head_passes 37 pairs_most n (2 * n) x w (omega arith) (λ e. omega arith) refl refl
passes (of_attribute n) x w = head_passes 124 pairs_most n (2 * n + 1) x w (omega arith) (λ e. omega arith) refl refl

-- the replies right below an item, as a row
singles_below : (f : List ℕ → Out Node) (h : Head) (x : List ℕ) → Headed h x → (more : List ℕ) (form : Form Node) (rest : List ℕ) → parts f is_string_node h more ≡ ok form rest
    → (ns : List Node) × (items f (items_in h) more ≡ ok ns rest)
singles_below f (a_leaf l) x w more form rest e = let same : more ≡ rest = cc in ([], ap (ok []) same)
singles_below f (of_array n) x w more form rest e = let (ns, j, q) = map_out_ok (items f n more) array form rest e in (ns, j)
singles_below f (of_set n) x w more form rest e = let (ns, j, q) = map_out_ok (items f n more) set form rest e in (ns, j)
singles_below f (of_push n) x w more form rest e =
    let (ns, j, q) = map_out_ok (named f is_string_node n more) push form rest e in (ns, named_items f is_string_node n more ns rest w.1 j)
singles_below f (of_map n) x w more form rest e =
    let (ps, j, q) = map_out_ok (items (pair f) n more) map form rest e in (_, items_in_turn f n more ps rest j)
singles_below f (of_attribute n) x w more form rest e =
    let (ps, l, j, q) = and_then_ok (items (pair f) n more) _ form rest e in
    let (d, u, v) = map_out_ok (f l) (attribute ps) form rest q in
    (_, items_and_one f (2 * n) more _ l d rest (items_in_turn f n more ps l j) u)

-- one row and another
items_append : {A : Type 0} (f : List ℕ → Out A) (n m : ℕ) (l : List ℕ) (xs : List A) (more : List ℕ) (ys : List A) (rest : List ℕ) → items f n l ≡ ok xs more → items f m more ≡ ok ys rest
    → (zs : List A) × (items f (n + m) l ≡ ok zs rest)
items_append f zero m l xs more ys rest e o =
    let same : l ≡ more = cc in
    let z : 0 + m ≡ m = omega arith in
    (ys, ap (λ k. items f k l) z ∙ ap (items f m) same ∙ o)
items_append f (suc n) m l xs more ys rest e o =
    let next : suc n + m ≡ suc (n + m) = omega arith in
    let (a, l', o1, q) = and_then_ok (f l) _ xs more e in
    let (as', r, s) = map_out_ok (items f n l') _ xs more q in
    let (zs, w) = items_append f n m l' as' more ys rest r o in
    (a ∷ zs, ap (λ k. items f k l) next ∙ ap (λ o. and_then o (λ a more. map_out (λ l. a ∷ l) (items f (n + m) more))) o1 ∙ ap (map_out (λ l. a ∷ l)) w)

-- a row of so many has as many bytes
pub row_room : (bs : List ℕ) (p n : ℕ) (ns : List Node) (rest : List ℕ) → p ≤ length bs → row_at bs false p n ≡ ok ns rest → p + n ≤ length bs
row_room bs p zero ns rest le o = omega arith
row_room bs p (suc n) ns rest le o =
    let f = view (offset (length bs)) false in
    let (a, more, o1, q) = and_then_ok (f (drop p bs)) _ ns rest o in
    let (as', r, s) = map_out_ok (items f n more) _ ns rest q in
    let E = reply_ends bs p a more le o1 in
    let x = E.after in
    omega (arith, row_room bs E.end n as' rest E.inside (ap (items f n) (sym E.is) ∙ r))

-- Of the row of k replies at p so many replies are left from q on.
pub record Passing (bs : List ℕ) (p k q n : ℕ) : Type 0 where
  pub end : ℕ
  pub ended : RowEnded bs false p k end
  pub inside : q ≤ length bs
  pub row : RowEnded bs false q n end

pub pass_start : (bs : List ℕ) (p k : ℕ) → p ≤ length bs → is_read (row_at bs false p k) ≡ true → Passing bs p k p k
pass_start bs p k le h =
    let (ns, rest, o) = read_ok (row_at bs false p k) h in
    let (e, in', is) = row_ends bs false p k ns rest le o in
    let row : RowEnded bs false p k e = record { trees = ns; reads = o ∙ ap (ok ns) is; inside = in' } in
    record { end = e; ended = row; inside = le; row = row }

pub pass_never : (bs : List ℕ) (p k q n : ℕ) → Passing bs p k q n → 0 < n → length bs ≤ q → ⊥
pass_never bs p k q n w some le = let room = row_room bs q n w.row.trees (drop w.end bs) w.inside w.row.reads in omega arith

pass_row : (bs : List ℕ) (q n e : ℕ) → q ≤ length bs → RowEnded bs false q (suc n) e → (q + (passed_of (drop q bs)).len ≤ length bs) × RowEnded bs false (q + (passed_of (drop q bs)).len) ((passed_of (drop q bs)).items + n) e
pass_row bs q n e le w =
    let at = offset (length bs) in
    let f = reading at 31 in
    let g = view at false in
    let (a, rest, o, i) = and_then_ok (g (drop q bs)) _ w.trees (drop e bs) w.reads in
    let (ns, r, s) = map_out_ok (items g n rest) _ w.trees (drop e bs) i in
    let (form, j, k) = level bs q a rest o in
    let (h, more, u, v) = and_then_ok (opening (drop q bs)) (parts f is_string_node) form rest j in
    let (x, split, hd) = opening_agrees.sound (drop q bs) h more u in
    let (y, hd', is, in') = front bs q h more le u in
    let (ms, below) = singles_below f h x hd more form rest v in
    let (zs, all) = items_append g (items_in h) n more ms rest ns (drop e bs) (grows_items f g (grows at 31) (items_in h) more ms rest below) r in
    let passed : passed_of (drop q bs) ≡ record { len = length x; items = items_in h } = ap passed_of split ∙ passes h x hd more in
    let len : length (drop q bs) ≡ length x + length more = ap length split ∙ length-append x more in
    let place : q + (length (drop q bs) - length more) ≡ q + (passed_of (drop q bs)).len = omega (arith, ap (λ p. p.len) passed) in
    let count : (passed_of (drop q bs)).items ≡ items_in h = ap (λ p. p.items) passed in (
      subst (λ z. z ≤ length bs) place in',
      record {
        trees = zs;
        reads = ap (λ z. row_at bs false z ((passed_of (drop q bs)).items + n)) (sym place) ∙ ap (λ c. row_at bs false (q + (length (drop q bs) - length more)) (c + n)) count ∙ ap (items g (items_in h + n)) (sym is) ∙ all;
        inside = w.inside;
      },
    )

pub pass_more : (bs : List ℕ) (p k q n i m : ℕ) (r : Passed) → Passing bs p k q n → 0 < n → r ≡ passed_of (drop q bs) → i ≡ q + r.len → m ≡ min (n - 1 + r.items) (2 ^ 64 - 1) → length bs < 2 ^ 64 → Passing bs p k i m
pass_more bs p k q n i m r w some is at sum fits =
    let one : n ≡ suc (n - 1) = omega arith in
    let (in', row) = pass_row bs q (n - 1) w.end w.inside (subst (λ k. RowEnded bs false q k w.end) one w.row) in
    let room = row_room bs (q + (passed_of (drop q bs)).len) ((passed_of (drop q bs)).items + (n - 1)) row.trees (drop w.end bs) in' row.reads in
    let a : r.len ≡ (passed_of (drop q bs)).len = ap (λ r. r.len) is in
    let b : r.items ≡ (passed_of (drop q bs)).items = ap (λ r. r.items) is in
    let place : q + (passed_of (drop q bs)).len ≡ i = omega arith in
    let count : (passed_of (drop q bs)).items + (n - 1) ≡ m = omega arith in
    record { end = w.end; ended = w.ended; inside = subst (λ z. z ≤ length bs) place in'; row = subst (λ z. RowEnded bs false z m w.end) place (subst (λ c. RowEnded bs false (q + (passed_of (drop q bs)).len) c w.end) count row) }

-- the row below a whole reply that was passed
pub row_passed : (bs : List ℕ) (p : ℕ) → p ≤ length bs → is_read (view_at bs false p) ≡ true → (r : Passed) (k : Case) → r ≡ passed_of (drop p bs) → k ≡ case_of (erase (node_at bs false p))
    → (p + r.len ≤ length bs) × Rowed bs p (row_from k (p + r.len) r.items)
row_passed bs p le h r k is c =
    let (t, rest, o) = read_ok (view_at bs false p) h in
    let (head, more, i, in', w) = row_is bs p t rest le o in
    let (x, split, hd) = opening_agrees.sound (drop p bs) head more i in
    let passed : r ≡ record { len = length x; items = items_in head } = is ∙ ap passed_of split ∙ passes head x hd more in
    let len : length (drop p bs) ≡ length x + length more = ap length split ∙ length-append x more in
    let place : p + (length (drop p bs) - length more) ≡ p + r.len = omega (arith, ap (λ p. p.len) passed) in
    let count : items_in head ≡ r.items = sym (ap (λ p. p.items) passed) in
    let j : k ≡ case_of (erase t) = c ∙ ap (λ n. case_of (erase n)) (node_is bs false p t rest o) in (
      subst (λ z. z ≤ length bs) place in',
      subst (λ z. Rowed bs p (row_from k z r.items)) place
          (subst (λ n. Rowed bs p (row_from k (p + (length (drop p bs) - length more)) n)) count
          (subst (λ q. Rowed bs p (row_from q (p + (length (drop p bs) - length more)) (items_in head))) (sym j) w)),
    )

-- and so as the code has it
pub row_below : (bs : List ℕ) (m : Bool) (p : ℕ) → m ≡ false → p ≤ length bs → wholly bs m p ≡ true → length bs < 2 ^ 64 → (r : Passed) (k : Case) (start : ℕ) (row : Row)
    → r ≡ passed_of (drop p bs) → k ≡ case_of (erase (node_at bs m p)) → start ≡ min (p + r.len) (2 ^ 64 - 1) → row ≡ row_from k start r.items → Rowed bs p row
unfolding wholly
row_below bs m p one-view le h fits r k start row is case sum made =
    let one = single bs m p one-view h in
    let w = row_passed bs p le one.0 r k is (case ∙ ap (λ n. case_of (erase n)) (sym one.1)) in
    let inside = w.0 in
    let begins : start ≡ p + r.len = omega arith in
    subst (Rowed bs p) (sym (made ∙ ap (λ e. row_from k e r.items) begins)) w.1

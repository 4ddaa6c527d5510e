-- The part of the bytes that the code tells of a leaf.
use Rattle.std.proofs.Common.{◌≡◌, ℕ, ◌+◌, ◌-◌, ◌^◌, ◌<◌, ◌≤◌, min, Bool, true, false, List, [], ◌∷◌, ◌++◌, length, drop, sym, refl, ap, ◌∙◌, subst, arith}
use Rattle.std.proofs.lemmas.List.{length-append, length-drop}
use Rattle.std.proofs.lemmas.Bool.{false≢true}
use Rattle.resp.specs.Reply.{Leaf, Nil, Int, BulkString, SimpleString, Okay, Double, Boolean, VerbatimString, BigNumber, ServerError}
use Rattle.resp.specs.Grammar.{Leafed}
use Rattle.resp.specs.Node.{Node, OneAt, ArrayAt, SetAt, PushAt, MapAt, AttributeAt, PairAt, erase}
use Rattle.resp.specs.Cases.{case_of}
use Rattle.reply.specs.declared.part.Part.{Part}
use Rattle.reply.specs.Parts.{start_of}
use Rattle.reply.specs.Parted.{text_start, part_in, part_of, textual}
use Rattle.reply.specs.Tree.{view_at, is_read, node_at, Ended}
use Rattle.resp.specs.Reading.{a_leaf}
use Rattle.resp.proofs.Outs.{clash}
use Rattle.resp.proofs.Heads.{opening_agrees}
use Rattle.reply.proofs.Views.{pair_case, spot_is}
use Rattle.reply.proofs.PartSteps.{leaf_text_lem}
use Rattle.reply.proofs.Opening.{LeafAt, leaf_at}

starts_inside : (p e : ℕ) (l : Leaf) → p < e → (part_in p e l).start ≤ e
starts_inside p e Nil lt = omega arith
starts_inside p e (Int z) lt = omega arith
starts_inside p e (BulkString s) lt = omega arith
starts_inside p e (SimpleString c) lt = omega arith
starts_inside p e Okay lt = omega arith
starts_inside p e (Double c) lt = omega arith
starts_inside p e (Boolean v) lt = omega arith
starts_inside p e (VerbatimString f t) lt = omega arith
starts_inside p e (BigNumber c) lt = omega arith
starts_inside p e (ServerError c) lt = omega arith

leaf_some : (l : Leaf) (x : List ℕ) → Leafed l x → 0 < length x
leaf_some l [] w = absurd (clash (opening_agrees.complete [] (a_leaf l) [] w))
leaf_some l (b ∷ x) w = omega arith

-- where a leaf ends
leaf_end : (bs : List ℕ) (p e : ℕ) (L : LeafAt bs p) → Ended bs false p e → e ≡ p + length L.front
leaf_end bs p e L t =
    let w = t.reads in
    let r = L.reads in
    let back : L.rest ≡ drop e bs = cc in
    let a : length L.rest ≡ length bs - e = ap length back ∙ length-drop e bs in
    let b : length (drop p bs) ≡ length L.front + length L.rest = ap length L.split ∙ length-append L.front L.rest in
    let d : length (drop p bs) ≡ length bs - p = length-drop p bs in
    let in' = t.inside in
    let in2 = L.inside in
    omega arith

module _ (bs : List ℕ) (p : ℕ) (le : p ≤ length bs) (h : is_read (view_at bs false p) ≡ true) (is : textual (case_of (erase (node_at bs false p))) ≡ true) where
  pub leaf_part_is : (e ts start len : ℕ) → Ended bs false p e → length bs < 2 ^ 64 → ts ≡ text_start (drop p bs) → start ≡ min (p + ts) (2 ^ 64 - 1) → len ≡ e - 2 - start
      → ◌≡◌ {A = Part} (record { start = start; len = len }) (part_of (node_at bs false p))
  leaf_part_is e ts start len t fits tis sis lis =
      let L = leaf_at bs p le h is in
      let some = leaf_some L.it L.front L.formed in
      let in' = t.inside in
      let end = leaf_end bs p e L t in
      let not-nil : L.it ≡ Nil → ⊥ = λ z. false≢true (ap (λ l. textual (case_of (erase (OneAt p (p + length L.front) l)))) (sym z) ∙ ap (λ n. textual (case_of (erase n))) (sym L.node) ∙ is) in
      let text = leaf_text_lem p e L.it L.front L.rest L.formed end (omega arith) not-nil in
      let ts' : ts ≡ text_start (L.front ++ L.rest) = tis ∙ ap text_start L.split in
      let inside : p + text_start (L.front ++ L.rest) ≤ e = subst (λ z. z ≤ e) (ap (λ r. r.start) (sym text)) (starts_inside p e L.it (omega arith)) in
      let s : start ≡ p + text_start (L.front ++ L.rest) = omega arith in
      let l : len ≡ e - 2 - (p + text_start (L.front ++ L.rest)) = lis ∙ ap (λ z. e - 2 - z) s in
      parts s l ∙ text ∙ ap (λ z. part_in p z L.it) end ∙ ap part_of (sym L.node)
    where
      parts : {a b c d : ℕ} → a ≡ b → c ≡ d → ◌≡◌ {A = Part} (record { start = a; len = c }) (record { start = b; len = d })
      parts e f = cc

-- what has no text
pub no_part : (n : Node) (p : ℕ) → start_of n ≡ p → textual (case_of (erase n)) ≡ false → ◌≡◌ {A = Part} (record { start = p; len = 0 }) (part_of n)
no_part (OneAt s e l) p is h = leaf l h
  where
    leaf : (l : Leaf) → textual (case_of (erase (OneAt s e l))) ≡ false → ◌≡◌ {A = Part} (record { start = p; len = 0 }) (part_in s e l)
    leaf Nil h = ap (λ z. record { start = z; len = 0 }) (sym is)
    leaf (Int z) h = absurd (false≢true (sym h))
    leaf (BulkString c) h = absurd (false≢true (sym h))
    leaf (SimpleString c) h = absurd (false≢true (sym h))
    leaf Okay h = absurd (false≢true (sym h))
    leaf (Double c) h = absurd (false≢true (sym h))
    leaf (Boolean v) h = absurd (false≢true (sym h))
    leaf (VerbatimString f t) h = absurd (false≢true (sym h))
    leaf (BigNumber c) h = absurd (false≢true (sym h))
    leaf (ServerError c) h = absurd (false≢true (sym h))
no_part (ArrayAt s e ns) p is h = ap (λ z. record { start = z; len = 0 }) (sym is)
no_part (SetAt s e ns) p is h = ap (λ z. record { start = z; len = 0 }) (sym is)
no_part (PushAt s e ns) p is h = ap (λ z. record { start = z; len = 0 }) (sym is)
no_part (MapAt s e ps) p is h = ap (λ z. record { start = z; len = 0 }) (sym is)
no_part (AttributeAt s e ps n) p is h = ap (λ z. record { start = z; len = 0 }) (sym is)
no_part (PairAt s e k v) p is h = ap (λ z. record { start = z; len = 0 }) (sym is)

-- a pair has no text
pub text_single : (bs : List ℕ) (m : Bool) (p : ℕ) → is_read (view_at bs m p) ≡ true → textual (case_of (erase (node_at bs m p))) ≡ true → m ≡ false
text_single bs false p h is = refl
text_single bs true p h is = absurd (false≢true (ap textual (pair_case bs true p refl h) ∙ is))

pub start_at : (bs : List ℕ) (m : Bool) (p : ℕ) → p ≤ length bs → is_read (view_at bs m p) ≡ true → start_of (node_at bs m p) ≡ p
start_at bs m p le h = sym (ap (λ s. s.at) (spot_is bs m p le h))

-- Texts are the same just where their bytes are.
use Rattle.std.proofs.Common.{◌≡◌, ℕ, Bool, true, false, ◌&&◌, List, ℤ, Some, None, Ok, Err, Decides, Option, Result, sym, refl, ap, ◌∙◌, arith}
use Rattle.std.specs.Str.{bytes_eq}
use Rattle.std.proofs.lemmas.Slice.Eq.{bytes_eq-Decides}
use Rattle.numerals.specs.Integer.{integer}
use Rattle.numerals.proofs.OneLine.{one_line}
use Rattle.resp.specs.Reply.{Leaf, Nil, Int, BulkString, SimpleString, Okay, Double, Boolean, VerbatimString, BigNumber, ServerError}
use Rattle.resp.specs.Node.{Node, OneAt, ArrayAt, SetAt, PushAt, MapAt, AttributeAt, PairAt}
use Rattle.reply.specs.Says.{SaysLeaf, Says}
use Rattle.std.specs.Option.{option_eq}
use Rattle.std.specs.Result.{result_ok}
use Rattle.kinds.specs.declared.fault.Fault.{Fault}
use Rattle.kinds.specs.Same.{by_integer, key_of_text, leaf_key, text_key, same_key, same_read, eqℤ}
use Rattle.kinds.specs.Equalities.{eqℤ_decides}

leaf_key_lem : (l : Leaf) (x : List ℕ) → SaysLeaf l x → leaf_key l ≡ key_of_text x
leaf_key_lem Nil x s = ap key_of_text (sym s)
leaf_key_lem (Int z) x s = ap (λ o. by_integer o x) (sym s)
leaf_key_lem (BulkString c) x s = ap key_of_text (sym s)
leaf_key_lem (SimpleString c) x s = ap key_of_text (sym s)
leaf_key_lem Okay x s = ap key_of_text (sym s)
leaf_key_lem (Double c) x s = ap key_of_text (sym s)
leaf_key_lem (Boolean true) x s = ap key_of_text (sym s)
leaf_key_lem (Boolean false) x s = ap key_of_text (sym s)
leaf_key_lem (VerbatimString f t) x s = ap key_of_text (sym s)
leaf_key_lem (BigNumber c) x s = ap key_of_text (sym s)
leaf_key_lem (ServerError c) x s = ap key_of_text (sym s)

pub text_key_lem : (n : Node) (x : List ℕ) → Says n x → text_key n ≡ key_of_text x
text_key_lem (OneAt p e l) x s = leaf_key_lem l x s
text_key_lem (ArrayAt p e ns) x s = ap key_of_text (sym s)
text_key_lem (SetAt p e ns) x s = ap key_of_text (sym s)
text_key_lem (PushAt p e ns) x s = ap key_of_text (sym s)
text_key_lem (MapAt p e ps) x s = ap key_of_text (sym s)
text_key_lem (AttributeAt p e ps n) x s = ap key_of_text (sym s)
text_key_lem (PairAt p e k v) x s = ap key_of_text (sym s)

-- two tests that decide equal things
agree : (a b : Bool) → (a ≡ true → b ≡ true) → (b ≡ true → a ≡ true) → a ≡ b
agree true true f g = refl
agree true false f g = sym (f refl)
agree false true f g = g refl
agree false false f g = refl

and_left : (a : Bool) → (a && true) ≡ a
and_left true = refl
and_left false = refl

same_by : (x y : List ℕ) (o p : Option ℤ) → integer x ≡ o → integer y ≡ p → bytes_eq x y ≡ same_key (by_integer o x) (by_integer p y)
same_by x y (Some z) (Some w) e f =
    agree (bytes_eq x y) (eqℤ z w) forth back ∙ sym (and_left (eqℤ z w))
  where
    forth : bytes_eq x y ≡ true → eqℤ z w ≡ true
    forth t =
        let q : Some z ≡ Some w = sym e ∙ ap integer ((bytes_eq-Decides x y).0 t) ∙ f in
        let r : z ≡ w = cc in
        eqℤ_decides.from z w r

    back : eqℤ z w ≡ true → bytes_eq x y ≡ true
    back t = (bytes_eq-Decides x y).1 (one_line w x y (e ∙ ap Some (eqℤ_decides.to z w t)) f)
same_by x y (Some z) None e f = agree (bytes_eq x y) false (λ t. absurd (let q : Some z ≡ None = sym e ∙ ap integer ((bytes_eq-Decides x y).0 t) ∙ f in let i : ◌≡◌ {A = ℕ} 0 1 = cc in omega arith)) (λ t. absurd (let i : ◌≡◌ {A = ℕ} 0 1 = cc in omega arith))
same_by x y None (Some w) e f = agree (bytes_eq x y) false (λ t. absurd (let q : None ≡ Some w = sym e ∙ ap integer ((bytes_eq-Decides x y).0 t) ∙ f in let i : ◌≡◌ {A = ℕ} 0 1 = cc in omega arith)) (λ t. absurd (let i : ◌≡◌ {A = ℕ} 0 1 = cc in omega arith))
same_by x y None None e f = refl

pub same_name : (n : Node) (x y : List ℕ) (r : Bool) → Says n x → Decides r (x ≡ y) → r ≡ same_key (text_key n) (key_of_text y)
same_name n x y r s d =
    agree r (bytes_eq x y) (λ e. (bytes_eq-Decides x y).1 (d.0 e)) (λ e. d.1 ((bytes_eq-Decides x y).0 e))
    ∙ same_by x y (integer x) (integer y) refl refl
    ∙ ap (λ k. same_key k (key_of_text y)) (sym (text_key_lem n x s))

pub same_bytes : (n m : Node) (x y : List ℕ) (r : Bool) → Says n x → Says m y → Decides r (x ≡ y) → r ≡ same_key (text_key n) (text_key m)
same_bytes n m x y r s t d = same_name n x y r s d ∙ ap (same_key (text_key n)) (sym (text_key_lem m y t))

-- values as options: what is not read is none
pub same_ok : {V : Type 0} (eq : V → V → Bool) (a b : Result V Fault) → option_eq eq (result_ok a) (result_ok b) ≡ same_read eq a b
same_ok eq (Ok x) (Ok y) = refl
same_ok eq (Ok x) (Err g) = refl
same_ok eq (Err f) (Ok y) = refl
same_ok eq (Err f) (Err g) = refl

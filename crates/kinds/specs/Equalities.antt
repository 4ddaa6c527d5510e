-- The equalities of the kinds.
use Rattle.std.specs.Prelude.{◌≡◌, ℕ, Bool, true, false, cond, ◌&&◌, List, drop, ℤ, pos, negsuc, Some, None, Ok, Err, Option, Result, refl}
use Rattle.std.proofs.Common.{sym, ap, ◌∙◌, subst, eqb-true, eq-eqb}
use Rattle.std.specs.Bool.{beq}
use Rattle.std.specs.Str.{bytes_eq}
use Rattle.std.proofs.lemmas.Slice.Eq.{bytes_eq-Decides}
use Rattle.std.proofs.lemmas.Bool.{and_parts, false≢true}
use Rattle.resp.specs.Node.{Node}
use Rattle.reply.specs.Parts.{flat_of, unwrapped}
use Rattle.kinds.specs.declared.fault.Fault.{Fault}
use Rattle.kinds.specs.Plain.{bool_one}
use Rattle.kinds.specs.Same.{Equality, eqℤ, same_read, same_bool, same_integer, same_key, same_option, same_parts, same_text, same2, same3, same4, is_nil, text_key}
use Rattle.kinds.specs.Texts.{case_at}
use Rattle.kinds.specs.Rows.{first_node}

-- an equality that decides ≡
pub record DecidesEquality {A : Type 0} (same : A → A → Bool) : Type 0 where
  pub to : (x y : A) → same x y ≡ true → x ≡ y
  pub from : (x y : A) → x ≡ y → same x y ≡ true

pub decided : {A : Type 0} (same : A → A → Bool) → DecidesEquality same → Equality same
decided same d =
    record {
      reflexive = λ x. d.from x x refl;
      symmetric = λ x y e. d.from y x (sym (d.to x y e));
      transitive = λ x y z e f. d.from x z (d.to x y e ∙ d.to y z f);
    }

-- by what a function gives of each
pub along : {A B : Type 0} (f : A → B) (same : B → B → Bool) → Equality same → Equality (λ x y. same (f x) (f y))
along f same q =
    record {
      reflexive = λ x. q.reflexive (f x);
      symmetric = λ x y e. q.symmetric (f x) (f y) e;
      transitive = λ x y z e g. q.transitive (f x) (f y) (f z) e g;
    }

pub eqℤ_decides : DecidesEquality eqℤ
eqℤ_decides = record { to = to; from = from }
  where
    to : (x y : ℤ) → eqℤ x y ≡ true → x ≡ y
    to (pos a) (pos b) e = ap pos (eqb-true a b e)
    to (pos a) (negsuc b) e = absurd (false≢true e)
    to (negsuc a) (pos b) e = absurd (false≢true e)
    to (negsuc a) (negsuc b) e = ap negsuc (eqb-true a b e)

    same : (x : ℤ) → eqℤ x x ≡ true
    same (pos a) = eq-eqb a a refl
    same (negsuc a) = eq-eqb a a refl

    from : (x y : ℤ) → x ≡ y → eqℤ x y ≡ true
    from x y e = subst (λ z. eqℤ x z ≡ true) e (same x)

beq_decides : DecidesEquality beq
beq_decides = record { to = to; from = λ x y e. subst (λ z. beq x z ≡ true) e (same x) }
  where
    to : (x y : Bool) → beq x y ≡ true → x ≡ y
    to true true e = refl
    to true false e = absurd (false≢true e)
    to false true e = absurd (false≢true e)
    to false false e = refl

    same : (x : Bool) → beq x x ≡ true
    same true = refl
    same false = refl

bytes_decide : DecidesEquality bytes_eq
bytes_decide = record { to = λ x y. (bytes_eq-Decides x y).0; from = λ x y. (bytes_eq-Decides x y).1 }

-- both read, or neither
pub read_equality : {V : Type 0} (same : V → V → Bool) → Equality same → Equality (same_read same)
read_equality {V = V} same q = record { reflexive = re; symmetric = sy; transitive = tr }
  where
    re : (x : Result V Fault) → same_read same x x ≡ true
    re (Ok x) = q.reflexive x
    re (Err f) = refl

    sy : (x y : Result V Fault) → same_read same x y ≡ true → same_read same y x ≡ true
    sy (Ok x) (Ok y) e = q.symmetric x y e
    sy (Ok x) (Err g) e = absurd (false≢true e)
    sy (Err f) (Ok y) e = absurd (false≢true e)
    sy (Err f) (Err g) e = refl

    tr : (x y z : Result V Fault) → same_read same x y ≡ true → same_read same y z ≡ true → same_read same x z ≡ true
    tr (Ok x) (Ok y) (Ok z) e g = q.transitive x y z e g
    tr (Ok x) (Ok y) (Err h) e g = absurd (false≢true g)
    tr (Ok x) (Err f) z e g = absurd (false≢true e)
    tr (Err f) (Ok y) z e g = absurd (false≢true e)
    tr (Err f) (Err h) (Ok z) e g = absurd (false≢true g)
    tr (Err f) (Err h) (Err i) e g = refl

pub bool_equality : Equality same_bool
bool_equality = along bool_one (same_read beq) (read_equality beq (decided beq beq_decides))

both : (x y : Bool) → x ≡ true → y ≡ true → (x && y) ≡ true
both true y e f = f
both false y e f = e

integer_decides : DecidesEquality same_integer
integer_decides = record { to = to; from = λ x y e. subst (λ z. same_integer x z ≡ true) e (same x) }
  where
    to : (x y : Option ℤ) → same_integer x y ≡ true → x ≡ y
    to (Some x) (Some y) e = ap Some (eqℤ_decides.to x y e)
    to (Some x) None e = absurd (false≢true e)
    to None (Some y) e = absurd (false≢true e)
    to None None e = refl

    same : (x : Option ℤ) → same_integer x x ≡ true
    same (Some x) = eqℤ_decides.from x x refl
    same None = refl

-- each of two parts by its own equality
pub both_equality : {A B C : Type 0} (f : A → B) (g : A → C) (same : B → B → Bool) (like : C → C → Bool) → Equality same → Equality like
    → Equality (λ x y. same (f x) (f y) && like (g x) (g y))
both_equality f g same like p q =
    record {
      reflexive = λ x. both (same (f x) (f x)) (like (g x) (g x)) (p.reflexive (f x)) (q.reflexive (g x));
      symmetric = λ x y e.
          let (a, b) = and_parts (same (f x) (f y)) (like (g x) (g y)) e in
          both (same (f y) (f x)) (like (g y) (g x)) (p.symmetric (f x) (f y) a) (q.symmetric (g x) (g y) b);
      transitive = λ x y z e h.
          let (a, b) = and_parts (same (f x) (f y)) (like (g x) (g y)) e in
          let (c, d) = and_parts (same (f y) (f z)) (like (g y) (g z)) h in
          both (same (f x) (f z)) (like (g x) (g z)) (p.transitive (f x) (f y) (f z) a c) (q.transitive (g x) (g y) (g z) b d);
    }

pub key_equality : Equality same_key
key_equality = both_equality {A = Option ℤ × List ℕ} (λ k. k.0) (λ k. k.1) same_integer bytes_eq (decided same_integer integer_decides) (decided bytes_eq bytes_decide)

pub text_equality : Equality same_text
text_equality = along (λ n. text_key (unwrapped n)) same_key key_equality

pub always_equality : {A : Type 0} → Equality {A = A} (λ x y. true)
always_equality = record { reflexive = λ x. refl; symmetric = λ x y e. refl; transitive = λ x y z e f. refl }

pub option_equality : (same : Node → Node → Bool) → Equality same → Equality (same_option same)
option_equality same q = record { reflexive = λ n. re (nil n) (unwrapped n); symmetric = λ n m. sy (nil n) (nil m) (unwrapped n) (unwrapped m); transitive = λ n m k. tr (nil n) (nil m) (nil k) (unwrapped n) (unwrapped m) (unwrapped k) }
  where
    nil : Node → Bool
    nil n = is_nil (case_at (unwrapped n))

    re : (b : Bool) (n : Node) → cond b b (cond b false (same n n)) ≡ true
    re true n = refl
    re false n = q.reflexive n

    sy : (a b : Bool) (n m : Node) → cond a b (cond b false (same n m)) ≡ true → cond b a (cond a false (same m n)) ≡ true
    sy true true n m e = refl
    sy true false n m e = absurd (false≢true e)
    sy false true n m e = absurd (false≢true e)
    sy false false n m e = q.symmetric n m e

    tr : (a b c : Bool) (n m k : Node) → cond a b (cond b false (same n m)) ≡ true → cond b c (cond c false (same m k)) ≡ true → cond a c (cond c false (same n k)) ≡ true
    tr true true c n m k e f = f
    tr true false c n m k e f = absurd (false≢true e)
    tr false true c n m k e f = absurd (false≢true e)
    tr false false true n m k e f = absurd (false≢true f)
    tr false false false n m k e f = q.transitive n m k e f

pub equality2 : (a b : Node → Node → Bool) → Equality a → Equality b → Equality (same2 a b)
equality2 a b p q = both_equality first_node (λ ns. first_node (drop 1 ns)) a b p q

pub equality3 : (a b c : Node → Node → Bool) → Equality a → Equality b → Equality c → Equality (same3 a b c)
equality3 a b c p q r = both_equality first_node (drop 1) a (same2 b c) p (equality2 b c q r)

pub equality4 : (a b c d : Node → Node → Bool) → Equality a → Equality b → Equality c → Equality d → Equality (same4 a b c d)
equality4 a b c d p q r s = both_equality first_node (drop 1) a (same3 b c d) p (equality3 b c d q r s)

pub parts_equality : (same : List Node → List Node → Bool) → Equality same → Equality (same_parts same)
parts_equality same q = along (λ n. flat_of (unwrapped n)) same q

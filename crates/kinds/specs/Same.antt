-- When two replies read as the same value.
use Rattle.std.specs.Prelude.{◌≡◌, ℕ, Bool, true, false, cond, ◌&&◌, List, [], ◌∷◌, drop, ℤ, pos, negsuc, Some, None, Ok, Err, Option, Result, ◌==◌}
use Rattle.std.specs.Bool.{beq}
use Rattle.std.specs.Str.{bytes_eq}
use Rattle.numerals.specs.Integer.{integer}
use Rattle.resp.specs.declared.case.Case.{Case}
use Rattle.resp.specs.declared.case.Case.TheVariants as case
use Rattle.resp.specs.Reply.{Leaf, Nil, Int, BulkString, SimpleString, Okay, Double, Boolean, VerbatimString, BigNumber, ServerError}
use Rattle.resp.specs.Node.{Node, OneAt, ArrayAt, SetAt, PushAt, MapAt, AttributeAt, PairAt}
use Rattle.reply.specs.Parts.{flat_of, unwrapped}
use Rattle.kinds.specs.declared.fault.Fault.{Fault}
use Rattle.kinds.specs.Texts.{case_at}
use Rattle.kinds.specs.Plain.{bool_one}
use Rattle.kinds.specs.Rows.{first_node}

abbrev pub eqℤ : ℤ → ℤ → Bool
eqℤ (pos a) (pos b) = a == b
eqℤ (pos a) (negsuc b) = false
eqℤ (negsuc a) (pos b) = false
eqℤ (negsuc a) (negsuc b) = a == b

-- both are read, as equal values; or neither is
abbrev pub same_read : {V : Type 0} → (V → V → Bool) → Result V Fault → Result V Fault → Bool
same_read eq (Ok x) (Ok y) = eq x y
same_read eq (Ok x) (Err g) = false
same_read eq (Err f) (Ok y) = false
same_read eq (Err f) (Err g) = true

abbrev pub same_bool : Node → Node → Bool
same_bool n m = same_read beq (bool_one n) (bool_one m)

-- A text as it is compared: what is an integer's line as that integer, since an integer has one line; any other as its bytes.
abbrev pub by_integer : Option ℤ → List ℕ → Option ℤ × List ℕ
by_integer (Some z) c = (Some z, [])
by_integer None c = (None, c)

abbrev pub key_of_text : List ℕ → Option ℤ × List ℕ
key_of_text c = by_integer (integer c) c

abbrev pub leaf_key : Leaf → Option ℤ × List ℕ
leaf_key Nil = key_of_text []
leaf_key (Int z) = (Some z, [])
leaf_key (BulkString s) = key_of_text s
leaf_key (SimpleString c) = key_of_text c
leaf_key Okay = key_of_text (79 ∷ 75 ∷ [])
leaf_key (Double c) = key_of_text c
leaf_key (Boolean true) = key_of_text (116 ∷ [])
leaf_key (Boolean false) = key_of_text (102 ∷ [])
leaf_key (VerbatimString f t) = key_of_text t
leaf_key (BigNumber c) = key_of_text c
leaf_key (ServerError c) = key_of_text c

abbrev pub text_key : Node → Option ℤ × List ℕ
text_key (OneAt p e l) = leaf_key l
text_key (ArrayAt p e ns) = key_of_text []
text_key (SetAt p e ns) = key_of_text []
text_key (PushAt p e ns) = key_of_text []
text_key (MapAt p e ps) = key_of_text []
text_key (AttributeAt p e ps n) = key_of_text []
text_key (PairAt p e k v) = key_of_text []

abbrev pub same_integer : Option ℤ → Option ℤ → Bool
same_integer (Some x) (Some y) = eqℤ x y
same_integer (Some x) None = false
same_integer None (Some y) = false
same_integer None None = true

abbrev pub same_key : Option ℤ × List ℕ → Option ℤ × List ℕ → Bool
same_key k l = same_integer k.0 l.0 && bytes_eq k.1 l.1

abbrev pub same_text : Node → Node → Bool
same_text n m = same_key (text_key (unwrapped n)) (text_key (unwrapped m))

abbrev pub is_nil : Case → Bool
is_nil case.Nil = true
is_nil case.Int = false
is_nil case.BulkString = false
is_nil case.Array = false
is_nil case.SimpleString = false
is_nil case.Okay = false
is_nil case.Map = false
is_nil case.Attribute = false
is_nil case.Set = false
is_nil case.Double = false
is_nil case.Boolean = false
is_nil case.VerbatimString = false
is_nil case.BigNumber = false
is_nil case.Push = false
is_nil case.ServerError = false

-- two nils, or two of the kind
abbrev pub same_option : (Node → Node → Bool) → Node → Node → Bool
same_option same n m =
    cond (is_nil (case_at (unwrapped n))) (is_nil (case_at (unwrapped m)))
    (cond (is_nil (case_at (unwrapped m))) false (same (unwrapped n) (unwrapped m)))

-- each part like its counterpart
abbrev pub same2 : (Node → Node → Bool) → (Node → Node → Bool) → List Node → List Node → Bool
same2 a b ns ms = a (first_node ns) (first_node ms) && b (first_node (drop 1 ns)) (first_node (drop 1 ms))

abbrev pub same3 : (Node → Node → Bool) → (Node → Node → Bool) → (Node → Node → Bool) → List Node → List Node → Bool
same3 a b c ns ms = a (first_node ns) (first_node ms) && same2 b c (drop 1 ns) (drop 1 ms)

abbrev pub same4 : (Node → Node → Bool) → (Node → Node → Bool) → (Node → Node → Bool) → (Node → Node → Bool) → List Node → List Node → Bool
same4 a b c d ns ms = a (first_node ns) (first_node ms) && same3 b c d (drop 1 ns) (drop 1 ms)

abbrev pub same_parts : (List Node → List Node → Bool) → Node → Node → Bool
same_parts same n m = same (flat_of (unwrapped n)) (flat_of (unwrapped m))

-- an equality: reflexive, symmetric and transitive
pub record Equality {A : Type 0} (same : A → A → Bool) : Type 0 where
  pub reflexive : (x : A) → same x x ≡ true
  pub symmetric : (x y : A) → same x y ≡ true → same y x ≡ true
  pub transitive : (x y z : A) → same x y ≡ true → same y z ≡ true → same x z ≡ true

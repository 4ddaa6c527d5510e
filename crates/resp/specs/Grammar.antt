-- Which bytes are a wire form of which reply. Nothing here knows of faults, or of an order in which bytes are looked at.
use Rattle.std.specs.Prelude.{◌≡◌, ℕ, zero, suc, ◌≤◌, true, false, List, [], ◌∷◌, ◌++◌, length, ℤ, ◌≢◌}
use Rattle.utf8.specs.Table.{WellFormed}
use Rattle.numerals.specs.Plain.{Plain}
use Rattle.numerals.specs.Integer.{Integer}
use Rattle.numerals.specs.Double as line
use Rattle.resp.specs.Limits.{line_most, length_most, items_most, pairs_most}
use Rattle.resp.specs.Reply.{Leaf, Nil, Int, BulkString, SimpleString, Okay, Double, Boolean, VerbatimString, BigNumber, ServerError, Reply, One, Array, Set, Push, Map, Attribute, replies, pairs, is_string_reply}

abbrev pub crlf : List ℕ
crlf = 13 ∷ 10 ∷ []

-- no CR and no LF
abbrev pub Clean : List ℕ → Type 0
Clean [] = Unit {0}
Clean (b ∷ c) = (b ≢ 13) × (b ≢ 10) × Clean c

-- the content of a line
pub record Line (c : List ℕ) : Type 0 where
  pub short : length c ≤ line_most
  pub clean : Clean c

-- the line that tells a length or a count: the kind's character, and n as a plain number, at most `most`
pub data Header (b most n : ℕ) : List ℕ → Type 0 where
  header : {c : List ℕ} → Line c → Plain n c → n ≤ most → Header b most n (b ∷ (c ++ crlf))

-- The wire forms of leaves. Nil has three, an error two.
pub data Leafed : Leaf → List ℕ → Type 0 where
  a_null : Leafed Nil (95 ∷ crlf)
  a_null_bulk : Leafed Nil (36 ∷ 45 ∷ 49 ∷ crlf)
  a_null_array : Leafed Nil (42 ∷ 45 ∷ 49 ∷ crlf)
  an_integer : {z : ℤ} {c : List ℕ} → Line c → Integer z c → Leafed (Int z) (58 ∷ (c ++ crlf))
  a_true : Leafed (Boolean true) (35 ∷ 116 ∷ crlf)
  a_false : Leafed (Boolean false) (35 ∷ 102 ∷ crlf)
  a_double : {c : List ℕ} → Line c → line.Double c → Leafed (Double c) (44 ∷ (c ++ crlf))
  a_big_number : {c : List ℕ} → Line c → line.BigNumber c → Leafed (BigNumber c) (40 ∷ (c ++ crlf))
  an_okay : Leafed Okay (43 ∷ 79 ∷ 75 ∷ crlf)
  a_simple_string : {c : List ℕ} → Line c → WellFormed c → (c ≢ 79 ∷ 75 ∷ []) → Leafed (SimpleString c) (43 ∷ (c ++ crlf))
  a_simple_error : {c : List ℕ} → Line c → WellFormed c → Leafed (ServerError c) (45 ∷ (c ++ crlf))
  a_bulk_string : {s h : List ℕ} → Header 36 length_most (length s) h → Leafed (BulkString s) (h ++ (s ++ crlf))
  a_bulk_error : {s h : List ℕ} → Header 33 length_most (length s) h → WellFormed s → Leafed (ServerError s) (h ++ (s ++ crlf))
  a_verbatim_string : {f t h : List ℕ} → length f ≡ 3 → Header 61 length_most (length (f ++ (58 ∷ t))) h → WellFormed (f ++ (58 ∷ t))
      → Leafed (VerbatimString f t) (h ++ ((f ++ (58 ∷ t)) ++ crlf))

-- what is written with W, one after another
pub data Each {A : Type 0} (W : A → List ℕ → Type 0) : List A → List ℕ → Type 0 where
  none : Each W [] []
  more : {a : A} {l : List A} {x y : List ℕ} → W a x → Each W l y → Each W (a ∷ l) (x ++ y)

-- a key, then its value
pub data Two {A : Type 0} (W : A → List ℕ → Type 0) : A × A → List ℕ → Type 0 where
  two : {a b : A} {x y : List ℕ} → W a x → W b y → Two W (a, b) (x ++ y)

-- The wire forms of replies whose parts are written with W.
pub data Formed (W : Reply → List ℕ → Type 0) : Reply → List ℕ → Type 0 where
  a_leaf : {l : Leaf} {x : List ℕ} → Leafed l x → Formed W (One l) x
  an_array : {rs : List Reply} {h x : List ℕ} → Header 42 items_most (length rs) h → Each W rs x → Formed W (Array (replies rs)) (h ++ x)
  a_set : {rs : List Reply} {h x : List ℕ} → Header 126 items_most (length rs) h → Each W rs x → Formed W (Set (replies rs)) (h ++ x)
  a_push : {r : Reply} {rs : List Reply} {h x : List ℕ} → Header 62 items_most (length (r ∷ rs)) h → is_string_reply r ≡ true → Each W (r ∷ rs) x
      → Formed W (Push (replies (r ∷ rs))) (h ++ x)
  a_map : {ps : List (Reply × Reply)} {h x : List ℕ} → Header 37 pairs_most (length ps) h → Each (Two W) ps x → Formed W (Map (pairs ps)) (h ++ x)
  an_attribute : {ps : List (Reply × Reply)} {r : Reply} {h x y : List ℕ} → Header 124 pairs_most (length ps) h → Each (Two W) ps x → W r y
      → Formed W (Attribute (pairs ps) r) (h ++ (x ++ y))

-- x is a wire form of the reply r, which has at most d levels
abbrev pub Whole : ℕ → Reply → List ℕ → Type 0
Whole zero r x = ⊥
Whole (suc d) r x = Formed (Whole d) r x

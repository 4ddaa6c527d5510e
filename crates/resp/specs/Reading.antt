-- How replies are read, from left to right. In each reader s is the item from its first byte on, where most of its faults have their place.
use Rattle.std.specs.Prelude.{ℕ, zero, suc, ◌+◌, ◌-◌, Bool, true, false, cond, ◌&&◌, List, [], ◌∷◌, ◌++◌, length, take, drop, ℤ, Some, None, Option, ◌==◌, nat_le, nat_lt, slice_index}
use Rattle.utf8.specs.Scan.{ill_formed}
use Rattle.numerals.specs.Plain.{plain, value}
use Rattle.numerals.specs.Integer.{integer}
use Rattle.numerals.specs.Double.{is_double, is_big_number}
use Rattle.resp.specs.declared.fault.WireReason.TheVariants.{NotWhole, UnknownKind, BrokenLine, LongLine, Content, Limit, NotClosed, NotUtf8}
use Rattle.resp.specs.declared.kind.Kind.{Kind}
use Rattle.resp.specs.declared.kind.Kind.TheVariants as kind
use Rattle.resp.specs.Limits.{line_most, length_most, items_most, pairs_most}
use Rattle.resp.specs.Out.{Out, ok, fault, and_then, map_out}
use Rattle.resp.specs.Reply.{Leaf, Nil, Int, BulkString, SimpleString, Okay, Double, Boolean, VerbatimString, BigNumber, ServerError}

-- The first character tells the kind.
abbrev pub kind_of : ℕ → Option Kind
kind_of b =
    cond (b == 43) (Some kind.SimpleString)
    (cond (b == 45) (Some kind.SimpleError)
    (cond (b == 58) (Some kind.Integer)
    (cond (b == 36) (Some kind.BulkString)
    (cond (b == 42) (Some kind.Array)
    (cond (b == 95) (Some kind.Null)
    (cond (b == 35) (Some kind.Boolean)
    (cond (b == 44) (Some kind.Double)
    (cond (b == 40) (Some kind.BigNumber)
    (cond (b == 33) (Some kind.BulkError)
    (cond (b == 61) (Some kind.VerbatimString)
    (cond (b == 37) (Some kind.Map)
    (cond (b == 124) (Some kind.Attribute)
    (cond (b == 126) (Some kind.Set)
    (cond (b == 62) (Some kind.Push) None))))))))))))))

-- after a CR
abbrev pub closing : List ℕ → List ℕ → Out (List ℕ)
closing s [] = fault NotWhole []
closing s (b ∷ bs) = cond (b == 10) (ok [] bs) (fault BrokenLine s)

-- a line's content of at most so many bytes, and the CR LF that ends it
abbrev pub line : List ℕ → ℕ → List ℕ → Out (List ℕ)
line s room [] = fault NotWhole []
line s zero (b ∷ bs) = cond (b == 13) (closing s bs) (cond (b == 10) (fault BrokenLine s) (fault LongLine s))
line s (suc room) (b ∷ bs) = cond (b == 13) (closing s bs) (cond (b == 10) (fault BrokenLine s) (map_out (λ c. b ∷ c) (line s room bs)))

-- what a line's content stands for, if anything
abbrev pub or_content : {A : Type 0} → List ℕ → Option A → List ℕ → Out A
or_content s (Some a) more = ok a more
or_content s None more = fault Content s

abbrev pub lined : {A : Type 0} → (List ℕ → Option A) → List ℕ → List ℕ → Out A
lined judge s bs = and_then (line s line_most bs) λ c more. or_content s (judge c) more

abbrev pub integer_of : Option ℤ → Option Leaf
integer_of (Some z) = Some (Int z)
integer_of None = None

abbrev pub null_leaf : List ℕ → Option Leaf
null_leaf [] = Some Nil
null_leaf (b ∷ c) = None

-- t or f
abbrev pub boolean_leaf : List ℕ → Option Leaf
boolean_leaf [] = None
boolean_leaf (b ∷ []) = cond (b == 116) (Some (Boolean true)) (cond (b == 102) (Some (Boolean false)) None)
boolean_leaf (b ∷ d ∷ c) = None

abbrev pub double_leaf : List ℕ → Option Leaf
double_leaf c = cond (is_double c) (Some (Double c)) None

abbrev pub big_number_leaf : List ℕ → Option Leaf
big_number_leaf c = cond (is_big_number c) (Some (BigNumber c)) None

-- what the line of a kind stands for, of the five kinds whose line is all
abbrev pub leaf_of : Kind → List ℕ → Option Leaf
leaf_of kind.Integer c = integer_of (integer c)
leaf_of kind.Null c = null_leaf c
leaf_of kind.Boolean c = boolean_leaf c
leaf_of kind.Double c = double_leaf c
leaf_of kind.BigNumber c = big_number_leaf c
leaf_of kind.SimpleString c = None
leaf_of kind.SimpleError c = None
leaf_of kind.BulkString c = None
leaf_of kind.BulkError c = None
leaf_of kind.VerbatimString c = None
leaf_of kind.Array c = None
leaf_of kind.Set c = None
leaf_of kind.Push c = None
leaf_of kind.Map c = None
leaf_of kind.Attribute c = None

abbrev pub spells_ok : List ℕ → Bool
spells_ok [] = false
spells_ok (b ∷ []) = false
spells_ok (b ∷ d ∷ []) = b == 79 && d == 75
spells_ok (b ∷ d ∷ e ∷ c) = false

abbrev pub simple_leaf : List ℕ → Leaf
simple_leaf c = cond (spells_ok c) Okay (SimpleString c)

-- the content c, which CR LF and `more` follow, if it is UTF-8
abbrev pub or_ill : Option (List ℕ) → List ℕ → List ℕ → Out (List ℕ)
or_ill None c more = ok c more
or_ill (Some t) c more = fault NotUtf8 (t ++ (13 ∷ 10 ∷ more))

abbrev pub text : List ℕ → List ℕ → Out (List ℕ)
text c more = or_ill (ill_formed c) c more

abbrev pub text_line : List ℕ → List ℕ → Out (List ℕ)
text_line s bs = and_then (line s line_most bs) text

-- a plain number of at most `most`
abbrev pub judged : ℕ → List ℕ → List ℕ → List ℕ → Out ℕ
judged most s c more = cond (plain c) (cond (nat_le (value c) most) (ok (value c) more) (fault Limit s)) (fault Content s)

abbrev pub size : ℕ → List ℕ → List ℕ → Out ℕ
size most s bs = and_then (line s line_most bs) (judged most s)

abbrev pub is_minus_one : List ℕ → Bool
is_minus_one [] = false
is_minus_one (b ∷ []) = false
is_minus_one (b ∷ d ∷ []) = b == 45 && d == 49
is_minus_one (b ∷ d ∷ e ∷ c) = false

-- the same, or -1, which stands for no value
abbrev pub size_or_null : ℕ → List ℕ → List ℕ → Out (Option ℕ)
size_or_null most s bs = and_then (line s line_most bs) λ c more. cond (is_minus_one c) (ok None more) (map_out Some (judged most s c more))

-- n bytes and CR LF, looked at once all of them are there
abbrev pub body : ℕ → List ℕ → Out (List ℕ)
body n bs =
    cond (nat_lt (length bs) (n + 2)) (fault NotWhole [])
    (cond (slice_index bs n == 13 && slice_index bs (n + 1) == 10) (ok (take n bs) (drop (n + 2) bs)) (fault NotClosed (drop n bs)))

-- at least four bytes, the fourth a colon
abbrev pub is_verbatim : List ℕ → Bool
is_verbatim c = nat_lt 3 (length c) && slice_index c 3 == 58

abbrev pub verbatim : List ℕ → List ℕ → List ℕ → Out (List ℕ)
verbatim s c more = cond (is_verbatim c) (text c more) (fault Content s)

abbrev pub bulk : Option ℕ → List ℕ → Out Leaf
bulk None bs = ok Nil bs
bulk (Some n) bs = map_out BulkString (body n bs)

-- What stands before an item's parts: a leaf, which has none, or the count of items or of pairs.
pub data Head : Type 0 where
  a_leaf : Leaf → Head
  of_array of_set of_push of_map of_attribute : ℕ → Head

abbrev pub array_head : Option ℕ → Head
array_head None = a_leaf Nil
array_head (Some n) = of_array n

-- a push has at least one item
abbrev pub pushed : List ℕ → ℕ → List ℕ → Out Head
pushed s n more = cond (n == 0) (fault Content s) (ok (of_push n) more)

-- the rule of each kind
abbrev pub head : Kind → List ℕ → List ℕ → Out Head
head kind.SimpleString s bs = map_out (λ c. a_leaf (simple_leaf c)) (text_line s bs)
head kind.SimpleError s bs = map_out (λ c. a_leaf (ServerError c)) (text_line s bs)
head kind.Integer s bs = map_out a_leaf (lined (leaf_of kind.Integer) s bs)
head kind.Null s bs = map_out a_leaf (lined (leaf_of kind.Null) s bs)
head kind.Boolean s bs = map_out a_leaf (lined (leaf_of kind.Boolean) s bs)
head kind.Double s bs = map_out a_leaf (lined (leaf_of kind.Double) s bs)
head kind.BigNumber s bs = map_out a_leaf (lined (leaf_of kind.BigNumber) s bs)
head kind.BulkString s bs = map_out a_leaf (and_then (size_or_null length_most s bs) bulk)
head kind.BulkError s bs = map_out (λ c. a_leaf (ServerError c)) (and_then (size length_most s bs) λ n more. and_then (body n more) text)
head kind.VerbatimString s bs =
    map_out (λ c. a_leaf (VerbatimString (take 3 c) (drop 4 c))) (and_then (size length_most s bs) λ n more. and_then (body n more) (verbatim s))
head kind.Array s bs = map_out array_head (size_or_null items_most s bs)
head kind.Set s bs = map_out of_set (size items_most s bs)
head kind.Push s bs = and_then (size items_most s bs) (pushed s)
head kind.Map s bs = map_out of_map (size pairs_most s bs)
head kind.Attribute s bs = map_out of_attribute (size pairs_most s bs)

abbrev pub begun : Option Kind → List ℕ → List ℕ → Out Head
begun None s bs = fault UnknownKind s
begun (Some k) s bs = head k s bs

-- an item up to its parts
abbrev pub opening : List ℕ → Out Head
opening [] = fault NotWhole []
opening (b ∷ bs) = begun (kind_of b) (b ∷ bs) bs

-- One level of a reply, whose parts are R.
pub data Form (R : Type 0) : Type 0 where
  leaf : Leaf → Form R
  array set push : List R → Form R
  map : List (R × R) → Form R
  attribute : List (R × R) → R → Form R

abbrev pub items : {A : Type 0} → (List ℕ → Out A) → ℕ → List ℕ → Out (List A)
items f zero bs = ok [] bs
items f (suc n) bs = and_then (f bs) λ a more. map_out (λ l. a ∷ l) (items f n more)

abbrev pub pair : {A : Type 0} → (List ℕ → Out A) → List ℕ → Out (A × A)
pair f bs = and_then (f bs) λ a more. map_out (λ b. (a, b)) (f more)

-- n items, the first of which must be a string
abbrev pub named : {A : Type 0} → (List ℕ → Out A) → (A → Bool) → ℕ → List ℕ → Out (List A)
named f string n bs = and_then (f bs) λ a more. cond (string a) (map_out (λ l. a ∷ l) (items f (n - 1) more)) (fault Content bs)

-- the parts, each read by f, that follow a head
abbrev pub parts : {R : Type 0} → (List ℕ → Out R) → (R → Bool) → Head → List ℕ → Out (Form R)
parts f string (a_leaf l) bs = ok (leaf l) bs
parts f string (of_array n) bs = map_out array (items f n bs)
parts f string (of_set n) bs = map_out set (items f n bs)
parts f string (of_push n) bs = map_out push (named f string n bs)
parts f string (of_map n) bs = map_out map (items (pair f) n bs)
parts f string (of_attribute n) bs = and_then (items (pair f) n bs) λ ps more. map_out (attribute ps) (f more)

-- an item whose parts are read by f
abbrev pub form : {R : Type 0} → (List ℕ → Out R) → (R → Bool) → List ℕ → Out (Form R)
form f string bs = and_then (opening bs) (parts f string)

-- What holds of reading, in the protocol's own terms.
use Rattle.std.specs.Prelude.{◌≡◌, ℕ, ◌<◌, ◌≤◌, ◌≢◌, List, [], ◌++◌, length, take, drop}
use Rattle.resp.specs.declared.fault.WireReason.{WireReason}
use Rattle.resp.specs.declared.fault.WireReason.TheVariants.{NotWhole}
use Rattle.resp.specs.Out.{ok, fault}
use Rattle.resp.specs.Reply.{Reply}
use Rattle.resp.specs.Grammar.{Whole, Each}
use Rattle.resp.specs.Node.{Node, erase, reading}

-- A tree is read from the first n bytes only where they are a wire form of its reply.
abbrev pub ReadsOnly : Type 0
ReadsOnly = (at : List ℕ → ℕ) (d : ℕ) (bs : List ℕ) (t : Node) (n : ℕ) → n ≤ length bs → reading at d bs ≡ ok t (drop n bs) → Whole d (erase t) (take n bs)

-- Where they are a wire form of a reply, a tree of that reply is read from them.
abbrev pub ReadsAll : Type 0
ReadsAll =
    (at : List ℕ → ℕ) (d : ℕ) (bs : List ℕ) (r : Reply) (n : ℕ) → n ≤ length bs → Whole d r (take n bs)
    → (t : Node) × (reading at d bs ≡ ok t (drop n bs)) × (erase t ≡ r)

-- What is read is a front of the bytes that is not empty, and a whole reply by itself.
abbrev pub ReadsAFront : Type 0
ReadsAFront =
    (at : List ℕ → ℕ) (d : ℕ) (bs : List ℕ) (t : Node) (rest : List ℕ) → reading at d bs ≡ ok t rest
    → (x : List ℕ) × (bs ≡ x ++ rest) × (0 < length x) × Whole d (erase t) x

-- Unique decoding: of two wire forms neither begins the other.
abbrev pub OneFront : Type 0
OneFront = (d : ℕ) (r q : Reply) (x y s t : List ℕ) → Whole d r x → Whole d q y → x ++ s ≡ y ++ t → (r ≡ q) × (x ≡ y)

-- So as many replies, one after another, are told apart.
abbrev pub OneSplit : Type 0
OneSplit =
    (d : ℕ) (rs qs : List Reply) (x y s t : List ℕ) → Each (Whole d) rs x → Each (Whole d) qs y → length rs ≡ length qs → x ++ s ≡ y ++ t
    → (rs ≡ qs) × (x ≡ y)

-- A whole reply stays what it is when more bytes come.
abbrev pub Stays : Type 0
Stays =
    (at : List ℕ → ℕ) (d : ℕ) (bs : List ℕ) (t : Node) (rest more : List ℕ) → reading at d bs ≡ ok t rest
    → (u : Node) × (reading at d (bs ++ more) ≡ ok u (rest ++ more)) × (erase u ≡ erase t)

-- A fault for want of bytes stands at their end, and any other stays at its place when more come.
abbrev pub Lasts : Type 0
Lasts =
    (at : List ℕ → ℕ) (d : ℕ) (bs : List ℕ) (k : WireReason) (place more : List ℕ) → reading at d bs ≡ fault k place
    → (k ≡ NotWhole → place ≡ []) × (k ≢ NotWhole → reading at d (bs ++ more) ≡ fault k (place ++ more))

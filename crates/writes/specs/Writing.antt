-- What kinds write, and what a value that was read stands for.
use Rattle.std.specs.Prelude.{◌≡◌, ℕ, Bool, true, false, ◌&&◌, List, [], ◌∷◌, length, take, drop, ℤ, Some, None, Ok, Option, Result, int_le}
use Rattle.resp.specs.Reply.{Nil, Int, BulkString, SimpleString, Okay, Double, Boolean, VerbatimString, BigNumber, ServerError, Reply, One, Array, Set, Push, Map, Attribute, pairs, replies}
use Rattle.resp.specs.Node.{Node, erase}
use Rattle.reply.specs.declared.part.Part.{Part}
use Rattle.reply.specs.declared.spot.Spot.{Spot}
use Rattle.reply.specs.Find.{find}
use Rattle.reply.specs.Inside.{Inside}
use Rattle.kinds.specs.declared.bounds.Bounds.{Bounds}
use Rattle.kinds.specs.declared.fault.Fault.{Fault}
use Rattle.kinds.specs.Rows.{mapped}
use Rattle.collections.specs.declared.listed.Listed.{Listed}

-- of all
abbrev pub All : {M : Type 0} → (M → Type 0) → List M → Type 0
All P [] = Unit {0}
All P (m ∷ ms) = P m × All P ms

-- of each with its counterpart
abbrev pub Each : {V M : Type 0} → (V → M → Type 0) → List V → List M → Type 0
Each S [] [] = Unit {0}
Each S [] (m ∷ ms) = ⊥
Each S (v ∷ vs) [] = ⊥
Each S (v ∷ vs) (m ∷ ms) = S v m × Each S vs ms

-- A part of the tree that is a wire form of what m writes reads as a value that stands for m.
abbrev pub ReadsBack : {V M : Type 0} → Node → (Node → Result V Fault) → (M → Type 0) → (M → Reply) → (V → M → Type 0) → Type 0
ReadsBack {V = V} {M = M} tree one can written stands = (m : M) (n : Node) → Inside n tree → can m → erase n ≡ written m → (v : V) × (one n ≡ Ok v) × stands v m

-- The same of several parts and what several models write.
abbrev pub ManyBack : {V M : Type 0} → Node → (List Node → Result (List V) Fault) → (M → Type 0) → (M → Reply) → (V → M → Type 0) → Type 0
ManyBack {V = V} {M = M} tree many can written stands =
    (ms : List M) (ns : List Node) → All (λ n. Inside n tree) ns → All can ms → mapped erase ns ≡ mapped written ms
    → (vs : List V) × (many ns ≡ Ok vs) × Each stands vs ms

-- a text in place stands for the bytes there
abbrev pub TextStands : List ℕ → Part → List ℕ → Type 0
TextStands bs v m = take v.len (drop v.start bs) ≡ m

-- a place stands for the reply that begins there
abbrev pub PlaceStands : Node → Spot → Reply → Type 0
PlaceStands tree v m = (n : Node) × (find v tree ≡ Some n) × (erase n ≡ m)

abbrev pub option_written : {M : Type 0} → (M → Reply) → Option M → Reply
option_written written None = One Nil
option_written written (Some m) = written m

-- neither a nil nor an attribute
abbrev pub is_solid : Reply → Bool
is_solid (One Nil) = false
is_solid (One (Int z)) = true
is_solid (One (BulkString s)) = true
is_solid (One (SimpleString c)) = true
is_solid (One Okay) = true
is_solid (One (Double c)) = true
is_solid (One (Boolean v)) = true
is_solid (One (VerbatimString f t)) = true
is_solid (One (BigNumber c)) = true
is_solid (One (ServerError c)) = true
is_solid (Array rs) = true
is_solid (Set rs) = true
is_solid (Push rs) = true
is_solid (Map ps) = true
is_solid (Attribute ps r) = false

-- an option stands only over what is written as neither
abbrev pub OptionCan : {M : Type 0} → (M → Type 0) → (M → Reply) → Option M → Type 0
OptionCan can written None = Unit {0}
OptionCan can written (Some m) = can m × (is_solid (written m) ≡ true)

abbrev pub OptionStands : {V M : Type 0} → (V → M → Type 0) → Option V → Option M → Type 0
OptionStands stands None None = Unit {0}
OptionStands stands None (Some m) = ⊥
OptionStands stands (Some v) None = ⊥
OptionStands stands (Some v) (Some m) = stands v m

-- what a tuple writes: an array of what its parts write
abbrev pub written2 : {A B : Type 0} → (A → Reply) → (B → Reply) → A × B → Reply
written2 a b m = Array (replies (a m.0 ∷ b m.1 ∷ []))

abbrev pub written3 : {A B C : Type 0} → (A → Reply) → (B → Reply) → (C → Reply) → A × B × C → Reply
written3 a b c m = Array (replies (a m.0 ∷ b m.1 ∷ c m.2 ∷ []))

abbrev pub written4 : {A B C D : Type 0} → (A → Reply) → (B → Reply) → (C → Reply) → (D → Reply) → A × B × C × D → Reply
written4 a b c d m = Array (replies (a m.0 ∷ b m.1 ∷ c m.2 ∷ d m.3 ∷ []))

-- the parts can be written, and the values stand for them
abbrev pub Can2 : {A : Type 0} {B : Type 0} → (A → Type 0) → (B → Type 0) → A × B → Type 0
Can2 a b m = a m.0 × b m.1

abbrev pub Stands2 : {Va A : Type 0} {Vb B : Type 0} → (Va → A → Type 0) → (Vb → B → Type 0) → Va × Vb → A × B → Type 0
Stands2 a b v m = a v.0 m.0 × b v.1 m.1

abbrev pub Can3 : {A : Type 0} {B : Type 0} {C : Type 0} → (A → Type 0) → (B → Type 0) → (C → Type 0) → A × B × C → Type 0
Can3 a b c m = a m.0 × b m.1 × c m.2

abbrev pub Stands3 : {Va A : Type 0} {Vb B : Type 0} {Vc C : Type 0} → (Va → A → Type 0) → (Vb → B → Type 0) → (Vc → C → Type 0) → Va × Vb × Vc → A × B × C → Type 0
Stands3 a b c v m = a v.0 m.0 × b v.1 m.1 × c v.2 m.2

abbrev pub Can4 : {A : Type 0} {B : Type 0} {C : Type 0} {D : Type 0} → (A → Type 0) → (B → Type 0) → (C → Type 0) → (D → Type 0) → A × B × C × D → Type 0
Can4 a b c d m = a m.0 × b m.1 × c m.2 × d m.3

abbrev pub Stands4 : {Va A : Type 0} {Vb B : Type 0} {Vc C : Type 0} {Vd D : Type 0} → (Va → A → Type 0) → (Vb → B → Type 0) → (Vc → C → Type 0) → (Vd → D → Type 0) → Va × Vb × Vc × Vd → A × B × C × D → Type 0
Stands4 a b c d v m = a v.0 m.0 × b v.1 m.1 × c v.2 m.2 × d v.3 m.3

-- an integer within the bounds
abbrev pub InBounds : Bounds → ℤ → Type 0
InBounds b z = (int_le b.low z && int_le z b.high) ≡ true

-- Rows at a place stand for what the rows stand for: they are just the counted ones.
abbrev pub RowsStand : {V M : Type 0} → Node → (Node → Result (List V) Fault) → (V → M → Type 0) → Listed V → List M → Type 0
RowsStand {V = V} tree rows stands v ms =
    (n : Node) × (vs : List V) × (find v.spot tree ≡ Some n) × (rows n ≡ Ok vs) × (v.count ≡ length vs) × Each stands vs ms

-- what lists, sets and maps write
abbrev pub list_written : {M : Type 0} → (M → Reply) → List M → Reply
list_written written ms = Array (replies (mapped written ms))

abbrev pub set_written : {M : Type 0} → (M → Reply) → List M → Reply
set_written written ms = Set (replies (mapped written ms))

abbrev pub map_written : {A B : Type 0} → (A → Reply) → (B → Reply) → List (A × B) → Reply
map_written key value ms = Map (pairs (mapped (λ m. (key m.0, value m.1)) ms))

-- no wire form of the one is like a wire form of the other
abbrev pub Unlike : (Node → Node → Bool) → Reply → Reply → Type 0
Unlike alike r s = (x y : Node) → erase x ≡ r → erase y ≡ s → alike x y ≡ false

-- no two are alike
abbrev pub Apart : {M : Type 0} → (Node → Node → Bool) → (M → Reply) → List M → Type 0
Apart alike written [] = Unit {0}
Apart alike written (m ∷ ms) = All (λ l. Unlike alike (written m) (written l)) ms × Apart alike written ms

-- sets and maps are written without equals
abbrev pub SetCan : {M : Type 0} → (Node → Node → Bool) → (M → Type 0) → (M → Reply) → List M → Type 0
SetCan alike can written ms = All can ms × Apart alike written ms

abbrev pub MapCan : {A B : Type 0} → (Node → Node → Bool) → (A → Type 0) → (B → Type 0) → (A → Reply) → List (A × B) → Type 0
MapCan alike key value written ms = All (Can2 key value) ms × Apart alike (λ m. written m.0) ms

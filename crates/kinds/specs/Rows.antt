-- Reading several replies, one row after another.
use Rattle.std.specs.Prelude.{ℕ, zero, suc, Bool, cond, List, [], ◌∷◌, length, take, Some, None, Ok, Err, Option, Result}
use Rattle.resp.specs.Node.{Node}
use Rattle.reply.specs.declared.spot.Spot.{Spot}
use Rattle.reply.specs.Parts.{spot_of}
use Rattle.reply.specs.View.{nil_node}

-- what is done with a value; a refusal stays
abbrev pub and_then : {A B F : Type 0} → Result A F → (A → Result B F) → Result B F
and_then (Ok x) k = k x
and_then (Err f) k = Err f

-- a row before others
abbrev pub onto : {V F : Type 0} → V → Result (List V) F → Result (List V) F
onto v (Ok vs) = Ok (v ∷ vs)
onto v (Err f) = Err f

-- each by itself, up to the first refusal
abbrev pub many_by : {A V F : Type 0} → (A → Result V F) → List A → Result (List V) F
many_by one [] = Ok []
many_by one (n ∷ ns) = and_then (one n) (λ v. onto v (many_by one ns))

-- The cuts of a list, of one element and m more each; the last may be shorter. The second number is how many still belong to
-- the cut before.
abbrev pub cuts_from : {A : Type 0} → ℕ → ℕ → List A → List (List A)
cuts_from m k [] = []
cuts_from m zero (n ∷ ns) = take (suc m) (n ∷ ns) ∷ cuts_from m m ns
cuts_from m (suc k) (n ∷ ns) = cuts_from m k ns

abbrev pub cuts : {A : Type 0} → ℕ → List A → List (List A)
cuts m ns = cuts_from m 0 ns

abbrev pub first_node : List Node → Node
first_node [] = nil_node
first_node (n ∷ ns) = n

-- What a list of replies reads as: where it is flat, a row of each cut, with the place of the list's first reply for a refusal of
-- the list; else each reply by itself.
abbrev pub many_of : {V F : Type 0} → (Node → Result V F) → Bool → ℕ → (Spot → List Node → Result V F) → List Node → Result (List V) F
many_of one flat more joined ns = cond flat (many_by (joined (spot_of (first_node ns))) (cuts more ns)) (many_by one ns)

-- the first of some replies, by itself; of none, a nil
abbrev pub first_by : {V F : Type 0} → (Node → Result V F) → List Node → Result V F
first_by one [] = one nil_node
first_by one (n ∷ ns) = one n

-- the value of a byte, for a kind that takes byte strings apart
abbrev pub byte_by : {V : Type 0} → Option (ℕ → V) → ℕ → Option V
byte_by (Some f) b = Some (f b)
byte_by None b = None

abbrev pub mapped : {A B : Type 0} → (A → B) → List A → List B
mapped f [] = []
mapped f (x ∷ xs) = f x ∷ mapped f xs

-- what a byte string reads as: each byte by itself, or a row that is the string as one reply
abbrev pub bytes_of : {V F : Type 0} → Option (ℕ → V) → Result V F → List ℕ → Result (List V) F
bytes_of (Some f) whole s = Ok (mapped f s)
bytes_of None whole s = and_then whole (λ v. Ok (v ∷ []))

abbrev pub counted : {V F : Type 0} → Result (List V) F → Result ℕ F
counted (Ok vs) = Ok (length vs)
counted (Err f) = Err f

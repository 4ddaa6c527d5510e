-- What a function of the code answers, beside what a reader says of the same bytes.
use Rattle.std.specs.Prelude.{◌≡◌, ℕ, zero, suc, ◌+◌, ◌-◌, ◌*◌, ◌≤◌, Bool, true, false, cond, not, ◌&&◌, ◌||◌, List, [], ◌∷◌, length, drop, Ok, Err, Result, ◌==◌, nat_le, nat_lt, slice_index, slice_range}
use Rattle.resp.specs.declared.fault.WireReason.{WireReason}
use Rattle.resp.specs.declared.fault.WireReason.TheVariants.{NotWhole, Content, Limit, NotClosed}
use Rattle.resp.specs.declared.fault.WireFault.{WireFault}
use Rattle.resp.specs.declared.opening.Opening.{Opening}
use Rattle.resp.specs.declared.opening.Size.{Size}
use Rattle.resp.specs.declared.item.Item.{Item}
use Rattle.resp.specs.declared.closed.Closed.{Closed}
use Rattle.resp.specs.declared.kind.Kind.{Kind}
use Rattle.resp.specs.declared.kind.Kind.TheVariants as kind
use Rattle.resp.specs.Limits.{items_most, pairs_most}
use Rattle.resp.specs.Out.{Out, ok, fault}
use Rattle.resp.specs.Reading.{judged, kind_of, begun, opening, Head, a_leaf, of_array, of_set, of_push, of_map, of_attribute}

-- a fault at the place where `at` is left of bs
abbrev pub Faulty : List ℕ → WireReason → List ℕ → WireFault → Type 0
Faulty bs k at f = (f.reason ≡ k) × (f.place ≤ length bs) × (at ≡ drop f.place bs)

-- the answer is just what the reader says of the bytes bs
abbrev pub Told : {A V : Type 0} → (A → List ℕ → V → Type 0) → List ℕ → Out A → Result V WireFault → Type 0
Told P bs (ok a rest) (Ok v) = P a rest v
Told P bs (ok a rest) (Err f) = ⊥
Told P bs (fault k at) (Ok v) = ⊥
Told P bs (fault k at) (Err f) = Faulty bs k at f

-- the answer about an item is just what the reader says of it, which is given the item from its first byte on and the bytes after that byte
abbrev pub Tells : {A V : Type 0} → (List ℕ → A → List ℕ → V → Type 0) → (List ℕ → List ℕ → Out A) → Item → Result V WireFault → Type 0
Tells P f i r = Told (P i.bytes.now) i.bytes.now (f (drop i.at i.bytes.now) (drop (i.at + 1) i.bytes.now)) r

-- what was read ends where `rest` is left of bs
abbrev pub Ends : {A : Type 0} → List ℕ → A → List ℕ → ℕ → Type 0
Ends bs a rest e = (e ≤ length bs) × (rest ≡ drop e bs)

-- what a content holds, and the bytes after its CR LF
abbrev pub held : Closed → List ℕ
held v = slice_range v.bytes.now v.from v.end

abbrev pub left_after : Closed → List ℕ
left_after v = drop (v.end + 2) v.bytes.now

-- of the bytes bs c was read and `rest` is left: they are what the content v holds, and what follows it
pub record Lines (bs c rest : List ℕ) (v : Closed) : Type 0 where
  pub bytes : v.bytes.now ≡ bs
  pub content : c ≡ held v
  pub after : rest ≡ left_after v

-- a length or a count, and where the bytes after its line start
abbrev pub Sizes : {N : Type 0} → List ℕ → N → List ℕ → Size N → Type 0
Sizes bs n rest v = (v.count ≡ n) × (v.start ≤ length bs) × (rest ≡ drop v.start bs)

-- what is said of the content c of the line of a length or a count, which the item at a place tells
abbrev pub Judged : ℕ → ℕ → List ℕ → Result ℕ WireFault → Type 0
Judged most at c (Ok n) = (s rest : List ℕ) → judged most s c rest ≡ ok n rest
Judged most at c (Err f) = (f.place ≡ at) × ((s rest : List ℕ) → judged most s c rest ≡ fault f.reason s)

-- how many replies stand right below a head
abbrev pub items_in : Head → ℕ
items_in (a_leaf l) = 0
items_in (of_array n) = n
items_in (of_set n) = n
items_in (of_push n) = n
items_in (of_map n) = 2 * n
items_in (of_attribute n) = 2 * n + 1

-- whether the first of them must be a string
abbrev pub is_push : Head → Bool
is_push (a_leaf l) = false
is_push (of_array n) = false
is_push (of_set n) = false
is_push (of_push n) = true
is_push (of_map n) = false
is_push (of_attribute n) = false

-- the kinds whose line is a count that -1 can't stand for
abbrev pub is_counted : Kind → Bool
is_counted kind.Set = true
is_counted kind.Push = true
is_counted kind.Map = true
is_counted kind.Attribute = true
is_counted _ = false

-- the most that a collection counts: pairs of a map or an attribute, items of any other
abbrev pub most_of : Kind → ℕ
most_of kind.Map = pairs_most
most_of kind.Attribute = pairs_most
most_of _ = items_most

-- the head of a collection that counts so many
abbrev pub counting : Kind → ℕ → Head
counting kind.Set n = of_set n
counting kind.Push n = of_push n
counting kind.Map n = of_map n
counting kind.Attribute n = of_attribute n
counting _ n = of_array n

-- what the code keeps of a head, and where its parts start
abbrev pub Opens : List ℕ → Head → List ℕ → Opening → Type 0
Opens bs h rest v = (v.items ≡ items_in h) × (v.named ≡ is_push h) × (v.start ≤ length bs) × (rest ≡ drop v.start bs)

-- a leaf that ends there, as an opening
abbrev pub leaf_opening : Result ℕ WireFault → Result Opening WireFault
leaf_opening (Ok e) = Ok (record { items = 0; named = false; start = e })
leaf_opening (Err f) = Err f

-- an item up to its parts, where d levels are left
abbrev pub opening_at : ℕ → List ℕ → Out Head
opening_at zero [] = fault NotWhole []
opening_at zero (b ∷ bs) = fault Limit (b ∷ bs)
opening_at (suc d) bs = opening bs

-- a byte follows, and no minus
abbrev pub no_minus : List ℕ → Bool
no_minus [] = false
no_minus (b ∷ bs) = not (b == 45)

-- the same by the item's place
abbrev pub opening_from : ℕ → List ℕ → ℕ → Out Head
opening_from d bs at =
    cond (nat_le (length bs) at) (fault NotWhole (drop (length bs) bs))
    (cond (d == 0) (fault Limit (drop at bs)) (begun (kind_of (slice_index bs at)) (drop at bs) (drop (at + 1) bs)))

-- where a body of n bytes ends, by its place
abbrev pub body_end : List ℕ → ℕ → ℕ → Result ℕ WireFault
body_end bs from n =
    cond (nat_lt (length bs - from) (n + 2)) (Err (record { reason = NotWhole; place = length bs }))
    (cond (slice_index bs (from + n) == 13 && slice_index bs (from + n + 1) == 10) (Ok (from + n)) (Err (record { reason = NotClosed; place = from + n })))

-- a push's first item, which begins at `at`, or the fault that it bears
abbrev pub named_end : Bool → ℕ → ℕ → Result ℕ WireFault
named_end string at end = cond string (Ok end) (Err (record { reason = Content; place = at }))

-- the item that begins the bytes, as the code answers it
abbrev pub opened_as : List ℕ → Out Head → Result Opening WireFault
opened_as bs (ok h rest) = Ok (record { items = items_in h; named = is_push h; start = length bs - length rest })
opened_as bs (fault k at) = Err (record { reason = k; place = length bs - length at })

abbrev pub opened : List ℕ → Result Opening WireFault
opened bs = opened_as bs (opening bs)

-- whether the bytes of a reply that was read are a string's: a plus, or a dollar that no minus follows
abbrev pub starts_string : List ℕ → Bool
starts_string [] = false
starts_string (b ∷ bs) = b == 43 || (b == 36 && no_minus bs)

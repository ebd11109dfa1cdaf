-- The nights of all huts as places of a list of `PLACES` numbers, hut by hut, and which choices are free.
use Rattle.std.specs.Prelude.{ℕ, zero, suc, ◌+◌, ◌-◌, ◌*◌, max, Bool, true, false, cond, ◌&&◌, List, take, drop, nat_le, nat_lt, slice_index, slice_set}
use Rattle.bookings.specs.Plain.{PlainStay, PlainChoice}
use Rattle.bookings.specs.declared.limits.TheConstants.{NIGHTS}

-- the place of a hut's night
abbrev pub place_of : ℕ → ℕ → ℕ
place_of hut night = hut * NIGHTS + night

abbrev pub first : PlainStay → ℕ
first s = place_of s.hut s.night

-- a place is one of the n from s on
abbrev pub inside : ℕ → ℕ → ℕ → Bool
inside s n k = nat_le s k && nat_lt k (s + n)

-- the list with each of the n numbers from the place s on replaced, by a function of its place and of the number
abbrev pub over : (ℕ → ℕ → ℕ) → List ℕ → ℕ → ℕ → List ℕ
over f xs s zero = xs
over f xs s (suc n) = slice_set (over f xs s n) (s + n) (f (s + n) (slice_index (over f xs s n) (s + n)))

abbrev pub over_stay : (ℕ → ℕ → ℕ) → List ℕ → PlainStay → List ℕ
over_stay f xs s = over f xs (first s) s.nights

-- beds are booked, and given back
abbrev pub claim : List ℕ → PlainChoice → List ℕ
claim booked c = over_stay (λ _ n. n + c.beds) booked c.stay

abbrev pub release : List ℕ → PlainChoice → List ℕ
release booked c = over_stay (λ _ n. n - c.beds) booked c.stay

-- a hut has other beds on some nights, but no fewer than are booked
abbrev pub resize : List ℕ → List ℕ → PlainChoice → List ℕ
resize beds booked c = over_stay (λ k _. max c.beds (slice_index booked k)) beds c.stay

-- the numbers of some nights, and these put back
abbrev pub numbers_on : List ℕ → PlainStay → List ℕ
numbers_on xs s = take s.nights (drop (first s) xs)

abbrev pub restore : List ℕ → PlainStay → List ℕ → List ℕ
restore beds s were = over_stay (λ k _. slice_index were (k - first s)) beds s

-- w beds are free at each of the n places from s on
abbrev pub all_free : List ℕ → List ℕ → ℕ → ℕ → ℕ → Bool
all_free beds booked s zero w = true
all_free beds booked s (suc n) w = cond (nat_le w (slice_index beds s - slice_index booked s)) (all_free beds booked (suc s) n w) false

abbrev pub is_free : List ℕ → List ℕ → PlainChoice → Bool
is_free beds booked c = all_free beds booked (first c.stay) c.stay.nights c.beds

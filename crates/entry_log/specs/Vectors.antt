-- Version vectors: for each hut the highest stamp of its entries, 0 for none.
use Rattle.std.specs.Prelude.{ℕ, zero, suc, max, Bool, true, false, cond, List, [], ◌∷◌, map, replicate, ◌==◌, nat_le, slice_index, slice_set}
use Rattle.std.specs.List.{range_with_len}
use Rattle.bookings.specs.Nights.{over}
use Rattle.bookings.specs.Plain.{PlainMark, PlainEntry}
use Rattle.bookings.specs.declared.limits.TheConstants.{HUTS}

abbrev pub highest : List PlainEntry → ℕ → ℕ
highest [] h = 0
highest (e ∷ es) h = cond (e.mark.hut == h) (max e.mark.stamp (highest es h)) (highest es h)

unfoldable pub vector_of : List PlainEntry → List ℕ
vector_of es = map (highest es) (range_with_len 0 HUTS)

-- no stamp of any hut
unfoldable pub no_stamps : List ℕ
no_stamps = replicate HUTS 0

-- a vector with a mark more
abbrev pub noted : PlainMark → List ℕ → List ℕ
noted m v = slice_set v m.hut (max (slice_index v m.hut) m.stamp)

-- of the n huts from h on, a has as high stamps as b, or higher
abbrev pub covers_from : List ℕ → List ℕ → ℕ → ℕ → Bool
covers_from a b h zero = true
covers_from a b h (suc n) = cond (nat_le (slice_index b h) (slice_index a h)) (covers_from a b (suc h) n) false

unfoldable pub covers : List ℕ → List ℕ → Bool
covers a b = covers_from a b 0 HUTS

-- for each hut the higher of two stamps
unfoldable pub joined_with : List ℕ → List ℕ → List ℕ
joined_with a b = over (λ h s. max s (slice_index b h)) a 0 HUTS

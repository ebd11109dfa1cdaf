-- The order of marks, by stamp and then by hut, and lists in that order.
use Rattle.std.specs.Prelude.{ℕ, ◌+◌, ◌≤◌, Bool, true, cond, ◌&&◌, ◌||◌, List, [], ◌∷◌, ◌==◌, nat_lt}
use Rattle.bookings.specs.Books.{same_mark}
use Rattle.bookings.specs.Plain.{PlainMark, PlainEntry}

abbrev pub before : PlainMark → PlainMark → Bool
before a b = nat_lt a.stamp b.stamp || (a.stamp == b.stamp && nat_lt a.hut b.hut)

-- each entry of a list comes behind a mark
abbrev pub all_behind : PlainMark → List PlainEntry → Bool
all_behind m [] = true
all_behind m (e ∷ es) = before m e.mark && all_behind m es

-- each entry comes behind those that stand before it
abbrev pub ascends : List PlainEntry → Bool
ascends [] = true
ascends (e ∷ es) = all_behind e.mark es && ascends es

-- how often a mark stands in a list
abbrev pub times : PlainMark → List PlainEntry → ℕ
times m [] = 0
times m (e ∷ es) = cond (same_mark m e.mark) 1 0 + times m es

-- each mark stands once
abbrev pub Once : List PlainEntry → Type 0
Once es = (m : PlainMark) → times m es ≤ 1

-- Why a call is refused: by each number the condition, in the words of logs and marks. The lowest
-- number whose condition holds is the one.
use Rattle.std.specs.Prelude.{◌≡◌, ℕ, ◌<◌, ◌≤◌, ◌⊎◌, List, length, Some, None, Option, slice_index_or, ◌≢◌}
use mathlib.Core.List.{Memᴰ}
use Rattle.bookings.specs.Books.{named_by}
use Rattle.bookings.specs.Plain.{PlainMark, PlainKind, PlainEntry}
use Rattle.entry_log.specs.Logs.{all_of}
use Rattle.network.specs.Net.{huts}
use Rattle.replica.specs.Model.{State, capacity, last_stamp, make_refusal, next_mark, take_committed_refusal, take_tentative_refusal}

-- the lowest number for which something holds
abbrev pub Lowest : (ℕ → Type 0) → ℕ → Type 0
Lowest Why n = Why n × ((m : ℕ) → m < n → Why m → ⊥)

-- a call is refused by a number just where it is the lowest whose condition holds, and is not
-- refused just where none holds
pub record ByLowest (Why : ℕ → Type 0) (refusal : Option ℕ) : Type 0 where
  pub refused : (n : ℕ) → (refusal ≡ Some n → Lowest Why n) × (Lowest Why n → refusal ≡ Some n)
  pub allowed : (refusal ≡ None → (n : ℕ) → Why n → ⊥) × (((n : ℕ) → Why n → ⊥) → refusal ≡ None)

-- an entry with a mark stands in a list
abbrev pub HasMark : PlainMark → List PlainEntry → Type 0
HasMark m es = (e : PlainEntry) × Memᴰ e es × (e.mark ≡ m)

-- there is no room: as many entries as there can be, or the stamp is the last or above it
abbrev pub NoRoom : ℕ → State → Type 0
NoRoom stamp s = (capacity ≤ length (all_of s.log)) ⊎ (last_stamp ≤ stamp)

-- a kind names a mark that no known entry has
abbrev pub NamesUnknown : PlainKind → State → Type 0
NamesUnknown k s = (m : PlainMark) × (named_by k ≡ Some m) × (HasMark m (all_of s.log) → ⊥)

-- a vector says more than is known: of some hut a stamp that no known entry of that hut comes up to
abbrev pub SaysMore : List ℕ → State → Type 0
SaysMore v s =
    (h : ℕ) × (h < huts) × (0 < slice_index_or v h 0)
    × ((e : PlainEntry) → Memᴰ e (all_of s.log) → e.mark.hut ≡ h
    → e.mark.stamp < slice_index_or v h 0)

-- an entry is to be made
abbrev pub MakeWhy : PlainKind → State → ℕ → Type 0
MakeWhy k s n = ((n ≡ 8) × NoRoom (next_mark s).stamp s) ⊎ ((n ≡ 9) × NamesUnknown k s)

-- a tentative entry is to be taken: it is known already; what stood before it is not known; there
-- is no room
abbrev pub TakeTentativeWhy : PlainEntry → List ℕ → State → ℕ → Type 0
TakeTentativeWhy e stood s n =
    ((n ≡ 3) × HasMark e.mark (all_of s.log))
    ⊎ (((n ≡ 5) × SaysMore stood s) ⊎ ((n ≡ 8) × NoRoom e.mark.stamp s))

-- a committed entry is to be taken: it is committed already; its place is not the next; there is no
-- room, and it is not known as tentative
abbrev pub TakeCommittedWhy : ℕ → PlainMark → State → ℕ → Type 0
TakeCommittedWhy place m s n =
    ((n ≡ 3) × HasMark m s.log.committed)
    ⊎ (((n ≡ 4) × (place ≢ length s.log.committed))
    ⊎ ((n ≡ 8) × NoRoom m.stamp s × (HasMark m s.log.tentative → ⊥)))

-- LAW: to make an entry, and to take a tentative or a committed one, is refused by the lowest
-- number whose condition holds, and by none just where none holds.
pub record LowestRefusal : Type 0 where
  pub make : (k : PlainKind) (s : State) → ByLowest (MakeWhy k s) (make_refusal k s)
  pub take_tentative :
      (e : PlainEntry) (stood : List ℕ) (s : State)
      → ByLowest (TakeTentativeWhy e stood s) (take_tentative_refusal e stood s)
  pub take_committed :
      (place : ℕ) (m : PlainMark) (s : State)
      → ByLowest (TakeCommittedWhy place m s) (take_committed_refusal place m s)

-- What a letter holds: items, which a replica takes one after another.
use Rattle.std.specs.Prelude.{ℕ, Bool, cond, List, [], ◌∷◌, ◌++◌, map, drop, Option}
use Rattle.bookings.specs.Plain.{PlainEntry}
use Rattle.journal.specs.History.{PlainRecord, Tentative, Committed, Kept, state_in, takes_tentative, takes_committed}
use Rattle.replica.specs.Model.{State, take_tentative_refusal, take_committed_refusal}
use Rattle.letters.specs.Items.{PlainItem, settled, waiting, placed_from}
use Rattle.replica.specs.Parcels.{PlainParcel, missing, parcel_for}

abbrev pub Letter : Type 0
Letter = List PlainItem

-- the entry that an item bears
abbrev pub entry_in : PlainItem → PlainEntry
entry_in (settled place e) = e
entry_in (waiting w) = w.entry

-- what a parcel holds, whose first committed entry has that place
abbrev pub packed : ℕ → PlainParcel → Letter
packed place p = placed_from place p.committed ++ map waiting p.tentative

-- for one who says to have so many committed entries, and of each hut all up to a stamp
abbrev pub words_for : (count : ℕ) (has : List ℕ) → Kept → Letter
words_for count has k = packed count (parcel_for count has (state_in k))

-- the same with no bound
abbrev pub all_for : (count : ℕ) (has : List ℕ) → Kept → Letter
all_for count has k = placed_from count (drop count (state_in k).log.committed) ++ map waiting (missing has (state_in k).log.committed (state_in k).log.tentative)

-- the number by which an item is refused, and the record of one that is taken
abbrev pub refusal_of : PlainItem → State → Option ℕ
refusal_of (settled place e) s = take_committed_refusal place e.mark s
refusal_of (waiting w) s = take_tentative_refusal w.entry w.stood s

abbrev pub record_of : PlainItem → PlainRecord
record_of (settled place e) = Committed e
record_of (waiting w) = Tentative w.entry

abbrev pub takes : PlainItem → Kept → Kept
takes (settled place e) k = takes_committed place e k
takes (waiting w) k = takes_tentative w.entry w.stood k

-- item after item, each judged when its turn comes
unfoldable pub items_taken : Letter → Kept → Kept
items_taken [] k = k
items_taken (w ∷ ws) k = items_taken ws (takes w k)

-- what a hut leaves of a letter for a reason of its own, by the item and what it knows when its turn comes
abbrev pub Leaves : Type 0
Leaves = PlainItem → State → Bool

-- item after item, each left, or judged when its turn comes
unfoldable pub items_but : Leaves → Letter → Kept → Kept
items_but leaves [] k = k
items_but leaves (w ∷ ws) k = items_but leaves ws (cond (leaves w (state_in k)) k (takes w k))

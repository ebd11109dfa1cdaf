-- What holds of a replica's log, in the words of logs.
use Rattle.std.specs.Prelude.{◌≡◌, ℕ, ◌+◌, ◌<◌, ◌≤◌, true, List, [], ◌∷◌, ◌++◌, length, drop, Some, slice_index_or}
use Rattle.bookings.specs.Plain.{PlainKind, PlainEntry}
use Rattle.entry_log.specs.Logs.{all_of, first_entry}
use Rattle.entry_log.specs.Order.{before, Once}
use Rattle.entry_log.specs.declared.waiting.TheConstants.{MAX_LETTER_ENTRIES}
use Rattle.replica.specs.Model.{State, made, entry_made, commits, with_committed}
use Rattle.entry_log.specs.Waits.{PlainWaiting}
use Rattle.replica.specs.Parcels.{missing, parcel_for}

-- each entry of a list comes behind those that stand before it
abbrev pub Sorted : List PlainEntry → Type 0
Sorted es = (i j : ℕ) (d : PlainEntry) → i < j → j < length es → before (slice_index_or es i d).mark (slice_index_or es j d).mark ≡ true

-- LAW: an entry that was just made stands last.
abbrev pub MadeStandsLast : Type 0
MadeStandsLast = (k : PlainKind) (s : State) → all_of (made k s).log ≡ all_of s.log ++ entry_made k s ∷ []

-- LAW: committing never changes the order of the log, nor does taking as committed what is next already.
abbrev pub CommitKeepsOrder : Type 0
CommitKeepsOrder =
    (s : State) → Once (all_of s.log)
    → (all_of (commits s).log ≡ all_of s.log) × ((e : PlainEntry) → first_entry s.log.tentative ≡ Some e → all_of (with_committed e s).log ≡ all_of s.log)

-- LAW: what is handed on is as many entries as a letter can have, at most.
abbrev pub ParcelIsSmall : Type 0
ParcelIsSmall = (from : ℕ) (has : List ℕ) (s : State) → length (parcel_for from has s).committed + length (parcel_for from has s).tentative ≤ MAX_LETTER_ENTRIES

-- LAW: what is handed on has everything up to where it stops: the committed entries from the place on without a gap, and, only where these
-- are all, of the tentative entries that are missing the first so many.
abbrev pub ParcelHasNoGap : Type 0
ParcelHasNoGap =
    (from : ℕ) (has : List ℕ) (s : State)
    → ((rest : List PlainEntry) × (drop from s.log.committed ≡ (parcel_for from has s).committed ++ rest))
    × ((rest : List PlainWaiting) × (missing has s.log.committed s.log.tentative ≡ (parcel_for from has s).tentative ++ rest))
    × (0 < length (parcel_for from has s).tentative → (parcel_for from has s).committed ≡ drop from s.log.committed)

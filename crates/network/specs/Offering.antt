-- What a letter offers to one who says to have so many committed entries, and of each hut all up to
-- a stamp: just what that one lacks.
use Rattle.std.specs.Prelude.{◌≡◌, ℕ, ◌<◌, ◌≤◌, List, [], ◌∷◌, ◌++◌, map, length, take, slice_index_or}
use mathlib.Core.List.{Memᴰ}
use Rattle.bookings.specs.Plain.{PlainEntry}
use Rattle.entry_log.specs.Order.{Once}
use Rattle.entry_log.specs.Vectors.{vector_of}
use Rattle.entry_log.specs.Waits.{PlainWaiting}
use Rattle.entry_log.specs.declared.waiting.TheConstants.{MAX_LETTER_ENTRIES}
use Rattle.journal.specs.History.{Kept}
use Rattle.letters.specs.Items.{settled, waiting}
use Rattle.network.specs.Items.{all_for, entry_in, words_for}
use Rattle.network.specs.Replicas.{committed_in, entries_in, tentative_in}

-- a committed entry at its place, which is not among the first so many
abbrev pub CommittedBehind : ℕ → Kept → ℕ → PlainEntry → Type 0
CommittedBehind count k place e =
    (count ≤ place) × (place < length (committed_in k))
    × (slice_index_or (committed_in k) place e ≡ e)

-- a tentative entry with a stamp above the vector's for its hut, and the vector of all that stands
-- in front of it in the log
abbrev pub TentativeAbove : List ℕ → Kept → PlainWaiting → Type 0
TentativeAbove has k w =
    (front : List PlainEntry) × (back : List PlainEntry)
    × (tentative_in k ≡ front ++ w.entry ∷ back)
    × (slice_index_or has w.entry.mark.hut 0 < w.entry.mark.stamp)
    × (w.stood ≡ vector_of (committed_in k ++ front))

-- a list is another with some of its elements left out
pub data PartOf : List PlainEntry → List PlainEntry → Type 0 where
  none : PartOf [] []
  kept : {e : PlainEntry} {es fs : List PlainEntry} → PartOf es fs → PartOf (e ∷ es) (e ∷ fs)
  left : {e : PlainEntry} {es fs : List PlainEntry} → PartOf es fs → PartOf es (e ∷ fs)

pub record Offers (count : ℕ) (has : List ℕ) (k : Kept) : Type 0 where
  pub committed :
      (place : ℕ) (e : PlainEntry)
      → (Memᴰ (settled place e) (all_for count has k) → CommittedBehind count k place e)
      × (CommittedBehind count k place e → Memᴰ (settled place e) (all_for count has k))
  pub tentative :
      (w : PlainWaiting)
      → (Memᴰ (waiting w) (all_for count has k) → TentativeAbove has k w)
      × (TentativeAbove has k w → Memᴰ (waiting w) (all_for count has k))
  pub in_order : PartOf (map entry_in (all_for count has k)) (entries_in k)
  pub once : Once (entries_in k) → Once (map entry_in (all_for count has k))
  pub first : words_for count has k ≡ take MAX_LETTER_ENTRIES (all_for count has k)

-- LAW: with no bound a letter offers just the committed entries from a place on, each with its
-- place, and just the tentative ones that a vector lacks, each with the vector of all that stands
-- in front of it; in the log's order, each once; and it is the first 1,024 of these.
abbrev pub OffersWhatLacks : Type 0
OffersWhatLacks = (count : ℕ) (has : List ℕ) (k : Kept) → Offers count has k

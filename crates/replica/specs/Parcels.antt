-- What a replica hands on to one that says what it has.
use Rattle.std.specs.Prelude.{ℕ, ◌-◌, cond, List, [], ◌∷◌, ◌++◌, length, take, drop, nat_le, slice_index}
use Rattle.bookings.specs.Plain.{PlainEntry}
use Rattle.entry_log.specs.Vectors.{vector_of}
use Rattle.entry_log.specs.Waits.{PlainWaiting}
use Rattle.entry_log.specs.declared.waiting.TheConstants.{MAX_LETTER_ENTRIES}
use Rattle.replica.specs.Model.{State}

-- the entries of a list that a vector does not reach, where others stand before the list
abbrev pub missing : List ℕ → List PlainEntry → List PlainEntry → List PlainWaiting
missing has before [] = []
missing has before (e ∷ es) =
    cond (nat_le e.mark.stamp (slice_index has e.mark.hut)) (missing has (before ++ e ∷ []) es)
    (record { entry = e; stood = vector_of before } ∷ missing has (before ++ e ∷ []) es)

-- one entry more of them, where the vector does not reach it and there is room
abbrev pub offered : List ℕ → ℕ → PlainEntry → List ℕ → List PlainWaiting → List PlainWaiting
offered has room e stood ws =
    cond (nat_le room (length ws)) ws (cond (nat_le e.mark.stamp (slice_index has e.mark.hut)) ws (ws ++ record { entry = e; stood = stood } ∷ []))

-- as many entries as a letter can have, at most: the committed entries from a place on, and then the tentative ones that are missing, in the log's order
pub record PlainParcel : Type 0 where
  pub committed : List PlainEntry
  pub tentative : List PlainWaiting

unfoldable pub parcel_of : ℕ → List ℕ → List PlainEntry → List PlainEntry → PlainParcel
parcel_of from has committed tentative =
    record { committed = take MAX_LETTER_ENTRIES (drop from committed); tentative = take (MAX_LETTER_ENTRIES - length (take MAX_LETTER_ENTRIES (drop from committed))) (missing has committed tentative) }

abbrev pub parcel_for : ℕ → List ℕ → State → PlainParcel
parcel_for from has s = parcel_of from has s.log.committed s.log.tentative

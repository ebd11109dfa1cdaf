-- What a log has with one more record.
use Rattle.std.proofs.Common.{◌≡◌, ◌⊎◌, List, [], ◌∷◌, ◌++◌, inl, inr}
use mathlib.Core.List.Memᴰ
use Rattle.bookings.specs.Plain.{PlainEntry}
use Rattle.journal.specs.History.{Committed, PlainRecord, Tentative}
use Rattle.entry_log.specs.Logs.{into, without}
use Rattle.network.specs.Replicas.{committed_of, entries_of, tentative_of}
use Rattle.network.proofs.Lists.{stands}
use Rattle.network.proofs.Marks.{◌∈◌, ◌⊆◌, by_mark}
use Rattle.network.proofs.Putting.{into-has, into_keeps, into_only, without_keeps, without_only}

-- the entry of a record
abbrev pub entry_of : PlainRecord → PlainEntry
entry_of (Tentative e) = e
entry_of (Committed e) = e

-- what a log has with one more record
pub log_only : (r : PlainRecord) (rs : List PlainRecord) (k : PlainEntry) → k ∈ entries_of (r ∷ rs) → (k ≡ entry_of r) ⊎ (k ∈ entries_of rs)
log_only (Tentative e) rs k m =
    elim (Memᴰ.append_cases (committed_of rs) m) [
      | inl u ↦ inr (Memᴰ.append_left (tentative_of rs) u)
      | inr u ↦ elim (into_only e k (tentative_of rs) u) [ inl q ↦ inl q | inr q ↦ inr (Memᴰ.append_right (committed_of rs) q) ]
    ]
log_only (Committed e) rs k m =
    elim (Memᴰ.append_cases (committed_of rs ++ (e ∷ [])) m) [
      | inl u ↦ elim (Memᴰ.append_cases (committed_of rs) u) [ inl q ↦ inr (Memᴰ.append_left (tentative_of rs) q) | inr q ↦ inl (Memᴰ.eq_of_singleton q) ]
      | inr u ↦ inr (Memᴰ.append_right (committed_of rs) (without_only e.mark k (tentative_of rs) u).0)
    ]

pub log_new : (r : PlainRecord) (rs : List PlainRecord) → entry_of r ∈ entries_of (r ∷ rs)
log_new (Tentative e) rs = Memᴰ.append_right (committed_of rs) (into-has e (tentative_of rs))
log_new (Committed e) rs = Memᴰ.append_left (without e.mark (tentative_of rs)) (stands e (committed_of rs) [])

-- a tentative record takes nothing away
pub log_old : (e : PlainEntry) (rs : List PlainRecord) → entries_of rs ⊆ entries_of (Tentative e ∷ rs)
log_old e rs k m =
    elim (Memᴰ.append_cases (committed_of rs) m) [
      | inl u ↦ Memᴰ.append_left (into e (tentative_of rs)) u
      | inr u ↦ Memᴰ.append_right (committed_of rs) (into_keeps e k (tentative_of rs) u)
    ]

-- a committed record takes away what has its mark, and nothing else
pub log_other : (e : PlainEntry) (rs : List PlainRecord) (k : PlainEntry) → (k.mark ≡ e.mark → ⊥) → k ∈ entries_of rs → k ∈ entries_of (Committed e ∷ rs)
log_other e rs k other m =
    elim (Memᴰ.append_cases (committed_of rs) m) [
      | inl u ↦ Memᴰ.append_left (without e.mark (tentative_of rs)) (Memᴰ.append_left (e ∷ []) u)
      | inr u ↦ Memᴰ.append_right (committed_of rs ++ (e ∷ [])) (without_keeps e.mark k (tentative_of rs) u other)
    ]

-- nothing at all, where whatever is known with its mark is its entry
pub log-committed :
    (e : PlainEntry) (rs : List PlainRecord) → ((k : PlainEntry) → k ∈ entries_of rs → k.mark ≡ e.mark → k ≡ e) → entries_of rs ⊆ entries_of (Committed e ∷ rs)
log-committed e rs same k m =
    elim (by_mark k.mark e.mark) [
      | inl p ↦ rw (same k m p.0) (log_new (Committed e) rs)
      | inr p ↦ log_other e rs k p.0 m
    ]

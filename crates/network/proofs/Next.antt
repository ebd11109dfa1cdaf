-- A replica lacks nothing of another, or the first item that it lacks is taken, and the rest is then lacking.
use Rattle.std.proofs.Common.{◌≡◌, ℕ, ◌<◌, ◌≤◌, List, [], ◌∷◌, ◌++◌, map, length, get_or, drop, refl, ap, ap₂, inl, inr, arith, length-drop}
use Rattle.bookings.specs.Plain.{PlainEntry}
use Rattle.journal.specs.History.{PlainRecord}
use Rattle.entry_log.specs.Vectors.{vector_of}
use Rattle.replica.specs.Model.{capacity}
use Rattle.entry_log.specs.Waits.{PlainWaiting}
use Rattle.letters.specs.Items.{placed_from, waiting}
use Rattle.network.specs.Net.{Net}
use Rattle.network.specs.Replicas.{committed_of, entries_of, tentative_of}
use Rattle.network.proofs.Holds.{Holds, histories}
use Rattle.network.proofs.Lacking.{Ahead, CaughtUp, committed-within, tentative-within}
use Rattle.network.proofs.Lists.{by_append}
use Rattle.network.proofs.Marks.{◌∈◌}
use Rattle.network.proofs.Missing.{missing-first}
use Rattle.network.proofs.NextSettled.{settled_next}
use Rattle.network.proofs.NextWaiting.{waiting_next}

pub next : {every : List PlainEntry} (n : Net) → Holds every n → length every < capacity → (i j : ℕ) → Ahead (n.hut i) (n.hut j)
next n I few i j = go (drop (length (committed_of mine)) (committed_of theirs)) refl
  where
    theirs : List PlainRecord
    theirs = histories n i

    mine : List PlainRecord
    mine = histories n j

    caught :
        length (committed_of (histories n i)) ≤ length (committed_of (histories n j))
        → ((k : PlainEntry) → k ∈ tentative_of (histories n i) → k.mark.stamp ≤ get_or (vector_of (entries_of (histories n j))) k.mark.hut 0)
        → CaughtUp (n.hut i) (n.hut j)
    caught short all = (short, λ k d. by_append (committed_of theirs) d (committed-within n I i j short k) (λ o. tentative-within n I i j k o (all k o)))

    go : (l : List PlainEntry) → drop (length (committed_of (histories n j))) (committed_of (histories n i)) ≡ l → Ahead (n.hut i) (n.hut j)
    go (e ∷ back) q = inr (settled_next n I few i j e back q)
    go [] q =
        let short : length (committed_of theirs) ≤ length (committed_of mine) = omega (arith, ap length q, length-drop (length (committed_of mine)) (committed_of theirs)) in
        elim (missing-first (vector_of (entries_of mine)) (committed_of theirs) (tentative_of theirs)) [
          | inl p ↦ inl (ap₂ (λ (l : List PlainEntry) (ws : List PlainWaiting). placed_from (length (committed_of mine)) l ++ map waiting ws) q p.0, caught short p.1)
          | inr f ↦ inr (waiting_next n I few i j short f)
        ]

-- All that a replica lacks of another, and what of it is known by marks and by vectors.
use Rattle.std.proofs.Common.{◌≡◌, ℕ, ◌<◌, ◌≤◌, ◌⊎◌, List, [], ◌∷◌, length, get_or, None, sym, ◌∙◌, subst, ap₂, inl, inr, arith}
use mathlib.Core.List.Memᴰ
use Rattle.bookings.specs.Plain.{PlainEntry}
use Rattle.journal.specs.History.{Kept, PlainRecord, history_of, state_in}
use Rattle.entry_log.proofs.Stamps.{vector_at}
use Rattle.entry_log.specs.Vectors.{vector_of}
use Rattle.replica.specs.Parcels.{missing}
use Rattle.letters.specs.Items.{PlainItem}
use Rattle.network.specs.Items.{Letter, all_for, refusal_of, takes}
use Rattle.network.specs.Net.{Net}
use Rattle.network.specs.Replicas.{committed_in, committed_of, entries_in, entries_of, tentative_of, vector_in}
use Rattle.network.proofs.Holds.{Holds, histories, huts_of}
use Rattle.network.proofs.Knowing.{known_here, known_number}
use Rattle.network.proofs.Logs.{entry_of, log_only}
use Rattle.network.proofs.Marks.{◌∈◌, ◌⊆◌}
use Rattle.network.proofs.Missing.{missing_same, reach_same}
use Rattle.network.proofs.Parts.{prefix_full}
use Rattle.network.proofs.Room.{known_own}
use Rattle.network.proofs.Safety.{order_in}

-- all that replica b lacks of replica a
abbrev pub lacking_in : Kept → Kept → Letter
lacking_in a b = all_for (length (committed_in b)) (vector_in b) a

-- the same by their records
pub lacking_by : (a b c d : Kept) → history_of a ≡ history_of b → history_of c ≡ history_of d → lacking_in a c ≡ lacking_in b d
lacking_by a b c d p q = ap₂ (λ (rs ss : List PlainRecord). lacking_in (record { hut = 0; pending = []; durable = rs }) (record { hut = 0; pending = []; durable = ss })) p q

-- b knows all that a knows, and has as many committed
abbrev pub CaughtUp : Kept → Kept → Type 0
CaughtUp a b = (length (committed_in a) ≤ length (committed_in b)) × (entries_in a ⊆ entries_in b)

-- there is a first item, it is taken, and the rest is then lacking
pub record Following (a b : Kept) : Type 0 where
  pub w : PlainItem
  pub ws : Letter
  pub is : lacking_in a b ≡ w ∷ ws
  pub taken : refusal_of w (state_in b) ≡ None
  pub left : lacking_in a (takes w b) ≡ ws

abbrev pub Ahead : Kept → Kept → Type 0
Ahead a b = ((lacking_in a b ≡ []) × CaughtUp a b) ⊎ Following a b

module _ {every : List PlainEntry} (n : Net) (I : Holds every n) (i j : ℕ) where
  -- the records of hut i, which has the entries, and of hut j
  abbrev theirs : List PlainRecord
  theirs = histories n i

  abbrev mine : List PlainRecord
  mine = histories n j

  -- what hut i has as committed hut j has too, if it has as many
  pub committed-within : length (committed_of theirs) ≤ length (committed_of mine) → committed_of theirs ⊆ entries_of mine
  committed-within l k d =
      Memᴰ.append_left (tentative_of mine) (elim (order_in n I i j) [
        | inl p ↦ subst (λ (x : List PlainEntry). k ∈ x) (sym p.1) (Memᴰ.append_left p.0 d)
        | inr p ↦ subst (λ (x : List PlainEntry). k ∈ x) (prefix_full (committed_of mine) (committed_of theirs) p l) d
      ])

  -- a tentative entry of hut i up to the stamp that hut j has of its hut is known to j
  pub tentative-within : (k : PlainEntry) → k ∈ tentative_of theirs → k.mark.stamp ≤ get_or (vector_of (entries_of mine)) k.mark.hut 0 → k ∈ entries_of mine
  tentative-within k d l =
      let known = Memᴰ.append_right (committed_of theirs) d in
      let w = known_here (huts_of n I) i k known in
      known_number (huts_of n I) j k w.0 w.1 (omega (arith, vector_at (entries_of mine) k.mark.hut (known_own n I i k known).0))

  -- what stays lacking: entries of hut i that no new one of its hut comes up to
  pub missing_stays :
      (e : PlainEntry) (r : PlainRecord) → entry_of r ≡ e → entries_of mine ⊆ entries_of (r ∷ mine) → (ahead l : List PlainEntry) → l ⊆ entries_of theirs
      → ((k : PlainEntry) → k ∈ l → e.mark.hut ≡ k.mark.hut → e.mark.stamp < k.mark.stamp)
      → missing (vector_of (entries_of (r ∷ mine))) ahead l ≡ missing (vector_of (entries_of mine)) ahead l
  missing_stays e r q keeps ahead l sub above =
      sym (missing_same (vector_of (entries_of mine)) (vector_of (entries_of (r ∷ mine))) ahead l
      (λ k d. reach_same (entries_of mine) (entries_of (r ∷ mine)) e k keeps
      (λ x m. elim (log_only r mine x m) [ inl u ↦ Memᴰ.head (u ∙ q) | inr u ↦ Memᴰ.tail u ]) (known_own n I i k (sub k d)).0 (above k d)))

-- What a hut has learned by a letter: what is durable where it comes from.
use Rattle.std.proofs.Common.{◌≡◌, ℕ, ◌≤◌, ◌⊎◌, List, [], ◌∷◌, length, sym, refl, ap, subst, inl, inr, arith, length-append}
use mathlib.Core.List.Memᴰ
use mathlib.Core.List.{Memᴰ}
use Rattle.bookings.specs.Plain.{PlainEntry}
use Rattle.journal.specs.History.{Committed, Kept, Tentative, history_of, state_in, wrote}
use Rattle.replica.specs.Model.{take_committed_refusal, take_tentative_refusal}
use Rattle.letters.specs.Items.{PlainItem, settled, waiting}
use Rattle.network.specs.Items.{Leaves, Letter, items_but, items_taken, takes}
use Rattle.network.specs.Net.{Net, take_nth, take_nth_but}
use Rattle.network.specs.Replicas.{committed_of, entries_of, tentative_of}
use Rattle.network.proofs.Holds.{Holds, Said, durables, durably, histories, so_far}
use Rattle.network.proofs.Lists.{stands}
use Rattle.network.proofs.Logs.{log_new, log_only}
use Rattle.network.proofs.Marks.{◌∈◌}
use Rattle.network.proofs.Parts.{Older, older_one, older_self, older_trans}
use Rattle.network.proofs.Refusals.{committed_allowed, unless_by}
use Rattle.network.proofs.Taking.{take_nth_all, take_nth_some}
use Rattle.network.proofs.Tests.{cond_by}
use Rattle.network.proofs.Valid.{Made, log_older, valid_older}

-- no more is committed than was, or than is durably so in some hut
abbrev pub Far : Net → ℕ → Kept → Type 0
Far n i r =
    (length (committed_of (history_of r)) ≡ length (so_far n i)) ⊎ ((h : ℕ) × (length (committed_of (history_of r)) ≤ length (durably n h)))

-- records were added, none is durable yet; each entry was known, or is durable in some hut
pub record Learned (n : Net) (i : ℕ) (r : Kept) : Type 0 where
  pub old : Older (histories n i) (history_of r)
  pub kept : r.durable ≡ durables n i
  pub from : (k : PlainEntry) → k ∈ entries_of (history_of r) → (k ∈ entries_of (histories n i)) ⊎ ((h : ℕ) × (k ∈ entries_of (durables n h)))
  pub far : Far n i r

module _ {every : List PlainEntry} (n : Net) (I : Holds every n) (i : ℕ) where
  nothing : Learned n i (n.hut i)
  nothing = record { old = older_self (histories n i); kept = refl; from = λ k m. inl m; far = inl refl }

  -- what is made durably is known durably where it was made
  made_known : (e : PlainEntry) (older : List _) → Made (durables n) e older → e ∈ entries_of (durables n e.mark.hut)
  made_known e older m =
      let h = e.mark.hut in
      log_older every (durables n) h (Tentative e ∷ older) (durables n h) m (valid_older every (durables n) h (durables n h) (histories n h) ((n.hut h).pending, refl) (I.valid h)) e
      (log_new (Tentative e) older)

  takes_learned : (r : Kept) → Learned n i r → (w : PlainItem) → Said (durables n) w → Learned n i (takes w r)
  takes_learned r L (waiting w) s =
      unless_by (Learned n i) (take_tentative_refusal w.entry w.stood (state_in r)) r (wrote (Tentative w.entry) r)
      (λ _.
      record {
        old = older_trans (histories n i) (history_of r) (Tentative w.entry ∷ history_of r) L.old (older_one (Tentative w.entry) (history_of r));
        kept = L.kept;
        from = λ k m. elim (log_only (Tentative w.entry) (history_of r) k m) [
          | inl q ↦ inr (w.entry.mark.hut, Memᴰ.cast q (made_known w.entry s.0 s.1))
          | inr u ↦ L.from k u
        ];
        far = L.far;
      })
      L
  takes_learned r L (settled p e) s =
      unless_by (Learned n i) (take_committed_refusal p e.mark (state_in r)) r (wrote (Committed e) r)
      (λ q.
      let c = committed_of (history_of r) in
      record {
        old = older_trans (histories n i) (history_of r) (Committed e ∷ history_of r) L.old (older_one (Committed e) (history_of r));
        kept = L.kept;
        from = λ k m. elim (log_only (Committed e) (history_of r) k m) [
          | inl is ↦ inr (s.0, Memᴰ.cast is (Memᴰ.append_left (tentative_of (durables n s.0)) (subst (λ (l : List PlainEntry). e ∈ l) (sym s.1.2) (stands e s.1.0 s.1.1))))
          | inr u ↦ L.from k u
        ];
        far =
            inr (
              s.0,
              omega (arith, length-append c (e ∷ []), (committed_allowed p e.mark (state_in r) q).1, s.1.3, ap length s.1.2, length-append s.1.0 (e ∷ s.1.1)),
            );
      })
      L

  all_learned : (l : Letter) → ((w : PlainItem) → Memᴰ w l → Said (durables n) w) → (r : Kept) → Learned n i r → Learned n i (items_taken l r)
  unfolding items_taken
  all_learned [] s r L = L
  all_learned (w ∷ ws) s r L = all_learned ws (λ x m. s x (Memᴰ.tail m)) (takes w r) (takes_learned r L w (s w (Memᴰ.head refl)))

  some_learned :
      (leaves : Leaves) (l : Letter) → ((w : PlainItem) → Memᴰ w l → Said (durables n) w) → (r : Kept) → Learned n i r → Learned n i (items_but leaves l r)
  unfolding items_but
  some_learned leaves [] s r L = L
  some_learned leaves (w ∷ ws) s r L =
      some_learned leaves ws (λ x m. s x (Memᴰ.tail m)) _
      (cond_by (Learned n i) (leaves w (state_in r)) r (takes w r) (λ _. L) (λ _. takes_learned r L w (s w (Memᴰ.head refl))))

  -- any letter ever written, and any of it
  pub letter_learned : (k : ℕ) → Learned n i (take_nth k n.sent (n.hut i))
  letter_learned k = take_nth_all (Learned n i) k n.sent (n.hut i) nothing (λ l m. all_learned l (I.said l m) (n.hut i) nothing)

  pub part_learned : (leaves : Leaves) (k : ℕ) → Learned n i (take_nth_but leaves k n.sent (n.hut i))
  part_learned leaves k = take_nth_some (Learned n i) leaves k n.sent (n.hut i) nothing (λ l m. some_learned leaves l (I.said l m) (n.hut i) nothing)

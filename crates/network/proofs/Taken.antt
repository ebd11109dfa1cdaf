-- What a replica has when it has taken a letter.
use Rattle.std.proofs.Common.{◌≡◌, ℕ, ◌<◌, ◌≤◌, [], ◌∷◌, length, None, Option, sym, refl, ap, subst, inl, inr, arith, length-append}
use mathlib.Core.List.{Memᴰ}
use Rattle.bookings.specs.Plain.{PlainEntry}
use Rattle.journal.specs.History.{Committed, Kept, Tentative, history_of, state_in, unless, wrote}
use Rattle.replica.specs.Model.{take_committed_refusal, take_tentative_refusal}
use Rattle.letters.specs.Items.{PlainItem, settled, waiting}
use Rattle.network.specs.Items.{Letter, record_of, refusal_of, items_taken, takes}
use Rattle.network.specs.Replicas.{committed_in, entries_in}
use Rattle.network.proofs.Letters.{in_item}
use Rattle.network.proofs.Logs.{log_only}
use Rattle.network.proofs.Marks.{◌∈◌}
use Rattle.network.proofs.Parts.{Older, older_one, older_self, older_trans}
use Rattle.network.proofs.Refusals.{committed_allowed, unless_by}

-- an item is taken or left
pub takes_by : (Q : Kept → Type 0) (w : PlainItem) (k : Kept) → Q (wrote (record_of w) k) → Q k → Q (takes w k)
takes_by Q (settled p e) k a b = unless_by Q (take_committed_refusal p e.mark (state_in k)) k (wrote (Committed e) k) (λ _. a) b
takes_by Q (waiting w) k a b = unless_by Q (take_tentative_refusal w.entry w.stood (state_in k)) k (wrote (Tentative w.entry) k) (λ _. a) b

pub takes-taken : (w : PlainItem) (k : Kept) → refusal_of w (state_in k) ≡ None → takes w k ≡ wrote (record_of w) k
takes-taken (settled p e) k q = ap (λ (o : Option ℕ). unless o k (wrote (Committed e) k)) q
takes-taken (waiting w) k q = ap (λ (o : Option ℕ). unless o k (wrote (Tentative w.entry) k)) q

-- records are only added
pub take_all_older : (l : Letter) (k : Kept) → Older (history_of k) (history_of (items_taken l k))
unfolding items_taken
take_all_older [] k = older_self (history_of k)
take_all_older (w ∷ ws) k =
    older_trans (history_of k) (history_of (takes w k)) (history_of (items_taken ws (takes w k)))
    (takes_by (λ x. Older (history_of k) (history_of x)) w k (older_one (record_of w) (history_of k)) (older_self (history_of k))) (take_all_older ws (takes w k))

-- what holds of all that was known, and of all in the letter, holds of all that is then known
pub take_all_all :
    (P : PlainEntry → Type 0) (l : Letter) (k : Kept) → ((w : PlainItem) → Memᴰ w l → P (in_item w)) → ((e : PlainEntry) → e ∈ entries_in k → P e)
    → (e : PlainEntry) → e ∈ entries_in (items_taken l k) → P e
unfolding items_taken
take_all_all P [] k said known = known
take_all_all P (w ∷ ws) k said known =
    take_all_all P ws (takes w k) (λ x m. said x (Memᴰ.tail m))
    (takes_by (λ x. (e : PlainEntry) → e ∈ entries_in x → P e) w k
    (λ e d. elim (log_only (record_of w) (history_of k) e d) [ inl q ↦ subst P (sym q) (said w (Memᴰ.head refl)) | inr q ↦ known e q ]) known)

-- a replica that takes items whose places are below a number has no more committed than that
pub take_all_short :
    (most : ℕ) (l : Letter) (k : Kept) → ((p : ℕ) (e : PlainEntry) → Memᴰ (settled p e) l → p < most) → length (committed_in k) ≤ most
    → length (committed_in (items_taken l k)) ≤ most
unfolding items_taken
take_all_short most [] k low le = le
take_all_short most (w ∷ ws) k low le = take_all_short most ws (takes w k) (λ p e m. low p e (Memᴰ.tail m)) (one w (λ p e q. low p e (Memᴰ.head q)))
  where
    one : (w : PlainItem) → ((p : ℕ) (e : PlainEntry) → settled p e ≡ w → p < most) → length (committed_in (takes w k)) ≤ most
    one (settled p e) below =
        unless_by (λ (x : Kept). length (committed_in x) ≤ most) (take_committed_refusal p e.mark (state_in k)) k (wrote (Committed e) k)
        (λ q. omega (arith, below p e refl, (committed_allowed p e.mark (state_in k) q).1, length-append (committed_in k) (e ∷ []))) le
    one (waiting x) below = unless_by (λ (x : Kept). length (committed_in x) ≤ most) (take_tentative_refusal x.entry x.stood (state_in k)) k (wrote (Tentative x.entry) k) (λ _. le) le

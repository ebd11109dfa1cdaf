-- Walks and commits lose nothing, and bring nothing that was not known somewhere.
use Rattle.std.proofs.Common.{◌≡◌, ℕ, ltb, List, [], ◌∷◌, length, Some, None, Option, sym, refl, subst, inl, inr}
use mathlib.Core.List.Memᴰ
use mathlib.Core.List.{Memᴰ}
use Rattle.bookings.specs.Plain.{PlainEntry}
use Rattle.journal.specs.History.{Committed, Kept, commits, commits_entry, history_of, state_in, synced}
use Rattle.entry_log.specs.Logs.{first_entry}
use Rattle.letters.specs.Items.{PlainItem, settled, waiting}
use Rattle.replica.specs.Model.{is_primary}
use Rattle.network.specs.Items.{entry_in}
use Rattle.network.specs.Lasting.{Somewhere}
use Rattle.network.specs.Net.{Commits, Net, Takes, Writes, among, huts, step, with_hut}
use Rattle.network.specs.Promise.{exchange}
use Rattle.network.specs.Replicas.{committed_in, entries_in, entries_of, tentative_in, vector_in}
use Rattle.network.specs.Walks.{Commit, Move, Walk, move, moved}
use Rattle.network.proofs.Exchange.{exchange_becomes}
use Rattle.network.proofs.Holds.{Becomes, Holds, becomes_trans, histories, stays}
use Rattle.network.proofs.Lasting.{said_known}
use Rattle.network.proofs.Leading.{put_all}
use Rattle.network.proofs.Letters.{in_item}
use Rattle.network.proofs.Logs.{log_only}
use Rattle.network.proofs.Marks.{◌∈◌}
use Rattle.network.proofs.Parts.{Older, older_one, older_self, older_trans}
use Rattle.network.proofs.Steps.{step_becomes}
use Rattle.network.proofs.Taken.{take_all_all, take_all_older}
use Rattle.network.proofs.Taking.{take_nth_all}
use Rattle.network.proofs.Tests.{cond_by}

-- what holds of a net after every list of events is kept
pub move_becomes : {every : List PlainEntry} (m : Move) (n : Net) → Holds every n
    → Becomes every n (move m n)
move_becomes (Walk i j) n I = exchange_becomes n I i j
move_becomes (Commit i) n I = step_becomes (Commits i) n I

pub moved_becomes : {every : List PlainEntry} (ms : List Move) (n : Net) → Holds every n
    → Becomes every n (moved ms n)
unfolding moved
moved_becomes [] n I = stays n I
moved_becomes (m ∷ ms) n I =
    let b = move_becomes m n I in
    becomes_trans n (move m n) (moved ms (move m n)) b (moved_becomes ms (move m n) b.holds)

-- one hut has another replica, or none has: what is kept of the hut's records, and what is known
abbrev Keeps : Net → Net → Type 0
Keeps n m = (x : ℕ) → Older (histories n x) (histories m x)

abbrev Knows : Net → Net → Type 0
Knows n m = (x : ℕ) (k : PlainEntry) → k ∈ entries_of (histories m x) → Somewhere n k

keeps_none : (n : Net) → Keeps n n
keeps_none n x = older_self (histories n x)

knows_none : (n : Net) → Knows n n
knows_none n x k d = (x, d)

keeps_hut : (n : Net) (i : ℕ) (y : Kept) → Older (histories n i) (history_of y)
    → Keeps n (with_hut i y n)
keeps_hut n i y older =
    put_all (λ x k. Older (histories n x) (history_of k)) i y n.hut older (keeps_none n)

knows_hut : (n : Net) (i : ℕ) (y : Kept) → ((k : PlainEntry) → k ∈ entries_in y → Somewhere n k)
    → Knows n (with_hut i y n)
knows_hut n i y known =
    put_all (λ x y. (k : PlainEntry) → k ∈ entries_in y → Somewhere n k) i y n.hut known
    (knows_none n)

keeps_among : (n : Net) (i : ℕ) (m : Net) → Keeps n m → Keeps n (among i m n)
keeps_among n i m s = cond_by (Keeps n) (ltb i huts) m n (λ _. s) (λ _. keeps_none n)

knows_among : (n : Net) (i : ℕ) (m : Net) → Knows n m → Knows n (among i m n)
knows_among n i m s = cond_by (Knows n) (ltb i huts) m n (λ _. s) (λ _. knows_none n)

-- what a hut writes of, or commits, it knows; and what is in a letter, its maker
commits_older : (k : Kept) → Older (history_of k) (history_of (commits k))
commits_older k =
    cond_by (λ (y : Kept). Older (history_of k) (history_of y)) (is_primary (state_in k))
    (commits_entry (first_entry (tentative_in k)) k) k (λ _. one (first_entry (tentative_in k)))
    (λ _. older_self (history_of k))
  where
    one : (o : Option PlainEntry) → Older (history_of k) (history_of (commits_entry o k))
    one None = older_self (history_of k)
    one (Some e) = older_one (Committed e) (history_of k)

commits_known : (n : Net) (i : ℕ) (k : PlainEntry) → k ∈ entries_in (commits (n.hut i))
    → Somewhere n k
commits_known n i k =
    cond_by (λ (y : Kept). k ∈ entries_in y → Somewhere n k) (is_primary (state_in (n.hut i)))
    (commits_entry (first_entry (tentative_in (n.hut i))) (n.hut i)) (n.hut i)
    (λ _. one (tentative_in (n.hut i)) refl) (λ _ d. (i, d))
  where
    one : (ts : List PlainEntry) → tentative_in (n.hut i) ≡ ts
        → k ∈ entries_in (commits_entry (first_entry ts) (n.hut i)) → Somewhere n k
    one [] q d = (i, d)
    one (e ∷ ts) q d = elim (log_only (Committed e) (histories n i) k d) [
      | inl p ↦ (
        i,
        Memᴰ.append_right (committed_in (n.hut i))
            (subst (λ (l : List PlainEntry). k ∈ l) (sym q) (Memᴰ.head p)),
      )
      | inr o ↦ (i, o)
    ]

-- the entry of an item is that of its record
item_entry : (w : PlainItem) → entry_in w ≡ in_item w
item_entry (settled p e) = refl
item_entry (waiting w) = refl

takes_keeps : (n : Net) (j nth : ℕ) → Keeps n (step (Takes j nth) n)
takes_keeps n j nth =
    keeps_among n j _ (keeps_hut n j _
    (take_nth_all (λ y. Older (histories n j) (history_of y)) nth n.sent (n.hut j)
    (older_self (histories n j)) (λ l m. take_all_older l (n.hut j))))

takes_knows : {every : List PlainEntry} (n : Net) → Holds every n → (j nth : ℕ)
    → Knows n (step (Takes j nth) n)
takes_knows n I j nth =
    knows_among n j _ (knows_hut n j _
    (take_nth_all (λ y. (k : PlainEntry) → k ∈ entries_in y → Somewhere n k) nth n.sent (n.hut j)
    (λ k d. (j, d))
    (λ l m. take_all_all (Somewhere n) l (n.hut j)
    (λ w d. subst (Somewhere n) (item_entry w) (said_known n I w (I.said l m w d)))
    (λ k d. (j, d)))))

-- a letter is written
writes_keeps : (n : Net) (i count : ℕ) (has : List ℕ) → Keeps n (step (Writes i count has) n)
writes_keeps n i count has =
    keeps_among n i _ (keeps_hut n i (synced (n.hut i)) (older_self (histories n i)))

writes_knows : (n : Net) (i count : ℕ) (has : List ℕ) → Knows n (step (Writes i count has) n)
writes_knows n i count has = knows_among n i _ (knows_hut n i (synced (n.hut i)) (λ k d. (i, d)))

-- every move
pub move_older : (m : Move) (n : Net) (x : ℕ) → Older (histories n x) (histories (move m n) x)
move_older (Commit i) n x =
    keeps_among n i _ (keeps_hut n i (commits (n.hut i)) (commits_older (n.hut i))) x
move_older (Walk i j) n x =
    let e = step (Writes i (length (committed_in (n.hut j))) (vector_in (n.hut j))) n in
    older_trans (histories n x) (histories e x) (histories (exchange n i j) x)
    (writes_keeps n i (length (committed_in (n.hut j))) (vector_in (n.hut j)) x)
    (takes_keeps e j (length n.sent) x)

move_only : {every : List PlainEntry} (m : Move) (n : Net) → Holds every n → (k : PlainEntry)
    → Somewhere (move m n) k → Somewhere n k
move_only (Commit i) n I k (x, d) =
    knows_among n i _ (knows_hut n i (commits (n.hut i)) (commits_known n i)) x k d
move_only (Walk i j) n I k (x, d) =
    let e = Writes i (length (committed_in (n.hut j))) (vector_in (n.hut j)) in
    let s = takes_knows (step e n) (step_becomes e n I).holds j (length n.sent) x k d in
    writes_knows n i (length (committed_in (n.hut j))) (vector_in (n.hut j)) s.0 k s.1

pub moved_older : (ms : List Move) (n : Net) (x : ℕ)
    → Older (histories n x) (histories (moved ms n) x)
unfolding moved
moved_older [] n x = older_self (histories n x)
moved_older (m ∷ ms) n x =
    older_trans (histories n x) (histories (move m n) x) (histories (moved ms (move m n)) x)
    (move_older m n x) (moved_older ms (move m n) x)

pub moved_only : {every : List PlainEntry} (ms : List Move) (n : Net) → Holds every n
    → (k : PlainEntry) → Somewhere (moved ms n) k → Somewhere n k
unfolding moved
moved_only [] n I k s = s
moved_only (m ∷ ms) n I k s =
    move_only m n I k (moved_only ms (move m n) (move_becomes m n I).holds k s)

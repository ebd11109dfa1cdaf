-- What a hut does alone keeps what holds of a net: it makes an entry, commits, makes all durable, crashes.
use Rattle.std.proofs.Common.{◌≡◌, ℕ, ◌<◌, List, [], ◌∷◌, ◌++◌, take, drop, sym, refl, ap, ◌∙◌, append_assoc, arith, eqb→eq, take-append-drop}
use Rattle.bookings.specs.Plain.{PlainEntry, PlainKind}
use Rattle.journal.specs.History.{Committed, Kept, PlainRecord, Tentative, commits, commits_entry, crashed, history_of, makes, state_in, synced, wrote}
use Rattle.entry_log.specs.Logs.{first_entry}
use Rattle.replica.specs.Model.{entry_made, is_primary, leader, make_refusal}
use Rattle.network.specs.Net.{Net, huts, put, with_hut}
use Rattle.network.specs.Replicas.{committed_of, tentative_in}
use Rattle.network.proofs.Holds.{Becomes, Holds, behind_lem, durables, durably, histories, huts_of, led_same, same_step, so_far, with_hut_lem, write_step}
use Rattle.network.proofs.Leading.{led_commits, led_crashes, led_syncs, put_same, same_lists}
use Rattle.network.proofs.Marks.{◌∈◌}
use Rattle.network.proofs.Parts.{Older, committed_older}
use Rattle.network.proofs.Refusals.{make_allowed, unless_by}
use Rattle.network.proofs.Tests.{cond_by}
use Rattle.network.proofs.Valid.{valid_older}
use Rattle.network.proofs.Writing.{commit_fits, make_fits}

-- a hut makes an entry, or is refused
pub make-step :
    {every : List PlainEntry} (n : Net) → Holds every n → (i : ℕ) (kind : PlainKind) → i < huts → entry_made kind (state_in (n.hut i)) ∈ every
    → Becomes every n (with_hut i (makes kind (n.hut i)) n)
make-step {every} n I i kind low listed =
    unless_by (λ x. Becomes every n (with_hut i x n)) (make_refusal kind (state_in (n.hut i))) (n.hut i) (wrote (Tentative e) (n.hut i))
    (λ q.
    let a = make_allowed kind (state_in (n.hut i)) q in
    write_step n I i (Tentative e) (make_fits (huts_of n I) i e (I.own i) low (omega arith) listed a.0 a.1) I.all (led_same n I i))
    (same_step n I i)
  where
    e : PlainEntry
    e = entry_made kind (state_in (n.hut i))

-- the primary commits its first tentative entry
pub commit_step : {every : List PlainEntry} (n : Net) → Holds every n → (i : ℕ) → Becomes every n (with_hut i (commits (n.hut i)) n)
commit_step {every} n I i =
    cond_by (λ x. Becomes every n (with_hut i x n)) (is_primary (state_in (n.hut i))) (commits_entry (first_entry (tentative_in (n.hut i))) (n.hut i)) (n.hut i)
    (λ t. go (tentative_in (n.hut i)) refl (sym (eqb→eq (n.hut i).hut (leader (so_far n i)) t) ∙ I.own i)) (λ _. same_step n I i)
  where
    go : (l : List PlainEntry) → tentative_in (n.hut i) ≡ l → leader (so_far n i) ≡ i → Becomes every n (with_hut i (commits_entry (first_entry l) (n.hut i)) n)
    go [] q p = same_step n I i
    go (e ∷ es) q p = write_step n I i (Committed e) (commit_fits (huts_of n I) i e es q) I.all (led_commits leader (durably n) (so_far n) I.all I.led i e p)

pub sync_step : {every : List PlainEntry} (n : Net) → Holds every n → (i : ℕ) → Becomes every n (with_hut i (synced (n.hut i)) n)
sync_step n I i =
    let s = led_syncs leader (durably n) (so_far n) I.all I.led i in
    with_hut_lem n I i (synced (n.hut i)) (I.own i) ((huts_of n I).part i) (I.valid i) s.0
    (same_lists leader (put i (so_far n i) (durably n)) (put i (so_far n i) (durably n)) (so_far n) (put i (so_far n i) (so_far n)) s.0 (λ j. refl) (λ j. sym (put_same i (so_far n) j)) s.3)

-- a crash takes a hut back to an earlier history
pub crash_step : {every : List PlainEntry} (n : Net) → Holds every n → (i k : ℕ) → Becomes every n (with_hut i (crashed k (n.hut i)) n)
crash_step {every} n I i k =
    behind_lem n I i r (I.own i) refl (valid_older every (durables n) i (history_of r) (histories n i) kept (I.valid i)) I.all
    (led_crashes leader (durably n) (so_far n) I.all I.led i (committed_of (history_of r)) (committed_older (durables n i) (history_of r) (r.pending, refl))
    (committed_older (history_of r) (histories n i) kept))
  where
    r : Kept
    r = crashed k (n.hut i)

    kept : Older (history_of (crashed k (n.hut i))) (histories n i)
    kept =
        let p = (n.hut i).pending in
        (take k p, ap (λ (l : List PlainRecord). l ++ durables n i) (sym (take-append-drop k p)) ∙ append_assoc (take k p) (drop k p) (durables n i))

-- What the calls of programs write can stand in a journal.
use Rattle.std.proofs.Common.{◌≡◌, ℕ, suc, ◌<◌, List, [], ◌∷◌, ◌++◌, map, None, sym, refl, ap, subst, arith}
use mathlib.Core.List.Memᴰ
use mathlib.Core.List.{Memᴰ}
use Rattle.bookings.specs.Plain.{PlainEntry, PlainKind}
use Rattle.bookings.specs.Ranges.{Each}
use Rattle.entry_log.specs.Logs.{first_entry}
use Rattle.entry_log.specs.Waits.{PlainWaiting}
use Rattle.journal.proofs.Opening.{stands_older}
use Rattle.journal.proofs.Standing.{commit_stands, history_once, make-stands, settled-stands, taken-stands}
use Rattle.journal.specs.History.{Kept, Tentative, Committed, commits, commits_entry, crashed, history_of, makes, state_in, wrote}
use Rattle.letters.specs.Items.{PlainItem, settled, waiting, placed_from}
use Rattle.letters.specs.Laws.{EntryOk, LetterOk, WaitingOk}
use Rattle.letters.specs.Letters.{PlainLetter}
use Rattle.replica.specs.Model.{entry_made, is_primary, make_refusal}
use Rattle.network.specs.Items.{Letter, items_taken, refusal_of, takes}
use Rattle.network.specs.Mail.{KindRanged, Standing}
use Rattle.network.specs.Net.{huts}
use Rattle.network.specs.Replicas.{committed_of, tentative_in}
use Rattle.network.proofs.Lawful.{history_fits}
use Rattle.network.proofs.Refusals.{make_allowed, unless_by}
use Rattle.network.proofs.Tests.{cond_by}

pub makes_stand : (kind : PlainKind) (k : Kept) → k.hut < huts → KindRanged kind → Standing k → Standing (makes kind k)
makes_stand kind k low ranged ok =
    unless_by Standing (make_refusal kind (state_in k)) k (wrote (Tentative e) k) (λ free. (entry_ok free, make-stands kind (state_in k) free, ok)) ok
  where
    e : PlainEntry
    e = entry_made kind (state_in k)

    entry_ok : make_refusal kind (state_in k) ≡ None → EntryOk e
    entry_ok free =
        let room = (make_allowed kind (state_in k) free).0 in
        record { ranged = ((omega arith, low), ranged.0); stamp_fits = omega (arith, room); kind_fits = ranged.1 }

pub commits_stand : (k : Kept) → Standing k → Standing (commits k)
commits_stand k ok =
    cond_by Standing (is_primary (state_in k)) (commits_entry (first_entry (tentative_in k)) k) k (λ _. go (tentative_in k) refl) (λ _. ok)
  where
    go : (l : List PlainEntry) → tentative_in k ≡ l → Standing (commits_entry (first_entry l) k)
    go [] q = ok
    go (e ∷ es) q = (
      history_fits k.hut (history_of k) ok e (Memᴰ.append_right (committed_of (history_of k)) (subst (λ l. Memᴰ e l) (sym q) (Memᴰ.head refl))),
      commit_stands e (state_in k) (history_once k.hut (history_of k) ok) (ap first_entry q),
      ok,
    )

-- the entry of an item fits the format
abbrev pub ItemOk : PlainItem → Type 0
ItemOk (settled place e) = EntryOk e
ItemOk (waiting w) = EntryOk w.entry

take_stands : (w : PlainItem) (k : Kept) → ItemOk w → Standing k → Standing (takes w k)
take_stands (settled place e) k fits ok =
    unless_by Standing (refusal_of (settled place e) (state_in k)) k (wrote (Committed e) k) (λ free. (fits, settled-stands place e.mark (state_in k) free, ok)) ok
take_stands (waiting w) k fits ok =
    unless_by Standing (refusal_of (waiting w) (state_in k)) k (wrote (Tentative w.entry) k) (λ free. (fits, taken-stands w.entry w.stood (state_in k) free, ok)) ok

items_stand : (l : Letter) (k : Kept) → Each ItemOk l → Standing k → Standing (items_taken l k)
unfolding items_taken
items_stand [] k fit ok = ok
items_stand (w ∷ ws) k fit ok = items_stand ws (takes w k) fit.1 (take_stands w k fit.0 ok)

letter_fits : (p : ℕ) (cs : List PlainEntry) (ws : List PlainWaiting) → Each EntryOk cs → Each WaitingOk ws → Each ItemOk (placed_from p cs ++ map waiting ws)
letter_fits p [] [] cs-ok ws-ok = tt
letter_fits p [] (w ∷ ws) cs-ok ws-ok = (ws-ok.0.entry_ok, letter_fits p [] ws tt ws-ok.1)
letter_fits p (c ∷ cs) ws cs-ok ws-ok = (cs-ok.0, letter_fits (suc p) cs ws cs-ok.1 ws-ok)

pub letter_stands : (p : PlainLetter) (k : Kept) → LetterOk p → Standing k → Standing (items_taken (placed_from p.place p.committed ++ map waiting p.tentative) k)
letter_stands p k lawful ok = items_stand _ k (letter_fits p.place p.committed p.tentative lawful.committed_ok lawful.tentative_ok) ok

pub crash_stands : (lost : ℕ) (k : Kept) → Standing k → Standing (crashed lost k)
crash_stands lost k ok = stands_older k.hut lost k.pending k.durable ok

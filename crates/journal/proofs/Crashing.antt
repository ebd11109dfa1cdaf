-- A journal in memory after a crash, opened again.
use Rattle.std.proofs.Common.{◌≡◌, ℕ, ◌+◌, ◌≤◌, true, false, List, length, take, drop, vec_items, refl, ap, ◌∙◌, subst, arith}
use Rattle.std.proofs.lemmas.Bool.{false≢true}
use Rattle.replica.specs.Model.{State}
use Rattle.journal.specs.Phases.{is_synced, is_shut}
use Rattle.journal.specs.declared.phase.Phase.{Phase}
use Rattle.journal.specs.declared.phase.Phase.TheVariants.{Synced, Written, Shut}
use Rattle.journal.specs.declared.appender.Appender.{Appender}
use Rattle.journal.specs.declared.memory.Memory.{Memory}
use Rattle.journal.specs.History.{Kept, history_of, state_with, synced, crashed}
use Rattle.journal.specs.Keeping.{Keeps, InMemory, left_by}
use Rattle.journal.specs.Records.{bytes_of, history_in, Replayed, Stands}
use Rattle.journal.proofs.Keeping.{durable-within}
use Rattle.journal.proofs.Opening.{opens_after_crash_lem}

-- what is synced is not shut
pub not_shut : (p : Phase) → is_synced p ≡ true → is_shut p ≡ false
not_shut Synced is = refl
not_shut Written is = absurd (false≢true is)
not_shut Shut is = absurd (false≢true is)

module _ (j : Appender Memory) (s : State) (k : Kept) (kept : ℕ) (in_step : Keeps (InMemory j) s k) where
  same_hut : s.hut ≡ k.hut
  same_hut = ap (λ (x : State). x.hut) in_step.state

  left_is : left_by kept j.medium ≡ take (length (bytes_of k.durable) + kept) (bytes_of (history_of k))
  left_is = ap (λ n. take (n + kept) (vec_items j.medium.held)) in_step.bytes.1.1 ∙ ap (take (length (bytes_of k.durable) + kept)) in_step.bytes.1.0

  found : (lost : ℕ) × (history_in k.hut (take (length (bytes_of k.durable) + kept) (bytes_of (history_of k))) ≡ history_of (crashed lost k))
  found = opens_after_crash_lem k (length (bytes_of k.durable) + kept) in_step.stands (omega arith)

  -- what was lost, and that all else is told
  pub lost_by : ℕ
  lost_by = found.0

  pub told_is : history_in s.hut (left_by kept j.medium) ≡ history_of (crashed lost_by k)
  unfolding lost_by
  told_is = ap (λ h. history_in h (left_by kept j.medium)) same_hut ∙ ap (history_in k.hut) left_is ∙ found.1

  module _ (bytes : List ℕ) (whole : ℕ) (t : State) (replayed : Replayed s.hut bytes whole t) (is : bytes ≡ left_by kept j.medium) where
    told : history_in s.hut bytes ≡ history_of (crashed lost_by k)
    told = ap (history_in s.hut) is ∙ told_is

    -- nothing of what was synced is cut
    pub synced-within : j.medium.settled ≤ whole
    synced-within =
        let more = durable-within k.durable (drop lost_by k.pending) in
        omega (arith, in_step.bytes.1.1, replayed.len, ap (λ rs. length (bytes_of rs)) told, more)

    pub crash_keeps :
        (after : Appender Memory) → is_synced after.phase ≡ true → vec_items after.medium.held ≡ take whole bytes → after.medium.settled ≡ length (take whole bytes)
        → Keeps (InMemory after) t (synced (crashed lost_by k))
    crash_keeps after synced-now held settled =
        let front = replayed.front ∙ ap bytes_of told in
        record {
          bytes = (not_shut after.phase synced-now, (held ∙ front, settled ∙ ap length front), λ _. refl);
          state = replayed.state ∙ ap (state_with s.hut) told ∙ ap (λ h. state_with h (history_of (crashed lost_by k))) same_hut;
          stands = subst (λ (h : ℕ). Stands h (history_of (crashed lost_by k))) same_hut (subst (Stands s.hut) told replayed.stands);
        }

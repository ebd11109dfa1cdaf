-- A replica that is opened over what was found after a stop is in step with what it kept at or after its last sync.
use Rattle.std.proofs.Common.{◌≡◌, ℕ, ◌≤◌, List, length, take, drop, ap, ◌∙◌, subst, arith}
use Rattle.replica.specs.Model.{State}
use Rattle.journal.specs.Finding.{FoundOf}
use Rattle.journal.specs.History.{Kept, history_of, state_with, synced, crashed}
use Rattle.journal.specs.Keeping.{Keeps}
use Rattle.journal.specs.Records.{bytes_of, history_in, Replayed, Stands}
use Rattle.journal.proofs.Finding.{opens_after_stop_lem}
use Rattle.journal.proofs.Keeping.{durable-within}

pub reopened_keeps :
    (k : Kept) (found : List ℕ) (has : List ℕ → ℕ → Type 0) (hut whole : ℕ) (t : State) → hut ≡ k.hut → Stands k.hut (history_of k) → FoundOf k found
    → Replayed hut found whole t → (length (bytes_of k.durable) ≤ whole → has (take whole found) (length (take whole found)))
    → (lost : ℕ) × Keeps has t (synced (crashed lost k))
reopened_keeps k found has hut whole t same ok f replayed cut =
    let o = opens_after_stop_lem k found ok f in
    let told = ap (λ h. history_in h found) same ∙ o.1 in
    let front : take whole found ≡ bytes_of (history_of (crashed o.0 k)) = replayed.front ∙ ap bytes_of told in
    let more = durable-within k.durable (drop o.0 k.pending) in (
      o.0,
      record {
        bytes = subst (λ bs. has bs (length bs)) front (cut (omega (arith, more, replayed.len, ap (λ rs. length (bytes_of rs)) told)));
        state = replayed.state ∙ ap (state_with hut) told ∙ ap (λ h. state_with h (history_of (crashed o.0 k))) same;
        stands = subst (λ h. Stands h (history_of (crashed o.0 k))) same (subst (Stands hut) told replayed.stands);
      },
    )

-- There is room: a list of different entries is no longer than all that was made.
use Rattle.std.proofs.Common.{ℕ, suc, ◌<◌, ◌≤◌, List, ◌∷◌, length, sym, subst, arith}
use Rattle.bookings.specs.Plain.{PlainEntry}
use Rattle.journal.specs.History.{state_in}
use Rattle.replica.specs.Model.{capacity, last_stamp}
use Rattle.network.specs.Net.{Net, huts}
use Rattle.network.specs.Replicas.{entries_of}
use Rattle.network.proofs.Histories.{log_once}
use Rattle.network.proofs.Holds.{Holds, durables, histories, huts_of}
use Rattle.network.proofs.Knowing.{known_here, made-own}
use Rattle.network.proofs.Lists.{by_cons}
use Rattle.network.proofs.Marks.{Fresh, ◌∈◌}
use Rattle.network.proofs.Refusals.{Room}
use Rattle.network.proofs.Sorting.{Once, no_more}

module _ {every : List PlainEntry} (n : Net) (I : Holds every n) where
  -- what a replica knows was made at one of the sixteen huts, is one of those that were ever made, and has a stamp below the limit
  pub known_own : (i : ℕ) (k : PlainEntry) → k ∈ entries_of (histories n i) → (k.mark.hut < huts) × (k ∈ every) × (k.mark.stamp < last_stamp)
  known_own i k m =
      let w = known_here (huts_of n I) i k m in
      let o = made-own (huts_of n I) k w.0 w.1 in
      (o.hut, o.listed, o.low)

  -- a log has every mark once
  pub once_log : (i : ℕ) → Once (entries_of (histories n i))
  once_log i = log_once every (durables n) i (histories n i) (I.valid i)

  -- a replica has room for an entry that another knows and it does not
  pub room :
      length every < capacity → (i j : ℕ) (e : PlainEntry) → e ∈ entries_of (histories n i) → Fresh e.mark (entries_of (histories n j))
      → Room (state_in (n.hut j)) e.mark.stamp
  room few i j e m new =
      let l = entries_of (histories n j) in
      let fits : suc (length l) ≤ length every =
      no_more (e ∷ l) every (new, once_log j) (λ k d. by_cons d (λ p. subst (λ (x : PlainEntry). x ∈ every) (sym p) (known_own i e m).1) (λ o. (known_own j k o).1)) in
      (omega arith, (known_own i e m).2)

-- Whatever a letter holds, nothing that is known is lost by it.
use Rattle.std.proofs.Common.{◌≡◌, false, T, List, [], ◌∷◌, ◌++◌, sym, refl, ap, ◌∙◌, subst, inl, inr, arith}
use Rattle.bookings.specs.Plain.{PlainEntry, PlainMark}
use Rattle.entry_log.proofs.Putting.{has_none, none_more, one_more, times-append, times-into}
use Rattle.entry_log.proofs.Settling.{settled_once}
use Rattle.entry_log.specs.Logs.{has, into}
use Rattle.entry_log.specs.Order.{Once}
use Rattle.journal.specs.History.{Committed, Kept, PlainRecord, Tentative, history_of, state_in, wrote}
use Rattle.letters.specs.Items.{PlainItem, items_of, settled, waiting}
use Rattle.letters.specs.Letters.{read_letter}
use Rattle.replica.specs.Model.{take_committed_refusal, take_tentative_refusal}
use Rattle.network.specs.Harm.{NoLetterHarms}
use Rattle.network.specs.Items.{items_taken, takes}
use Rattle.network.specs.Replicas.{committed_of, entries_in, entries_of, tentative_of}
use Rattle.network.proofs.Logs.{log_new, log_old, log_other}
use Rattle.network.proofs.Marks.{by_mark, fresh_none, has_one, one_has}
use Rattle.network.proofs.Parts.{Older, committed_older, older_one, older_self, older_trans}
use Rattle.network.proofs.Refusals.{committed_allowed, tentative_allowed, unless_by}
use Rattle.network.proofs.Tests.{T_true, true_T}

-- a mark that is known stays so with one more record
more_known : (r : PlainRecord) (rs : List PlainRecord) (m : PlainMark) → T (has m (entries_of rs)) → T (has m (entries_of (r ∷ rs)))
more_known (Tentative e) rs m t =
    let k = has_one m (entries_of rs) t in
    subst (λ (x : PlainMark). T (has x (entries_of (Tentative e ∷ rs)))) k.2 (one_has k.0 (entries_of (Tentative e ∷ rs)) (log_old e rs k.0 k.1))
more_known (Committed e) rs m t =
    elim (by_mark m e.mark) [
      | inl p ↦ subst (λ (x : PlainMark). T (has x (entries_of (Committed e ∷ rs)))) (sym p.0) (one_has e (entries_of (Committed e ∷ rs)) (log_new (Committed e) rs))
      | inr p ↦
          let k = has_one m (entries_of rs) t in
          subst (λ (x : PlainMark). T (has x (entries_of (Committed e ∷ rs)))) k.2
          (one_has k.0 (entries_of (Committed e ∷ rs)) (log_other e rs k.0 (λ q. p.0 (sym k.2 ∙ q)) k.1))
    ]

-- a new entry stands once among those that each stand once
into_once : (cs ts : List PlainEntry) (e : PlainEntry) → Once (cs ++ ts) → has e.mark (cs ++ ts) ≡ false → Once (cs ++ into e ts)
into_once cs ts e once new m =
    let was = times-append m cs ts in
    let is = times-append m cs (into e ts) in
    let put = times-into m e ts in
    elim (by_mark m e.mark) [
      | inl p ↦ let none = has_none m (cs ++ ts) (ap (λ x. has x (cs ++ ts)) p.0 ∙ new) in omega (arith, one_more m e.mark p.1)
      | inr p ↦ omega (arith, once m, none_more m e.mark p.1)
    ]

-- what a replica becomes: it has all its records, and more
record Unharmed (k n : Kept) : Type 0 where
  older : Older (history_of k) (history_of n)
  known : (m : PlainMark) → T (has m (entries_in k)) → T (has m (entries_in n))
  once : Once (entries_in k) → Once (entries_in n)
  durable : n.durable ≡ k.durable

unharmed_self : (k : Kept) → Unharmed k k
unharmed_self k = record { older = older_self (history_of k); known = λ m t. t; once = λ o. o; durable = refl }

unharmed_trans : (a b c : Kept) → Unharmed a b → Unharmed b c → Unharmed a c
unharmed_trans a b c p q =
    record {
      older = older_trans (history_of a) (history_of b) (history_of c) p.older q.older;
      known = λ m t. q.known m (p.known m t);
      once = λ o. q.once (p.once o);
      durable = q.durable ∙ p.durable;
    }

unharmed_one : (r : PlainRecord) (k : Kept) → (Once (entries_in k) → Once (entries_of (r ∷ history_of k))) → Unharmed k (wrote r k)
unharmed_one r k once = record { older = older_one r (history_of k); known = more_known r (history_of k); once = once; durable = refl }

unharmed_item : (w : PlainItem) (k : Kept) → Unharmed k (takes w k)
unharmed_item (settled place e) k =
    unless_by (Unharmed k) (take_committed_refusal place e.mark (state_in k)) k (wrote (Committed e) k)
    (λ none.
    unharmed_one (Committed e) k
    (λ once.
    settled_once (committed_of (history_of k)) (tentative_of (history_of k)) e once
    (fresh_none e.mark (committed_of (history_of k)) (committed_allowed place e.mark (state_in k) none).0)))
    (unharmed_self k)
unharmed_item (waiting w) k =
    unless_by (Unharmed k) (take_tentative_refusal w.entry w.stood (state_in k)) k (wrote (Tentative w.entry) k)
    (λ none.
    unharmed_one (Tentative w.entry) k
    (λ once.
    into_once (committed_of (history_of k)) (tentative_of (history_of k)) w.entry once
    (fresh_none w.entry.mark (entries_in k) (tentative_allowed w.entry w.stood (state_in k) none).0)))
    (unharmed_self k)

unharmed_items : (l : List PlainItem) (k : Kept) → Unharmed k (items_taken l k)
unfolding items_taken
unharmed_items [] k = unharmed_self k
unharmed_items (w ∷ ws) k = unharmed_trans k (takes w k) (items_taken ws (takes w k)) (unharmed_item w k) (unharmed_items ws (takes w k))

pub no_letter_harms_lem : NoLetterHarms
no_letter_harms_lem bs k =
    let n = items_taken (items_of (read_letter bs)) k in
    let u = unharmed_items (items_of (read_letter bs)) k in (
      committed_older (history_of k) (history_of n) u.older,
      λ m is. T_true (has m (entries_in n)) (u.known m (true_T (has m (entries_in k)) is)),
      u.once,
      u.durable,
    )

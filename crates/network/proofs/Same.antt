-- Replicas that know the same have the same log and the same book.
use Rattle.std.proofs.Common.{◌≡◌, ℕ, T, arith, inl, inr, List, sym, refl, ap, subst}
use mathlib.Core.List.Memᴰ
use Rattle.bookings.specs.Books.{book_of}
use Rattle.bookings.specs.Plain.{PlainEntry, PlainMark}
use Rattle.journal.specs.History.{log_of}
use Rattle.entry_log.specs.Logs.{PlainLog, all_of, has}
use Rattle.network.specs.Net.{Event, after}
use Rattle.network.specs.Promise.{Always, SameLog}
use Rattle.network.specs.Replicas.{committed_of, entries_of, tentative_of}
use Rattle.network.proofs.Histories.{apart, sorted}
use Rattle.network.proofs.Knowing.{known_here, made_once}
use Rattle.network.proofs.Lists.{by_append}
use Rattle.network.proofs.Marks.{◌∈◌, ◌⊆◌, has_one, one_has}
use Rattle.network.proofs.Parts.{prefix_full}
use Rattle.network.proofs.Safety.{All, after_holds, dur, hist, entries_made, order_in}
use Rattle.network.proofs.Sorting.{sorted_same}

-- entries of one mark are one entry, in whichever logs
mark_tells : (es : List Event) (i j : ℕ) (e f : PlainEntry) → e ∈ entries_of (hist es i) → f ∈ entries_of (hist es j) → e.mark ≡ f.mark → e ≡ f
mark_tells es i j e f d g p =
    let a = known_here (All es) i e d in
    let b = known_here (All es) j f g in
    (made_once (All es) e f a.0 b.0 a.1 b.1 p).0

-- what is tentative in one replica is so in another that knows it and has the same as committed
tentative_there :
    (es : List Event) (i j : ℕ) → ((m : PlainMark) → has m (entries_of (hist es i)) ≡ has m (entries_of (hist es j)))
    → committed_of (hist es i) ≡ committed_of (hist es j) → tentative_of (hist es i) ⊆ tentative_of (hist es j)
tentative_there es i j know same k m =
    let w = has_one k.mark (entries_of (hist es j)) (subst T (know k.mark) (one_has k (entries_of (hist es i)) here)) in
    let one = mark_tells es i j k w.0 here w.1 (sym w.2) in
    by_append (committed_of (hist es j)) (Memᴰ.cast one w.1)
    (λ u. absurd (apart (entries_made es) (dur es) i (hist es i) ((All es).valid i) k k (subst (λ (l : List PlainEntry). k ∈ l) (sym same) u) m refl)) (λ u. u)
  where
    here : k ∈ entries_of (hist es i)
    here = Memᴰ.append_right (committed_of (hist es i)) m

pub same_log : Always SameLog
same_log es i j know len = (logs, ap (λ (l : PlainLog). book_of (all_of l)) logs)
  where
    first : committed_of (hist es i) ≡ committed_of (hist es j)
    first = elim (order_in (after es) (after_holds es) i j) [
      | inl p ↦ sym (prefix_full (committed_of (hist es i)) (committed_of (hist es j)) p (omega (arith, len)))
      | inr p ↦ prefix_full (committed_of (hist es j)) (committed_of (hist es i)) p (omega (arith, len))
    ]

    rest : tentative_of (hist es i) ≡ tentative_of (hist es j)
    rest =
        sorted_same (tentative_of (hist es i)) (tentative_of (hist es j)) (sorted (entries_made es) (dur es) i (hist es i) ((All es).valid i)) (sorted (entries_made es) (dur es) j (hist es j) ((All es).valid j))
        (tentative_there es i j know first) (tentative_there es j i (λ m. sym (know m)) (sym first))

    logs : log_of (hist es i) ≡ log_of (hist es j)
    logs = λ t. record { committed = first t; tentative = rest t }

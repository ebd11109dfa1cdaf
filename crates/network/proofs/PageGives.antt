-- The laws of the network from a page that shows it, each from the law of pages that says the same.
use Rattle.std.proofs.Common.{◌≡◌, ◌⊎◌, ℕ, zero, suc, ◌≤◌, T, List, [], ◌∷◌, take, sym, refl, ap, ◌∙◌, subst, arith}
use mathlib.Core.List.Memᴰ
use Rattle.bookings.specs.Books.{book_of}
use Rattle.bookings.specs.Plain.{PlainEntry, PlainMark}
use Rattle.journal.specs.History.{PlainRecord, history_of, log_of}
use Rattle.entry_log.specs.Logs.{PlainLog, all_of, has}
use Rattle.network.specs.Abstract.{Page, Part, Reached, Within, blank, list}
use Rattle.network.specs.AbstractLaws.{Lasts}
use Rattle.network.specs.Net.{Net}
use Rattle.network.specs.Promise.{Prefix}
use Rattle.network.specs.Refinement.{Draws, Ordered, PageGives, PageKeeps, Shows}
use Rattle.network.specs.Replicas.{committed_of, entries_in}
use Rattle.network.proofs.AbstractKeeps.{take_same}
use Rattle.network.proofs.AbstractLogs.{abstract_prefix}
use Rattle.network.proofs.AbstractReached.{abstract_causal, abstract_final, abstract_gaps, abstract_same, abstract_sound, steps_trans}
use Rattle.network.proofs.Marks.{has_one, one_has}
use Rattle.network.proofs.Parts.{prefix_trans}

committed_shown : (a : Page) (rs : List PlainRecord) (p : Part) → Draws a rs p → take p.count (list a) ≡ committed_of rs
committed_shown a rs p d = sym (ap (λ (l : PlainLog). l.committed) d.log)

module _ (n : Net) (a : Page) (r : Reached a) (S : Shows n a) where
  -- who knows the same marks knows the same entries, since a mark is of one entry
  same_marks : (i j : ℕ) → ((m : PlainMark) → has m (entries_in (n.hut i)) ≡ has m (entries_in (n.hut j))) → Within (a.now i).set (a.now j).set
  same_marks i j same k m =
      let w = has_one k.mark (entries_in (n.hut j)) (subst T (same k.mark) (one_has k (entries_in (n.hut i)) ((S.now i).set.0 k m))) in
      let there = (S.now j).set.1 w.0 w.1 in
      Memᴰ.cast (sym ((abstract_sound a r).once j i w.0 k there m w.2)) there

  logs_same :
      (i j : ℕ) → ((m : PlainMark) → has m (entries_in (n.hut i)) ≡ has m (entries_in (n.hut j))) → (a.now i).count ≡ (a.now j).count
      → log_of (history_of (n.hut i)) ≡ log_of (history_of (n.hut j))
  logs_same i j same many =
      (S.now i).log ∙ abstract_same a r i j (many, (same_marks i j same, same_marks j i (λ m. sym (same m)))) ∙ sym (S.now j).log

  ordered : Ordered n
  ordered =
      record {
        one_order = λ i j.
            subst (λ l. Prefix l (committed_of (history_of (n.hut j))) ⊎ Prefix (committed_of (history_of (n.hut j))) l) (committed_shown a _ (a.now i) (S.now i))
            (subst (λ l. Prefix (take (a.now i).count (list a)) l ⊎ Prefix l (take (a.now i).count (list a))) (committed_shown a _ (a.now j) (S.now j))
            (abstract_prefix (list a) (a.now i) (a.now j)));
        behind_known = λ i front back e q older made k m.
            abstract_causal a r i front back e (ap all_of (sym (S.now i).log) ∙ q) k ((S.knew e older made).1 k m);
        no_gaps = λ i j e f m o q l. (S.now i).set.0 e (abstract_gaps a r i j e f ((S.now j).set.1 e m) ((S.now i).set.1 f o) q l);
        same_log = λ i j same many.
            let logs = logs_same i j same ((S.now i).count ∙ many ∙ sym (S.now j).count) in
            (logs, ap (λ (l : PlainLog). book_of (all_of l)) logs);
      }

pub page_gives : PageGives
page_gives n a r S = ordered n a r S

-- the first of a list are the beginning of more of it
take_more_of : (m n : ℕ) (l : List PlainEntry) → m ≤ n → Prefix (take m l) (take n l)
take_more_of zero n l le = (take n l, refl)
take_more_of (suc m) zero l le = absurd (omega arith)
take_more_of (suc m) (suc n) [] le = ([], refl)
take_more_of (suc m) (suc n) (e ∷ l) le = let r = take_more_of m n l (omega arith) in (r.0, ap (λ (x : List PlainEntry). e ∷ x) r.1)

pub page_keeps : PageKeeps
page_keeps n m a b r S ss T i = (
  subst (λ l. Prefix l (committed_of (m.hut i).durable)) (stays ∙ committed_shown a _ (a.synced i) (S.synced i))
      (subst (Prefix (take c (list b))) (committed_shown b _ (b.synced i) (T.synced i)) (take_more_of c (b.synced i).count (list b) (last.count i))),
  λ k u. (T.now i).set.0 k ((abstract_sound b (steps_trans blank a b r ss)).kept i k (last.set i k ((S.synced i).set.1 k u))),
)
  where
    c : ℕ
    c = (a.synced i).count

    last : Lasts a b
    last = abstract_final a b r ss

    -- of both lists the first so many are those that were committed for good
    stays : take (a.synced i).count (list b) ≡ take (a.synced i).count (list a)
    stays =
        let firm = (abstract_sound a r).firm i in
        take_same c a.committed (list b) (prefix_trans a.committed b.committed (list b) (abstract_final a b r ss).committed (b.draft, refl)) firm
        ∙ sym (take_same c a.committed (list a) (a.draft, refl) firm)

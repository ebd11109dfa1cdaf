-- One hut of a net changes: which step that is of the pages that show the net before and after.
use Rattle.std.proofs.Common.{◌≡◌, ◌≢◌, ℕ, max, ◌<◌, ◌≤◌, ◌⊎◌, List, [], ◌∷◌, ◌++◌, length, sym, refl, ap, ◌∙◌, subst, inl, inr, append_assoc, arith, length-append}
use Rattle.std.proofs.lemmas.Bool.{cases_eq}
use Rattle.std.proofs.lemmas.List.{append_cancel_left}
use mathlib.Core.List.Memᴰ
use Rattle.bookings.specs.Plain.{PlainEntry}
use Rattle.journal.specs.History.{Committed, Kept, PlainRecord, Tentative, history_of}
use Rattle.entry_log.specs.Logs.{PlainLog}
use Rattle.network.specs.Abstract.{Alone, Committing, Forgetting, Learning, Making, Page, SamePart, SameSet, Syncing, Unsynced, list}
use Rattle.network.specs.Net.{Net}
use Rattle.network.specs.Promise.{MadeAfter, Prefix}
use Rattle.network.specs.Refinement.{Shows}
use Rattle.network.specs.Replicas.{committed_of, entries_of, tentative_of}
use Rattle.network.proofs.AbstractLists.{longest_more, longest_same, nil_end, prefix_long}
use Rattle.network.proofs.AbstractParts.{part_same, set_trans, set_turned}
use Rattle.network.proofs.AbstractShows.{closed_now, one_mark}
use Rattle.network.proofs.Growth.{Grows, made_grows}
use Rattle.network.proofs.Holds.{Holds, durables, durably, histories, huts_of, so_far}
use Rattle.network.proofs.Knowing.{known_here, made_once}
use Rattle.network.proofs.Logs.{log-committed, log_new, log_old, log_only}
use Rattle.network.proofs.Marks.{◌∈◌}
use Rattle.network.proofs.Lists.{by_cons}
use Rattle.network.proofs.Parts.{Older, committed_older, older_self, prefix_full, prefix_self, prefix_trans}
use Rattle.network.proofs.Valid.{log_older}

-- both nets are shown, and only hut i differs
module _ {every every' : List PlainEntry} (n n' : Net) (I : Holds every n) (I' : Holds every' n') (a b : Page) (S : Shows n a) (T : Shows n' b) (i : ℕ)
    (others : (j : ℕ) → j ≢ i → n'.hut j ≡ n.hut j) where
  pub at_each : (P : Kept → Kept → Type 0) → ((k : Kept) → P k k) → P (n.hut i) (n'.hut i) → (h : ℕ) → P (n.hut h) (n'.hut h)
  at_each P self here h = elim (cases_eq h i) [
    | inl q ↦ subst (λ x. P (n.hut x) (n'.hut x)) (sym q) here
    | inr q ↦ subst (P (n.hut h)) (sym (others h q)) (self (n.hut h))
  ]

  -- an entry that is known before and after was made after the same records
  made_same :
      Grows (histories n) (histories n') ⊎ Grows (histories n') (histories n) → (e : PlainEntry) (older older' : List PlainRecord) → MadeAfter n e older
      → MadeAfter n' e older' → older ≡ older'
  made_same (inl g) e older older' m m' = (made_once (huts_of n' I') e e older older' (made_grows (histories n) (histories n') g e older m) m' refl).1
  made_same (inr g) e older older' m m' = (made_once (huts_of n I) e e older older' m (made_grows (histories n') (histories n) g e older' m') refl).1

  alone : Grows (histories n) (histories n') ⊎ Grows (histories n') (histories n) → Alone i a b
  alone g =
      record {
        now = λ j q. part_same a b (a.now j) (b.now j) (histories n j) (histories n' j) (S.now j) (T.now j) (ap history_of (others j q));
        synced = λ j q. part_same a b (a.synced j) (b.synced j) (durables n j) (durables n' j) (S.synced j) (T.synced j) (ap (λ (k : Kept). k.durable) (others j q));
        knew = λ h j e m m'.
            let w = known_here (huts_of n I) h e ((S.now h).set.0 e m) in
            let w' = known_here (huts_of n' I') j e ((T.now j).set.0 e m') in
            let knew' : SameSet (b.knew e.mark) (entries_of w.0) = subst (λ rs. SameSet (b.knew e.mark) (entries_of rs)) (sym (made_same g e w.0 w'.0 w.1 w'.1)) (T.knew e w'.0 w'.1) in
            set_trans (b.knew e.mark) (entries_of w.0) (a.knew e.mark) knew' (set_turned (a.knew e.mark) (entries_of w.0) (S.knew e w.0 w.1));
      }

  grows : Older (histories n i) (histories n' i) → Grows (histories n) (histories n')
  grows o = at_each (λ k r. Older (history_of k) (history_of r)) (λ k. older_self (history_of k)) o

  grew : Older (histories n' i) (histories n i) → Grows (histories n') (histories n)
  grew o = at_each (λ k r. Older (history_of r) (history_of k)) (λ k. older_self (history_of k)) o

  -- nothing durable changes
  module _ (kept : durables n' i ≡ durables n i) where
    synced_same : SamePart (b.synced i) (a.synced i)
    synced_same = part_same a b (a.synced i) (b.synced i) (durables n i) (durables n' i) (S.synced i) (T.synced i) kept

    committed_same : b.committed ≡ a.committed
    committed_same =
        longest_same (durably n') (durably n) (at_each (λ k r. committed_of r.durable ≡ committed_of k.durable) (λ k. refl) (ap committed_of kept)) b.committed a.committed T.committed S.committed

    unsynced : Grows (histories n) (histories n') ⊎ Grows (histories n') (histories n) → Unsynced i a b
    unsynced g = record { alone = alone g; synced = synced_same; committed = committed_same }

    -- then the draft is the same where the whole list is
    draft_same : list b ≡ list a → b.draft ≡ a.draft
    draft_same q = append_cancel_left a.committed b.draft a.draft (ap (λ l. l ++ b.draft) (sym committed_same) ∙ q)

    line_same : so_far n' i ≡ so_far n i → list b ≡ list a
    line_same q =
        longest_same (so_far n') (so_far n) (at_each (λ k r. committed_of (history_of r) ≡ committed_of (history_of k)) (λ k. refl) q) (list b) (list a) T.list S.list

    -- the hut makes an entry
    pub makes :
        (e : PlainEntry) → e.mark.hut ≡ i → histories n' i ≡ Tentative e ∷ histories n i
        → ((k : PlainEntry) → k ∈ entries_of (histories n i) → k.mark.stamp < e.mark.stamp) → Making i e a b
    makes e mine is above =
        record {
          unsynced = unsynced (inl (grows (Tentative e ∷ [], is)));
          mine = mine;
          above = λ k m. above k ((S.now i).set.0 k m);
          knew = set_trans (b.knew e.mark) (entries_of (histories n i)) (a.now i).set (T.knew e (histories n i) ([], ap (histories n') mine ∙ is)) (set_turned (a.now i).set (entries_of (histories n i)) (S.now i).set);
          count = (T.now i).count ∙ ap (λ r. length (committed_of r)) is ∙ sym (S.now i).count;
          set = (
            λ k m. elim (log_only (Tentative e) (histories n i) k (subst (λ r. k ∈ entries_of r) is ((T.now i).set.0 k m))) [
              | inl q ↦ Memᴰ.head q
              | inr u ↦ Memᴰ.tail ((S.now i).set.1 k u)
            ],
            λ k m. (T.now i).set.1 k (subst (λ r. k ∈ entries_of r) (sym is)
                (by_cons m (λ q. Memᴰ.cast q (log_new (Tentative e) (histories n i))) (λ u. log_old e (histories n i) k ((S.now i).set.0 k u)))),
          );
          draft = draft_same (line_same (ap committed_of is));
        }

    -- the hut that has all of the list commits its first tentative entry
    module _ (e : PlainEntry) (es : List PlainEntry) (is : histories n' i ≡ Committed e ∷ histories n i) (first : tentative_of (histories n i) ≡ e ∷ es)
        (most : (j : ℕ) → Prefix (so_far n j) (so_far n i)) where
      has_line : list a ≡ so_far n i
      has_line = longest_same (so_far n) (so_far n) (λ j. refl) (list a) (so_far n i) S.list (record { each = most; one = inr (i, refl) })

      line_more : list b ≡ so_far n i ++ e ∷ []
      line_more =
          longest_same (so_far n') (so_far n') (λ j. refl) (list b) (so_far n i ++ e ∷ []) T.list
          (record {
            each = λ j.
                at_each (λ k r. Prefix (committed_of (history_of k)) (so_far n i) → Prefix (committed_of (history_of r)) (so_far n i ++ e ∷ []))
                (λ k p. prefix_trans (committed_of (history_of k)) (so_far n i) (so_far n i ++ e ∷ []) p (e ∷ [], refl))
                (λ _. subst (λ r. Prefix (committed_of r) (so_far n i ++ e ∷ [])) (sym is) (prefix_self (so_far n i ++ e ∷ []))) j (most j);
            one = inr (i, ap committed_of is);
          })

      known : e ∈ entries_of (histories n i)
      known = Memᴰ.append_right (so_far n i) (subst (λ l. e ∈ l) (sym first) (Memᴰ.head refl))

      pub commits : Committing i e a b
      commits =
          record {
            unsynced = unsynced (inl (grows (Committed e ∷ [], is)));
            last = (S.now i).count ∙ ap length (sym has_line);
            first = (es, sym (ap (λ (l : PlainLog). l.tentative) (S.now i).log) ∙ first);
            count = omega (arith, (T.now i).count, ap (λ r. length (committed_of r)) is, (S.now i).count, length-append (so_far n i) (e ∷ []));
            set = (
              λ k m. (S.now i).set.1 k (elim (log_only (Committed e) (histories n i) k (subst (λ r. k ∈ entries_of r) is ((T.now i).set.0 k m))) [
                | inl q ↦ Memᴰ.cast q known
                | inr u ↦ u
              ]),
              λ k m. (T.now i).set.1 k (subst (λ r. k ∈ entries_of r) (sym is)
                  (log-committed e (histories n i) (λ x u q. one_mark (huts_of n I) i i x e u known q) k ((S.now i).set.0 k m))),
            );
            draft =
                append_cancel_left a.committed b.draft (a.draft ++ e ∷ [])
                (ap (λ l. l ++ b.draft) (sym committed_same) ∙ line_more ∙ ap (λ l. l ++ e ∷ []) (sym has_line) ∙ append_assoc a.committed a.draft (e ∷ []));
          }

    -- the hut learns what others have for good
    module _ (more : Older (histories n i) (histories n' i))
        (from : (k : PlainEntry) → k ∈ entries_of (histories n' i) → (k ∈ entries_of (histories n i)) ⊎ ((h : ℕ) × (k ∈ entries_of (durables n h))))
        (far : (length (so_far n' i) ≡ length (so_far n i)) ⊎ ((h : ℕ) × (length (so_far n' i) ≤ length (durably n h)))) where
      longer : Prefix (so_far n i) (so_far n' i)
      longer = committed_older (histories n i) (histories n' i) more

      not_beyond : length (so_far n i) ≤ length (list a) → length (so_far n' i) ≤ length (list a)
      not_beyond p = elim far [
        | inl q ↦ omega (arith, q, p)
        | inr w ↦
            let d = prefix_long (durably n w.0) (so_far n w.0) (committed_older (durables n w.0) (histories n w.0) ((n.hut w.0).pending, refl)) in
            omega (arith, w.1, d, prefix_long (so_far n w.0) (list a) (S.list.each w.0))
      ]

      line_stays : list b ≡ list a
      line_stays =
          prefix_full (list a) (list b)
          (longest_more (so_far n) (so_far n') (at_each (λ k r. Prefix (committed_of (history_of k)) (committed_of (history_of r))) (λ k. prefix_self (committed_of (history_of k))) longer) (list a) (list b) S.list T.list)
          (elim T.list.one [
            | inl q ↦ omega (arith, ap length q)
            | inr w ↦
                let l = at_each (λ k r. length (committed_of (history_of k)) ≤ length (list a) → length (committed_of (history_of r)) ≤ length (list a)) (λ k p. p) not_beyond w.0
                (prefix_long (so_far n w.0) (list a) (S.list.each w.0)) in
                omega (arith, l, ap length w.1)
          ])

      pub learns : Learning i a b
      learns =
          record {
            unsynced = unsynced (inl (grows more));
            more = λ k m. (T.now i).set.1 k (log_older every' (durables n') i (histories n i) (histories n' i) more (I'.valid i) k ((S.now i).set.0 k m));
            from = λ k m. elim (from k ((T.now i).set.0 k m)) [ inl u ↦ inl ((S.now i).set.1 k u) | inr w ↦ inr (w.0, (S.synced w.0).set.1 k w.1) ];
            closed = closed_now n' I' b T i;
            longer = omega (arith, (S.now i).count, (T.now i).count, prefix_long (so_far n i) (so_far n' i) longer);
            far = elim far [
              | inl q ↦ inl ((T.now i).count ∙ q ∙ sym (S.now i).count)
              | inr w ↦ inr (w.0, omega (arith, (T.now i).count, (S.synced w.0).count, w.1))
            ];
            draft = draft_same line_stays;
          }

    -- the hut forgets what it had not synced, or some of it
    module _ (less : Older (histories n' i) (histories n i)) where
      at_least : Older (durables n i) (histories n' i)
      at_least = subst (λ r. Older r (histories n' i)) kept ((n'.hut i).pending, refl)

      line_less : Prefix (list b) (list a)
      line_less =
          longest_more (so_far n') (so_far n)
          (at_each (λ k r. Prefix (committed_of (history_of r)) (committed_of (history_of k))) (λ k. prefix_self (committed_of (history_of k))) (committed_older (histories n' i) (histories n i) less))
          (list b) (list a) T.list S.list

      pub forgets : Forgetting i a b
      forgets =
          record {
            unsynced = unsynced (inr (grew less));
            kept = λ k m. (T.now i).set.1 k (log_older every' (durables n') i (durables n i) (histories n' i) at_least (I'.valid i) k ((S.synced i).set.0 k m));
            less = λ k m. (S.now i).set.1 k (log_older every (durables n) i (histories n' i) (histories n i) less (I.valid i) k ((T.now i).set.0 k m));
            closed = closed_now n' I' b T i;
            at_least = omega (arith, (S.synced i).count, (T.now i).count, prefix_long (durably n i) (so_far n' i) (committed_older (durables n i) (histories n' i) at_least));
            at_most = omega (arith, (S.now i).count, (T.now i).count, prefix_long (so_far n' i) (so_far n i) (committed_older (histories n' i) (histories n i) less));
            draft = (
              line_less.0,
              append_cancel_left a.committed a.draft (b.draft ++ line_less.0)
                  (line_less.1 ∙ append_assoc b.committed b.draft line_less.0 ∙ ap (λ l. l ++ (b.draft ++ line_less.0)) committed_same),
            );
            within = λ j. omega (arith, (T.now j).count, prefix_long (so_far n' j) (list b) (T.list.each j));
            had = elim T.list.one [ inl q ↦ inl (nil_end b.committed b.draft q) | inr w ↦ inr (w.0, (T.now w.0).count ∙ ap length w.1) ];
          }

  -- the hut has for good what it has now
  module _ (same : histories n' i ≡ histories n i) (all : durables n' i ≡ histories n i) where
    more_durable : Prefix (durably n i) (durably n' i)
    more_durable = subst (λ r. Prefix (durably n i) (committed_of r)) (sym all) (committed_older (durables n i) (histories n i) ((n.hut i).pending, refl))

    here_durable : length (durably n' i) ≡ (a.now i).count
    here_durable = ap (λ r. length (committed_of r)) all ∙ sym (S.now i).count

    more_committed : Prefix a.committed b.committed
    more_committed =
        longest_more (durably n) (durably n') (at_each (λ k r. Prefix (committed_of k.durable) (committed_of r.durable)) (λ k. prefix_self (committed_of k.durable)) more_durable)
        a.committed b.committed S.committed T.committed

    no_further : length b.committed ≤ max (length a.committed) (a.now i).count
    no_further = elim T.committed.one [
      | inl q ↦ omega (arith, ap length q)
      | inr w ↦
          let m = max (length a.committed) (a.now i).count in
          let l = at_each (λ k r. length (committed_of k.durable) ≤ m → length (committed_of r.durable) ≤ m) (λ k p. p) (λ _. omega (arith, here_durable)) w.0
          (omega (arith, prefix_long (durably n w.0) a.committed (S.committed.each w.0))) in
          omega (arith, l, ap length w.1)
    ]

    pub syncs : Syncing i a b
    syncs =
        record {
          alone = alone (inl (grows ([], same)));
          now = part_same a b (a.now i) (b.now i) (histories n i) (histories n' i) (S.now i) (T.now i) same;
          synced = part_same a b (a.now i) (b.synced i) (histories n i) (durables n' i) (S.now i) (T.synced i) all;
          committed = more_committed;
          as_far = omega (arith, no_further, prefix_long a.committed b.committed more_committed, prefix_long (durably n' i) b.committed (T.committed.each i), here_durable);
          whole =
              longest_same (so_far n') (so_far n) (at_each (λ k r. committed_of (history_of r) ≡ committed_of (history_of k)) (λ k. refl) (ap committed_of same)) (list b) (list a) T.list S.list;
        }

-- Each step of a page, as one that keeps what holds of every page.
use Rattle.std.proofs.Common.{◌≡◌, ℕ, ◌≤◌, List, [], ◌∷◌, ◌++◌, length, take, sym, refl, ap, ◌∙◌, subst, inl, inr, append_assoc, append-nil, arith, length-append}
use Rattle.std.proofs.Math.Seq.{take-append_seam}
use Rattle.std.proofs.lemmas.Bool.{cases_lt}
use Rattle.std.proofs.lemmas.List.{take_all}
use mathlib.Core.List.Memᴰ
use Rattle.bookings.specs.Plain.{PlainEntry}
use Rattle.network.specs.Abstract.{Alone, Committing, Forgetting, Learning, Making, Page, SamePart, Step, Syncing, Within, commit, forget, learn, list, make, sync}
use Rattle.network.specs.AbstractLaws.{Lasts}
use Rattle.network.specs.Promise.{Prefix}
use Rattle.network.proofs.AbstractKeeps.{Invariant, Moves, New, closed_same, each, keeps}
use Rattle.network.proofs.AbstractLaws.{causal_in}
use Rattle.network.proofs.AbstractLogs.{rest_only}
use Rattle.network.proofs.Lists.{by_cons, by_last, only_one, split-two}
use Rattle.network.proofs.Marks.{◌∈◌}
use Rattle.network.proofs.Parts.{prefix_full, prefix_self}

same_prefix : (l m : List PlainEntry) → m ≡ l → Prefix l m
same_prefix l m q = subst (Prefix l) (sym q) (prefix_self l)

none_long : (l : List PlainEntry) → length l ≤ 0 → l ≡ []
none_long [] le = refl
none_long (e ∷ l) le = absurd (omega arith)

module _ (i : ℕ) (a b : Page) (A : Invariant a) where
  -- nothing becomes durable
  module _ (alone : Alone i a b) (same : SamePart (b.synced i) (a.synced i)) (committed : b.committed ≡ a.committed) where
    synced_same : (j : ℕ) → SamePart (b.synced j) (a.synced j)
    synced_same = each i (λ j. SamePart (b.synced j) (a.synced j)) same alone.synced

    firm_still : (j : ℕ) → (b.synced j).count ≤ length b.committed
    firm_still j = omega (arith, (synced_same j).0, A.sound.firm j, ap length committed)

    inked_still : (e : PlainEntry) → e ∈ b.committed → (j : ℕ) × (e ∈ (b.synced j).set)
    inked_still e m = let w = A.inked e (subst (λ (l : List PlainEntry). e ∈ l) committed m) in (w.0, (synced_same w.0).1.1 e w.1)

  -- the list stays, and the replica has no less of it
  module _ (alone : Alone i a b) (whole : list b ≡ list a) (longer : (a.now i).count ≤ (b.now i).count) (within : (b.now i).count ≤ length (list a)) where
    within_still : (j : ℕ) → (b.now j).count ≤ length (list b)
    within_still =
        each i (λ j. (b.now j).count ≤ length (list b)) (omega (arith, within, ap length whole)) (λ j q. omega (arith, (alone.now j q).0, A.within j, ap length whole))

    had_still : (j : ℕ) → (a.now j).count ≡ length (list a) → (b.now j).count ≡ length (list b)
    had_still =
        each i (λ j. (a.now j).count ≡ length (list a) → (b.now j).count ≡ length (list b)) (λ p. omega (arith, p, longer, within, ap length whole))
        (λ j q p. omega (arith, (alone.now j q).0, p, ap length whole))

  make_moves : (e : PlainEntry) → Making i e a b → Moves (λ k. k ≡ e) i a b
  make_moves e s =
      record {
        alone = s.unsynced.alone;
        new = λ k q. subst (New i a b) (sym q) (record { mine = s.mine; above = s.above; knew = s.knew });
        alike = λ k l p q. p ∙ sym q;
        from = λ k m. by_cons (s.set.0 k m) (λ q. inr (inr q)) inl;
        synced = inl s.unsynced.synced;
        least = omega (arith, s.unsynced.synced.0, s.count, A.least i);
        part = λ k m. s.set.1 k (Memᴰ.tail (A.sound.kept i k (s.unsynced.synced.1.0 k m)));
        closed = (
          λ x m k u. s.set.1 k (Memᴰ.tail (by_cons (s.set.0 x m) (λ q. s.knew.0 k (subst (λ (y : PlainEntry). k ∈ b.knew y.mark) q u))
              (λ o. (A.sound.closed i).0 x o k ((s.unsynced.alone.knew i i x o m).0 k u)))),
          λ k m. s.set.1 k (Memᴰ.tail ((A.sound.closed i).1 k (subst (λ (l : List PlainEntry). k ∈ l) (ap (λ n. take n (list b)) s.count ∙ ap (take (a.now i).count) whole) m))),
        );
        committed = same_prefix a.committed b.committed s.unsynced.committed;
        lines = inl (same_prefix (list a) (list b) whole);
        within = within_still s.unsynced.alone whole (omega (arith, s.count)) (omega (arith, s.count, A.within i));
        firm = firm_still s.unsynced.alone s.unsynced.synced s.unsynced.committed;
        had = elim A.had [ inl q ↦ inl (s.draft ∙ q) | inr w ↦ inr (w.0, had_still s.unsynced.alone whole (omega (arith, s.count)) (omega (arith, s.count, A.within i)) w.0 w.1) ];
        inked = inked_still s.unsynced.alone s.unsynced.synced s.unsynced.committed;
        behind = λ front back x q. inl (back, sym whole ∙ q);
      }
    where
      whole : list b ≡ list a
      whole = λ t. s.unsynced.committed t ++ s.draft t

  learn_moves : Learning i a b → Moves (λ k. ⊥) i a b
  learn_moves s =
      record {
        alone = s.unsynced.alone;
        new = λ k z. absurd z;
        alike = λ k l z. absurd z;
        from = λ k m. elim (s.from k m) [ inl u ↦ inl u | inr w ↦ inr (inl w) ];
        synced = inl s.unsynced.synced;
        least = omega (arith, s.unsynced.synced.0, s.longer, A.least i);
        part = λ k m. s.more k (A.sound.kept i k (s.unsynced.synced.1.0 k m));
        closed = s.closed;
        committed = same_prefix a.committed b.committed s.unsynced.committed;
        lines = inl (same_prefix (list a) (list b) whole);
        within = within_still s.unsynced.alone whole s.longer no_further;
        firm = firm_still s.unsynced.alone s.unsynced.synced s.unsynced.committed;
        had = elim A.had [ inl q ↦ inl (s.draft ∙ q) | inr w ↦ inr (w.0, had_still s.unsynced.alone whole s.longer no_further w.0 w.1) ];
        inked = inked_still s.unsynced.alone s.unsynced.synced s.unsynced.committed;
        behind = λ front back x q. inl (back, sym whole ∙ q);
      }
    where
      whole : list b ≡ list a
      whole = λ t. s.unsynced.committed t ++ s.draft t

      no_further : (b.now i).count ≤ length (list a)
      no_further = elim s.far [
        | inl q ↦ omega (arith, q, A.within i)
        | inr w ↦ omega (arith, w.1, A.sound.firm w.0, length-append a.committed a.draft)
      ]

  commit_moves : (e : PlainEntry) → Committing i e a b → Moves (λ k. ⊥) i a b
  commit_moves e s =
      record {
        alone = s.unsynced.alone;
        new = λ k z. absurd z;
        alike = λ k l z. absurd z;
        from = λ k m. inl (s.set.0 k m);
        synced = inl s.unsynced.synced;
        least = omega (arith, s.unsynced.synced.0, s.count, A.least i);
        part = λ k m. s.set.1 k (A.sound.kept i k (s.unsynced.synced.1.0 k m));
        closed = (
          λ x m k u. s.set.1 k ((A.sound.closed i).0 x (s.set.0 x m) k ((s.unsynced.alone.knew i i x (s.set.0 x m) m).0 k u)),
          λ k m. s.set.1 k (by_last (list a) (subst (λ (l : List PlainEntry). k ∈ l) (take_all (b.now i).count (list b) (omega (arith, long)) ∙ more) m)
              (λ u. (A.sound.closed i).1 k (subst (λ (l : List PlainEntry). k ∈ l) (sym has) u)) (λ q. Memᴰ.cast q known)),
        );
        committed = same_prefix a.committed b.committed s.unsynced.committed;
        lines = inl (e ∷ [], more);
        within =
            each i (λ j. (b.now j).count ≤ length (list b)) (omega (arith, long))
            (λ j q. omega (arith, (s.unsynced.alone.now j q).0, A.within j, ap length more, length-append (list a) (e ∷ [])));
        firm = firm_still s.unsynced.alone s.unsynced.synced s.unsynced.committed;
        had = inr (i, long);
        inked = inked_still s.unsynced.alone s.unsynced.synced s.unsynced.committed;
        behind = λ front back x q. elim (split-two (list a) (e ∷ []) front back x (sym more ∙ q)) [
          | inl p ↦ inl (p.0, p.1)
          | inr p ↦
              let o = only_one e x p.0 back p.2 in
              let at : front ≡ list a = p.1 ∙ ap (λ l. list a ++ l) o.0 ∙ append-nil (list a) in
              inr (subst (λ y. y ∈ (a.now i).set) o.1 known, subst (λ (y : PlainEntry). Within (a.knew y.mark) front) o.1 (subst (Within (a.knew e.mark)) (sym at) first))
        ];
      }
    where
      more : list b ≡ list a ++ e ∷ []
      more = (λ t. s.unsynced.committed t ++ s.draft t) ∙ sym (append_assoc a.committed a.draft (e ∷ []))

      long : (b.now i).count ≡ length (list b)
      long = omega (arith, s.count, s.last, ap length more, length-append (list a) (e ∷ []))

      has : take (a.now i).count (list a) ≡ list a
      has = take_all (a.now i).count (list a) (omega (arith, s.last))

      known : e ∈ (a.now i).set
      known = (rest_only (take (a.now i).count (list a)) (a.now i).set e (subst (λ (l : List PlainEntry). e ∈ l) (sym s.first.1) (Memᴰ.head refl))).0

      -- it stands behind all that its maker knew, in the log of who commits it
      first : Within (a.knew e.mark) (list a)
      first = causal_in a A.sound i (list a) s.first.0 e (λ t. has t ++ s.first.1 t)

  sync_moves : Syncing i a b → Moves (λ k. ⊥) i a b
  sync_moves s =
      record {
        alone = s.alone;
        new = λ k z. absurd z;
        alike = λ k l z. absurd z;
        from = λ k m. inl (s.now.1.0 k m);
        synced = inr ((s.synced.0 ∙ sym s.now.0, (λ k m. s.now.1.1 k (s.synced.1.0 k m), λ k m. s.synced.1.1 k (s.now.1.0 k m))), s.now);
        least = omega (arith, s.synced.0, s.now.0);
        part = λ k m. s.now.1.1 k (s.synced.1.0 k m);
        closed = closed_same a b (a.now i) (b.now i) s.now (A.sound.closed i) (ap (take (a.now i).count) s.whole) (s.alone.knew i i);
        committed = s.committed;
        lines = inl (same_prefix (list a) (list b) s.whole);
        within = within_still s.alone s.whole (omega (arith, s.now.0)) (omega (arith, s.now.0, A.within i));
        firm = each i (λ j. (b.synced j).count ≤ length b.committed) (omega (arith, s.synced.0, s.as_far)) (λ j q. omega (arith, (s.alone.synced j q).0, A.sound.firm j, s.as_far));
        had = elim A.had [
          | inl q ↦ inl (none_long b.draft (omega (arith, ap length s.whole, length-append a.committed a.draft, length-append b.committed b.draft, ap length q, s.as_far)))
          | inr w ↦ inr (w.0, had_still s.alone s.whole (omega (arith, s.now.0)) (omega (arith, s.now.0, A.within i)) w.0 w.1)
        ];
        inked = inked;
        behind = λ front back x q. inl (back, sym s.whole ∙ q);
      }
    where
      -- committed is as long as it was, or as the list of who syncs
      inked : (e : PlainEntry) → e ∈ b.committed → (j : ℕ) × (e ∈ (b.synced j).set)
      inked e m = elim (cases_lt (length a.committed) (a.now i).count) [
        | inl l ↦
            let n : (a.now i).count ≡ length b.committed = omega (arith, s.as_far) in
            let is : take (a.now i).count (list a) ≡ b.committed = ap (take (a.now i).count) (sym s.whole) ∙ ap (λ c. take c (list b)) n ∙ take-append_seam b.committed b.draft in
            (i, s.synced.1.1 e ((A.sound.closed i).1 e (subst (λ (l : List PlainEntry). e ∈ l) (sym is) m)))
        | inr l ↦
            let w = A.inked e (subst (λ (x : List PlainEntry). e ∈ x) (prefix_full a.committed b.committed s.committed (omega (arith, s.as_far))) m) in
            (w.0, each i (λ j. e ∈ (a.synced j).set → e ∈ (b.synced j).set) (λ u. s.synced.1.1 e (A.sound.kept i e u)) (λ j q. (s.alone.synced j q).1.1 e) w.0 w.1)
      ]

  forget_moves : Forgetting i a b → Moves (λ k. ⊥) i a b
  forget_moves s =
      record {
        alone = s.unsynced.alone;
        new = λ k z. absurd z;
        alike = λ k l z. absurd z;
        from = λ k m. inl (s.less k m);
        synced = inl s.unsynced.synced;
        least = omega (arith, s.unsynced.synced.0, s.at_least);
        part = λ k m. s.kept k (s.unsynced.synced.1.0 k m);
        closed = s.closed;
        committed = same_prefix a.committed b.committed s.unsynced.committed;
        lines = inr (s.draft.0, cut);
        within = s.within;
        firm = firm_still s.unsynced.alone s.unsynced.synced s.unsynced.committed;
        had = s.had;
        inked = inked_still s.unsynced.alone s.unsynced.synced s.unsynced.committed;
        behind = λ front back x q. inl (back ++ s.draft.0, cut ∙ ap (λ l. l ++ s.draft.0) q ∙ append_assoc front (x ∷ back) s.draft.0);
      }
    where
      cut : list a ≡ list b ++ s.draft.0
      cut = (λ t. sym s.unsynced.committed t ++ s.draft.1 t) ∙ sym (append_assoc b.committed b.draft s.draft.0)

pub step_keeps : (a b : Page) → Step a b → Invariant a → Invariant b × Lasts a b
step_keeps a b (make i e s) A = keeps i a b A (make_moves i a b A e s)
step_keeps a b (commit i e s) A = keeps i a b A (commit_moves i a b A e s)
step_keeps a b (learn i s) A = keeps i a b A (learn_moves i a b A s)
step_keeps a b (sync i s) A = keeps i a b A (sync_moves i a b A s)
step_keeps a b (forget i s) A = keeps i a b A (forget_moves i a b A s)

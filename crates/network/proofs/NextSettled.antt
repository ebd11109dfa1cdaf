-- The next committed entry that a replica lacks is taken, and the rest is then lacking.
use Rattle.std.proofs.Common.{◌≡◌, ℕ, zero, suc, ◌<◌, List, [], ◌∷◌, ◌++◌, map, length, drop, None, sym, refl, ap, ◌∙◌, subst, ap₂, inl, inr, append_assoc, append-nil, arith, length-append}
use mathlib.Core.List.Memᴰ
use Rattle.bookings.specs.Plain.{PlainEntry}
use Rattle.journal.specs.History.{Committed, PlainRecord, state_in, wrote}
use Rattle.entry_log.specs.Vectors.{vector_of}
use Rattle.replica.specs.Model.{capacity}
use Rattle.entry_log.specs.Waits.{PlainWaiting}
use Rattle.replica.specs.Parcels.{missing}
use Rattle.letters.specs.Items.{placed_from, settled, waiting}
use Rattle.network.specs.Items.{refusal_of}
use Rattle.network.specs.Net.{Net}
use Rattle.network.specs.Replicas.{committed_of, entries_of, tentative_of}
use Rattle.network.proofs.Histories.{apart}
use Rattle.network.proofs.Holds.{Holds, durables, histories, huts_of}
use Rattle.network.proofs.Knowing.{behind, known_here, made_order, made-own}
use Rattle.network.proofs.Lacking.{Following, lacking_in, missing_stays}
use Rattle.network.proofs.Letters.{drop_splits}
use Rattle.network.proofs.Lists.{by_append, stands}
use Rattle.network.proofs.Logs.{log-committed}
use Rattle.network.proofs.Marks.{Fresh, ◌∈◌}
use Rattle.network.proofs.Parts.{prefix-length}
use Rattle.network.proofs.Refusals.{committed_allows}
use Rattle.network.proofs.Room.{once_log, room}
use Rattle.network.proofs.Safety.{order_in}
use Rattle.network.proofs.Sorting.{Once, once_split}
use Rattle.network.proofs.Taken.{takes-taken}
use Rattle.network.proofs.Writing.{same_mark_lem}

drop_next : {A : Type 0} (n : ℕ) (l back : List A) (e : A) → drop n l ≡ e ∷ back → drop (suc n) l ≡ back
drop_next zero [] back e q = absurd (let z : ◌≡◌ {A = ℕ} 0 1 = cc in omega arith)
drop_next zero (x ∷ l) back e q = cc
drop_next (suc n) [] back e q = absurd (let z : ◌≡◌ {A = ℕ} 0 1 = cc in omega arith)
drop_next (suc n) (x ∷ l) back e q = drop_next n l back e q

module _ {every : List PlainEntry} (n : Net) (I : Holds every n) (few : length every < capacity) (i j : ℕ) where
  abbrev theirs : List PlainRecord
  theirs = histories n i

  abbrev mine : List PlainRecord
  mine = histories n j

  -- the next committed entry
  module _ (e : PlainEntry) (back : List PlainEntry) (q : drop (length (committed_of mine)) (committed_of theirs) ≡ e ∷ back) where
    -- hut j has just what stands before it as committed
    before-it : committed_of theirs ≡ committed_of mine ++ (e ∷ back)
    before-it =
        let s = drop_splits (length (committed_of mine)) (committed_of theirs) [] back e q in
        let at : committed_of theirs ≡ s.0 ++ (e ∷ back) = s.2 ∙ ap (λ (l : List PlainEntry). l ++ (e ∷ back)) (append-nil s.0) in
        elim (order_in n I i j) [
          | inl p ↦ absurd (omega (arith, ap length p.1, ap length at, length-append (committed_of theirs) p.0, length-append s.0 (e ∷ back), s.1))
          | inr p ↦ at ∙ ap (λ (l : List PlainEntry). l ++ (e ∷ back)) (prefix-length s.0 (committed_of mine) (e ∷ back) p.0 (sym at ∙ p.1) s.1)
        ]

    there : entries_of theirs ≡ committed_of mine ++ (e ∷ (back ++ tentative_of theirs))
    there = ap (λ (l : List PlainEntry). l ++ tentative_of theirs) before-it ∙ append_assoc (committed_of mine) (e ∷ back) (tentative_of theirs)

    known : e ∈ entries_of theirs
    known = subst (λ (l : List PlainEntry). e ∈ l) (sym there) (stands e (committed_of mine) (back ++ tentative_of theirs))

    new : Fresh e.mark (committed_of mine)
    new = (once_split e (committed_of mine) (back ++ tentative_of theirs) (subst Once there (once_log n I i))).0

    settled-taken : refusal_of (settled (length (committed_of mine)) e) (state_in (n.hut j)) ≡ None
    settled-taken =
        committed_allows (length (committed_of mine)) e.mark (state_in (n.hut j)) new refl
        (λ fresh. room n I few i j e known (λ k d. by_append (committed_of mine) d (new k) (fresh k)))

    -- no tentative entry of its hut has a lower stamp: it would stand before it
    settled-below : (k : PlainEntry) → k ∈ tentative_of theirs → e.mark.hut ≡ k.mark.hut → e.mark.stamp < k.mark.stamp
    settled-below k d same =
        let a = known_here (huts_of n I) i e known in
        let b = known_here (huts_of n I) i k (Memᴰ.append_right (committed_of theirs) d) in
        let twice : k ∈ committed_of theirs → ⊥ = λ m. apart every (durables n) i theirs (I.valid i) k k m d refl in
        elim (made_order (huts_of n I) e k a.0 b.0 a.1 b.1 same) [
          | inl p ↦ absurd (twice (subst (λ (l : List PlainEntry). k ∈ l) (sym before-it) (subst (λ (x : PlainEntry). x ∈ (committed_of mine ++ (e ∷ back))) p.0 (stands e (committed_of mine) back))))
          | inr (inl p) ↦ (made-own (huts_of n I) k b.0 b.1).above e p
          | inr (inr p) ↦ absurd (twice (subst (λ (l : List PlainEntry). k ∈ l) (sym before-it) (Memᴰ.append_left (e ∷ back) (behind (huts_of n I) i e (committed_of mine) (back ++ tentative_of theirs) a.0 there a.1 k p))))
        ]

    settled-left :
        lacking_in (n.hut i) (wrote (Committed e) (n.hut j)) ≡ placed_from (suc (length (committed_of mine))) back ++ map waiting (missing (vector_of (entries_of mine)) (committed_of theirs) (tentative_of theirs))
    settled-left =
        let a = known_here (huts_of n I) i e known in
        let long : length (committed_of mine ++ (e ∷ [])) ≡ suc (length (committed_of mine)) = omega (arith, length-append (committed_of mine) (e ∷ [])) in
        let keeps = log-committed e mine (same_mark_lem (huts_of n I) j e a.0 a.1) in
        let rest = missing_stays n I i j e (Committed e) refl keeps (committed_of theirs) (tentative_of theirs) (λ k d. Memᴰ.append_right (committed_of theirs) d) settled-below in
        ap₂ (λ (c : ℕ) (ws : List PlainWaiting). placed_from c (drop c (committed_of theirs)) ++ map waiting ws) long rest
        ∙ ap (λ (l : List PlainEntry). placed_from (suc (length (committed_of mine))) l ++ map waiting (missing (vector_of (entries_of mine)) (committed_of theirs) (tentative_of theirs)))
        (drop_next (length (committed_of mine)) (committed_of theirs) back e q)

    pub settled_next : Following (n.hut i) (n.hut j)
    settled_next =
        let w = settled (length (committed_of mine)) e in
        record {
          w = w;
          ws = placed_from (suc (length (committed_of mine))) back ++ map waiting (missing (vector_of (entries_of mine)) (committed_of theirs) (tentative_of theirs));
          is = ap (λ (l : List PlainEntry). placed_from (length (committed_of mine)) l ++ map waiting (missing (vector_of (entries_of mine)) (committed_of theirs) (tentative_of theirs))) q;
          taken = settled-taken;
          left = ap (lacking_in (n.hut i)) (takes-taken w (n.hut j) settled-taken) ∙ settled-left;
        }

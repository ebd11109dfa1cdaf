-- What guests are shown, and what they have made, lasts and stands on their slips.
use Rattle.std.proofs.Common.{◌≡◌, ℕ, ◌<◌, ◌≤◌, max, List, [], ◌∷◌, ◌++◌, length, get_or, Some, None, Option, sym, refl, ap, ◌∙◌, subst, arith}
use mathlib.Core.List.Memᴰ
use Rattle.std.proofs.lemmas.Bool.{eq-eqb}
use Rattle.bookings.specs.Plain.{PlainEntry, PlainKind}
use Rattle.journal.specs.History.{PlainRecord, Tentative, history_of, makes, state_in, synced, unless, wrote}
use Rattle.entry_log.proofs.Stamps.{vector_at}
use Rattle.entry_log.specs.Vectors.{joined_with, vector_of}
use Rattle.replica.specs.Model.{entry_made, make_refusal}
use Rattle.network.specs.Net.{Guest, Net, gives, held, huts, makes_for, served, shown, unless_refused, visit, with_guest, with_hut}
use Rattle.network.specs.Replicas.{entries_in}
use Rattle.network.proofs.Alone.{make-step, sync_step}
use Rattle.network.proofs.Holds.{Becomes, Faithful, Holds, Lasts, becomes_trans, durables, histories, hut-again, huts_of, stays}
use Rattle.network.proofs.Leading.{put_all}
use Rattle.network.proofs.Knowing.{made-own}
use Rattle.network.proofs.Lists.{by_append, by_cons, none_in}
use Rattle.network.proofs.Marks.{◌∈◌, ◌⊆◌}
use Rattle.network.proofs.Numbers.{highest_more, joined_at, joined_long, vector_above}
use Rattle.network.proofs.Parts.{Older, older_self}
use Rattle.network.proofs.Sending.{known_lasts}
use Rattle.network.proofs.Tests.{cond_by}
use Rattle.network.proofs.Valid.{Made}

-- a guest to whom entries that last were added, and noted on the slip
kept_more :
    (d : ℕ → List PlainRecord) (g g' : Guest) (l : List PlainEntry) → g'.slip ≡ joined_with g.slip (vector_of l) → held g' ⊆ (l ++ held g)
    → (l ++ held g) ⊆ held g' → ((k : PlainEntry) → k ∈ l → Lasts d k × (k.mark.hut < huts)) → Faithful d g → Faithful d g'
kept_more d g g' l slip to from new s =
    record {
      lasts = λ k m. by_append l (to k m) (λ u. (new k u).0) (s.lasts k);
      low = λ k m. by_append l (to k m) (λ u. (new k u).1) (s.low k);
      long = ap length slip ∙ joined_long g.slip (vector_of l) ∙ s.long;
      noted = λ k m. by_append l (to k m) (noted-new k) (noted-old k);
      only =
          λ h lt.
          let a = s.only h lt in
          let b = highest_more (held g) (held g') h (λ k m. from k (Memᴰ.append_right l m)) in
          let c = highest_more l (held g') h (λ k m. from k (Memᴰ.append_left (held g) m)) in
          omega (arith, at h lt, vector_at l h lt);
    }
  where
    at : (h : ℕ) → h < huts → get_or g'.slip h 0 ≡ max (get_or g.slip h 0) (get_or (vector_of l) h 0)
    at h lt = ap (λ (v : List ℕ). get_or v h 0) slip ∙ joined_at g.slip (vector_of l) h s.long lt

    noted-new : (k : PlainEntry) → k ∈ l → k.mark.stamp ≤ get_or g'.slip k.mark.hut 0
    noted-new k u = omega (arith, at k.mark.hut (new k u).1, vector_above k l u (new k u).1)

    noted-old : (k : PlainEntry) → k ∈ held g → k.mark.stamp ≤ get_or g'.slip k.mark.hut 0
    noted-old k u = omega (arith, at k.mark.hut (s.low k u), s.noted k u)

-- another guest in place of one
guest-step : {every : List PlainEntry} (n : Net) → Holds every n → (g : ℕ) (x : Guest) → Faithful (durables n) x → Becomes every n (with_guest g x n)
guest-step n I g x s =
    record {
      holds = record { own = I.own; valid = I.valid; all = I.all; led = I.led; said = I.said; guests = put_all (λ h y. Faithful (durables n) y) g x n.guest s I.guests };
      grows = λ h. older_self (durables n h);
    }

-- a guest is shown the log of a hut
pub visit-step : {every : List PlainEntry} (n : Net) → Holds every n → (i g : ℕ) → Becomes every n (visit g i n)
visit-step {every} n I i g =
    cond_by (Becomes every n) (served (n.guest g) (n.hut i)) (with_guest g (shown (n.guest g) (n.hut i)) m) n
    (λ _. becomes_trans n m (with_guest g (shown (n.guest g) (n.hut i)) m) b (guest-step m b.holds g (shown (n.guest g) (n.hut i)) now)) (λ _. stays n I)
  where
    m : Net
    m = with_hut i (synced (n.hut i)) n

    b : Becomes every n (with_hut i (synced (n.hut i)) n)
    b = sync_step n I i

    now : Faithful (durables m) (shown (n.guest g) (n.hut i))
    now =
        let x = n.guest g in
        let l = entries_in (n.hut i) in
        kept_more (durables m) x (shown x (n.hut i)) l refl
        (λ k d.
        by_append x.gave d (λ u. Memᴰ.append_right l (Memᴰ.append_left x.seen u))
        (λ u. by_append x.seen u (λ v. Memᴰ.append_right l (Memᴰ.append_right x.gave v)) (Memᴰ.append_left (held x))))
        (λ k d.
        by_append l d (λ u. Memᴰ.append_right x.gave (Memᴰ.append_right x.seen u))
        (λ u. by_append x.gave u (Memᴰ.append_left (x.seen ++ l)) (λ v. Memᴰ.append_right x.gave (Memᴰ.append_left l v))))
        (λ k u. let w = known_lasts n I i k u in ((w.0, w.2), (made-own (huts_of n I) k w.0 w.1).hut)) (b.holds.guests g)

-- a guest has an entry made
pub makes_for-step :
    {every : List PlainEntry} (n : Net) → Holds every n → (i g : ℕ) (kind : PlainKind) → i < huts → entry_made kind (state_in (n.hut i)) ∈ every
    → Becomes every n (makes_for g i kind n)
makes_for-step {every} n I i g kind low listed =
    cond_by (Becomes every n) (served (n.guest g) (n.hut i)) (unless_refused refusal n (with_guest g x m)) n (λ _. by-refusal refusal refl) (λ _. stays n I)
  where
    e : PlainEntry
    e = entry_made kind (state_in (n.hut i))

    refusal : Option ℕ
    refusal = make_refusal kind (state_in (n.hut i))

    x : Guest
    x = gives (n.guest g) (entry_made kind (state_in (n.hut i)))

    m : Net
    m = with_hut i (synced (makes kind (n.hut i))) n

    b : Becomes every n (with_hut i (synced (makes kind (n.hut i))) n)
    b =
        let r = makes kind (n.hut i) in
        let a = make-step n I i kind low listed in
        becomes_trans n (with_hut i r n) m a (subst (Becomes every (with_hut i r n)) (hut-again synced i r n) (sync_step (with_hut i r n) a.holds i))

    -- it is the hut's newest record, and durable
    made : make_refusal kind (state_in (n.hut i)) ≡ None → Made (durables m) e (histories n i)
    made q =
        subst (λ (h : ℕ). Older (Tentative e ∷ histories n i) (durables m h)) (sym (I.own i))
        (rw (eq-eqb i i refl, durables)
        (subst (λ (o : Option ℕ). Older (Tentative e ∷ histories n i) (history_of (unless o (n.hut i) (wrote (Tentative e) (n.hut i))))) (sym q)
        (older_self (Tentative e ∷ histories n i))))

    now : make_refusal kind (state_in (n.hut i)) ≡ None → Faithful (durables m) (gives (n.guest g) (entry_made kind (state_in (n.hut i))))
    now q =
        kept_more (durables m) (n.guest g) x (e ∷ []) refl (λ k d. d) (λ k d. d)
        (λ k u. by_cons u (λ p. subst (λ (y : PlainEntry). Lasts (durables m) y × (y.mark.hut < huts)) (sym p) ((histories n i, made q), omega (arith, I.own i, low))) none_in)
        (b.holds.guests g)

    by-refusal : (o : Option ℕ) → make_refusal kind (state_in (n.hut i)) ≡ o → Becomes every n (unless_refused o n (with_guest g x m))
    by-refusal None q = becomes_trans n m (with_guest g x m) b (guest-step m b.holds g x (now q))
    by-refusal (Some number) q = stays n I

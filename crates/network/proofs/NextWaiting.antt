-- The first tentative entry that a replica lacks is taken, and the rest is then lacking.
use Rattle.std.proofs.Common.{◌≡◌, ℕ, ◌<◌, ◌≤◌, List, [], ◌∷◌, ◌++◌, map, length, get_or, None, sym, refl, ap, ◌∙◌, subst, ap₂, append_assoc, arith}
use mathlib.Core.List.Memᴰ
use Rattle.std.proofs.lemmas.List.{drop_all}
use Rattle.bookings.specs.Plain.{PlainEntry, PlainMark}
use Rattle.journal.specs.History.{PlainRecord, Tentative, state_in, wrote}
use Rattle.entry_log.proofs.Stamps.{vector_at}
use Rattle.entry_log.specs.Vectors.{highest, vector_of}
use Rattle.replica.specs.Model.{capacity}
use Rattle.entry_log.specs.Waits.{PlainWaiting}
use Rattle.replica.specs.Parcels.{missing}
use Rattle.letters.specs.Items.{placed_from, waiting}
use Rattle.network.specs.Items.{refusal_of}
use Rattle.network.specs.Net.{Net, huts}
use Rattle.network.specs.Replicas.{committed_of, entries_of, tentative_of}
use Rattle.network.proofs.Histories.{sorted}
use Rattle.network.proofs.Holds.{Holds, durables, histories}
use Rattle.network.proofs.Lacking.{Following, committed-within, lacking_in, missing_stays, tentative-within}
use Rattle.network.proofs.Lists.{by_append, by_last, stands}
use Rattle.network.proofs.Logs.{log_new, log_old}
use Rattle.network.proofs.Marks.{Fresh, ◌∈◌, ◌⊆◌}
use Rattle.network.proofs.Missing.{First, missing_skips}
use Rattle.network.proofs.Numbers.{covers_known, highest_above, vector_above}
use Rattle.network.proofs.Refusals.{tentative_allows}
use Rattle.network.proofs.Room.{known_own, room}
use Rattle.network.proofs.Sorting.{Sorted, sorted_behind}
use Rattle.network.proofs.Taken.{takes-taken}

module _ {every : List PlainEntry} (n : Net) (I : Holds every n) (few : length every < capacity) (i j : ℕ) where
  abbrev theirs : List PlainRecord
  theirs = histories n i

  abbrev mine : List PlainRecord
  mine = histories n j

  -- hut j has as many committed, and lacks an entry that is tentative
  module _ (short : length (committed_of theirs) ≤ length (committed_of mine)) (f : First (vector_of (entries_of mine)) (committed_of theirs) (tentative_of theirs)) where
    abbrev ahead : List PlainEntry
    ahead = committed_of theirs ++ f.front

    there : entries_of theirs ≡ ahead ++ (f.e ∷ f.back)
    there = ap (λ (l : List PlainEntry). committed_of theirs ++ l) f.at ∙ sym (append_assoc (committed_of theirs) f.front (f.e ∷ f.back))

    known : f.e ∈ entries_of theirs
    known = subst (λ (l : List PlainEntry). f.e ∈ l) (sym there) (stands f.e ahead f.back)

    new : Fresh f.e.mark (entries_of mine)
    new k d q =
        let a = highest_above k (entries_of mine) d in
        let s = ap (λ (m : PlainMark). m.stamp) q in
        let h = ap (λ (m : PlainMark). highest (entries_of mine) m.hut) q in
        omega (arith, f.lacked, vector_at (entries_of mine) f.e.mark.hut (known_own n I i f.e known).0)

    -- all that stands before it is known
    ahead-known : ahead ⊆ entries_of mine
    ahead-known k d =
        by_append (committed_of theirs) d (committed-within n I i j short k)
        (λ o. tentative-within n I i j k (subst (λ (l : List PlainEntry). k ∈ l) (sym f.at) (Memᴰ.append_left (f.e ∷ f.back) o)) (f.had k o))

    waiting-taken : refusal_of (waiting (record { entry = f.e; stood = vector_of ahead })) (state_in (n.hut j)) ≡ None
    waiting-taken =
        tentative_allows f.e (vector_of ahead) (state_in (n.hut j)) new (covers_known (entries_of mine) ahead ahead-known) (room n I few i j f.e known new)

    -- what stands behind it and is of its hut has a higher stamp
    waiting-below : (k : PlainEntry) → k ∈ f.back → f.e.mark.hut ≡ k.mark.hut → f.e.mark.stamp < k.mark.stamp
    waiting-below k d same = let b = sorted_behind f.e k f.front f.back (subst Sorted f.at (sorted every (durables n) i theirs (I.valid i))) d in omega arith

    -- what hut j knows when it has taken it
    abbrev grown : List PlainEntry
    grown = entries_of (Tentative f.e ∷ mine)

    ahead-low : (k : PlainEntry) → k ∈ ahead → k.mark.hut < huts
    ahead-low k d = (known_own n I i k (subst (λ (l : List PlainEntry). k ∈ l) (sym there) (Memᴰ.append_left (f.e ∷ f.back) d))).0

    -- it and what stands before it is then had
    had-then : (k : PlainEntry) → k ∈ (f.front ++ f.e ∷ []) → k.mark.stamp ≤ get_or (vector_of grown) k.mark.hut 0
    had-then k d =
        by_last f.front d
        (λ u. let a = Memᴰ.append_right (committed_of theirs) u in vector_above k grown (log_old f.e mine k (ahead-known k a)) (ahead-low k a))
        (λ p. subst (λ (x : PlainEntry). x.mark.stamp ≤ get_or (vector_of grown) x.mark.hut 0) (sym p) own)
      where
        own : f.e.mark.stamp ≤ get_or (vector_of grown) f.e.mark.hut 0
        own = vector_above f.e grown (log_new (Tentative f.e) mine) (known_own n I i f.e known).0

    waiting-left :
        lacking_in (n.hut i) (wrote (Tentative f.e) (n.hut j)) ≡ map waiting (missing (vector_of (entries_of mine)) (committed_of theirs ++ (f.front ++ f.e ∷ [])) f.back)
    waiting-left =
        let v : List ℕ = vector_of grown in
        let c : ℕ = length (committed_of mine) in
        ap₂ (λ (l ts : List PlainEntry). placed_from c l ++ map waiting (missing v (committed_of theirs) ts)) (drop_all c (committed_of theirs) short)
        (f.at ∙ sym (append_assoc f.front (f.e ∷ []) f.back))
        ∙ ap (λ (ws : List PlainWaiting). map waiting ws)
        (missing_skips v (committed_of theirs) (f.front ++ f.e ∷ []) f.back had-then
        ∙ missing_stays n I i j f.e (Tentative f.e) refl (log_old f.e mine) (committed_of theirs ++ (f.front ++ f.e ∷ [])) f.back
        (λ k d. subst (λ (l : List PlainEntry). k ∈ l) (sym there) (Memᴰ.append_right ahead (Memᴰ.tail d))) waiting-below)

    pub waiting_next : Following (n.hut i) (n.hut j)
    waiting_next =
        let w = waiting (record { entry = f.e; stood = vector_of ahead }) in
        record {
          w = w;
          ws = map waiting (missing (vector_of (entries_of mine)) (committed_of theirs ++ (f.front ++ f.e ∷ [])) f.back);
          is =
              ap₂ (λ (l : List PlainEntry) (ws : List PlainWaiting). placed_from (length (committed_of mine)) l ++ map waiting ws)
              (drop_all (length (committed_of mine)) (committed_of theirs) short) f.is;
          taken = waiting-taken;
          left = ap (lacking_in (n.hut i)) (takes-taken w (n.hut j) waiting-taken) ∙ waiting-left;
        }

-- A letter brings all that its writer has, or 1,024 items that were not there when it was asked for.
use Rattle.std.proofs.Common.{◌≡◌, ℕ, ◌+◌, ◌-◌, ◌<◌, ◌≤◌, ◌⊎◌, List, ◌++◌, map, length, take, drop, sym, ap, subst, inl, inr, arith, length-append, length-drop, length-take}
use mathlib.Core.List.Memᴰ
use mathlib.Core.List.{Memᴰ}
use Rattle.std.proofs.lemmas.Bool.{cases_lt}
use Rattle.std.proofs.lemmas.List.{length-map, take_all}
use Rattle.bookings.specs.Plain.{PlainEntry, PlainMark}
use Rattle.journal.specs.History.{Kept, PlainRecord, history_of}
use Rattle.entry_log.proofs.Stamps.{vector_at}
use Rattle.entry_log.specs.Vectors.{highest, vector_of}
use Rattle.entry_log.specs.Waits.{PlainWaiting}
use Rattle.entry_log.specs.declared.waiting.TheConstants.{MAX_LETTER_ENTRIES}
use Rattle.replica.specs.Model.{capacity}
use Rattle.replica.specs.Parcels.{missing, parcel_of}
use Rattle.letters.specs.Items.{placed_from, waiting}
use Rattle.network.specs.Items.{Letter, items_taken, words_for}
use Rattle.network.specs.Net.{Net, with_hut}
use Rattle.network.specs.Replicas.{committed_in, committed_of, entries_in, entries_of, tentative_in}
use Rattle.network.proofs.Histories.{log_once, sorted}
use Rattle.network.proofs.Holds.{Holds, durables, histories, huts_of, same_step}
use Rattle.network.proofs.Late.{on_by}
use Rattle.network.proofs.LateLetters.{AllSaid, At}
use Rattle.network.proofs.LateWhole.{committed-there, first-brought, first_part, had-there, halfway, items_two, parts-brought, second_part, still}
use Rattle.network.proofs.Lists.{by_append}
use Rattle.network.proofs.Marks.{◌∈◌, ◌⊆◌}
use Rattle.network.proofs.Numbers.{highest_above}
use Rattle.network.proofs.Parts.{Older, older_trans}
use Rattle.network.proofs.Room.{known_own}
use Rattle.network.proofs.Sorting.{Once, no_more, once_two, sorted_once}
use Rattle.network.proofs.Taken.{take_all_older}
use Rattle.network.proofs.Taking.{take_all-step}
use Rattle.network.proofs.Valid.{log_older, valid_older}
use Rattle.network.proofs.WalksBring.{Got}
use Rattle.network.proofs.Whole.{hut_self}
use Rattle.network.proofs.MissingEntries.{entries_waiting, missing_new, missing_once, missing_or, waits_in, waits_of}

-- entries that are known, and entries that are committed
abbrev pub measure : List PlainRecord → ℕ
measure rs = length (entries_of rs) + length (committed_of rs)

module _
    {every : List PlainEntry} (n : Net) (I : Holds every n) (few : length every < capacity)
    (i j : ℕ) where
  module _
      (k : Kept) (theirs : Older (history_of k) (durables n i)) (b : List PlainRecord)
      (mine : Older b (durables n j)) (most : ℕ) where
    abbrev has : List ℕ
    has = vector_of (entries_of b)

    abbrev lacked : ℕ
    lacked =
        length (drop (length (committed_of b)) (committed_in k)) + length
        (missing has (committed_in k) (tentative_in k))

    abbrev settled_part : List PlainEntry
    settled_part = first_part n I few i j k theirs b mine most

    abbrev letter : Letter
    letter =
        placed_from (length (committed_of b)) settled_part
        ++ second_part n I few i j k theirs b mine most

    module _ (said : AllSaid n letter) where
      abbrev end : Kept
      end = items_taken letter (n.hut j)

      at-end : At every n j end
      at-end = take_all-step n j letter (n.hut j) said (same_step n I j)

      -- the committed entries of the letter are committed
      long : length (committed_of b) + length settled_part ≤ length (committed_in end)
      long =
          let half = halfway n I few i j k theirs b mine most said in
          let later = items_taken (second_part n I few i j k theirs b mine most) half in
          let same : later ≡ end =
          sym (items_two (placed_from (length (committed_of b)) settled_part)
          (second_part n I few i j k theirs b mine most) (n.hut j)) in
          let at-later = subst (At every n j) (sym same) at-end in
          let on =
          on_by n j half later at-later (take_all_older
          (second_part n I few i j k theirs b mine most) half) in
          subst (λ (x : Kept). length (committed_of b) + length settled_part ≤ length
          (committed_in x)) same
          (omega (
            arith,
            (first-brought n I few i j k theirs b mine most said).1,
            ap length on.0.1,
            length-append (committed_in half) on.0.0,
          ))

      -- a letter with room for all brings all
      brings-all : lacked ≤ most → Got (history_of k) (history_of end)
      brings-all le = (
        enough,
        λ e d. by_append (committed_in k) d
            (committed-there n I few i j k theirs b mine end at-end enough e) (waits e),
      )
        where
          enough : length (committed_in k) ≤ length (committed_in end)
          enough =
              omega (
                arith,
                le,
                long,
                length-drop (length (committed_of b)) (committed_in k),
                length-take most (drop (length (committed_of b)) (committed_in k)),
              )

          whole : take (most - length settled_part) (missing has (committed_in k) (tentative_in k))
              ≡ missing has (committed_in k) (tentative_in k)
          whole =
              take_all (most - length settled_part) (missing has (committed_in k) (tentative_in k))
              (omega (
                arith,
                le,
                length-take most
                    (drop (length (committed_of b)) (committed_in k)),
              ))

          waits : (e : PlainEntry) → e ∈ tentative_in k → e ∈ entries_in end
          waits e d = elim (missing_or has (committed_in k) (tentative_in k) e d) [
            | inl l ↦ had-there n I few i j k theirs b mine end at-end e d l
            | inr s ↦
                let there =
                subst (λ (ws : List PlainWaiting). Memᴰ (waiting s.0) (map waiting ws)) (sym whole)
                (waits_in (missing has (committed_in k) (tentative_in k)) s.0 s.1) in
                subst (λ (x : PlainEntry). x ∈ entries_in end) s.2
                (parts-brought n I few i j k theirs b mine most said (waiting s.0)
                (Memᴰ.append_right (placed_from (length (committed_of b)) settled_part) there))
          ]

      -- a full letter brings so many that were not there
      brings-more : most < lacked → measure b + most ≤ measure (history_of end)
      brings-more lt =
          omega (
            arith,
            lt,
            long,
            count,
            length-append new (entries_of b),
            length-map ws (λ (w : PlainWaiting). w.entry),
            length-take most (drop (length (committed_of b)) (committed_in k)),
            length-take (most - length settled_part) (missing has (committed_in k) (tentative_in k)),
          )
        where
          ws : List PlainWaiting
          ws = take (most - length settled_part) (missing has (committed_in k) (tentative_in k))

          new : List PlainEntry
          new =
              entries_waiting (take (most - length settled_part)
              (missing has (committed_in k) (tentative_in k)))

          theirs-here : Older (history_of k) (histories n i)
          theirs-here =
              older_trans (history_of k) (durables n i) (histories n i) theirs
              ((huts_of n I).part i)

          mine-here : Older b (histories n j)
          mine-here = older_trans b (durables n j) (histories n j) mine ((huts_of n I).part j)

          -- they are none of those that were known
          apart-there : (x l : PlainEntry) → x ∈ new → l ∈ entries_of b → x.mark ≡ l.mark → ⊥
          apart-there x l d m q =
              let p =
              missing_new has (tentative_in k) (most - length settled_part) (committed_in k) x d in
              let known =
              log_older every (durables n) i (history_of k) (histories n i) theirs-here (I.valid i)
              x (Memᴰ.append_right (committed_in k) p.0) in
              let s = ap (λ (y : PlainMark). y.stamp) q in
              let h = ap (λ (y : PlainMark). highest (entries_of b) y.hut) q in
              omega (
                arith,
                p.1,
                s,
                h,
                highest_above l (entries_of b) m,
                vector_at (entries_of b) x.mark.hut (known_own n I i x known).0,
              )

          distinct : Once (new ++ entries_of b)
          distinct =
              once_two new (entries_of b)
              (missing_once has (tentative_in k) (most - length settled_part) (committed_in k)
              (sorted_once (tentative_in k) (sorted every (durables n) i (history_of k)
              (valid_older every (durables n) i (history_of k) (histories n i) theirs-here
              (I.valid i)))))
              (log_once every (durables n) j b
              (valid_older every (durables n) j b (histories n j) mine-here (I.valid j)))
              apart-there

          new-there : new ⊆ entries_in end
          new-there x d =
              let w = waits_of ws x d in
              subst (λ (y : PlainEntry). y ∈ entries_in end) w.2
              (parts-brought n I few i j k theirs b mine most said (waiting w.0)
              (Memᴰ.append_right (placed_from (length (committed_of b)) settled_part) w.1))

          old-there : entries_of b ⊆ entries_in end
          old-there x d =
              let m = with_hut j end n in
              subst (λ (y : Kept). x ∈ entries_in y) (hut_self j end n)
              (log_older every (durables m) j b (histories m j)
              (still n I few i j k theirs b mine end at-end j b mine) (at-end.holds.valid j) x d)

          count : length (new ++ entries_of b) ≤ length (entries_in end)
          count =
              no_more (new ++ entries_of b) (entries_in end) distinct
              (λ x d. by_append new d (new-there x) (old-there x))

  -- so it is with a letter, which has room for 1,024
  module _
      (k : Kept) (theirs : Older (history_of k) (durables n i)) (b : List PlainRecord)
      (mine : Older b (durables n j)) where
    abbrev asked : Letter
    asked = words_for (length (committed_of b)) (vector_of (entries_of b)) k

    pub letter-grows : AllSaid n asked
        → Got (history_of k) (history_of (items_taken asked (n.hut j)))
        ⊎ (measure b + MAX_LETTER_ENTRIES ≤ measure (history_of (items_taken asked (n.hut j))))
    unfolding parcel_of
    letter-grows said = elim (cases_lt MAX_LETTER_ENTRIES (lacked k theirs b mine MAX_LETTER_ENTRIES)) [
      | inl lt ↦ inr (brings-more k theirs b mine MAX_LETTER_ENTRIES said lt)
      | inr le ↦ inl (brings-all k theirs b mine MAX_LETTER_ENTRIES said le)
    ]

-- A letter brings all that is in it to whoever has what it was written for, whatever has come.
use Rattle.std.proofs.Common.{◌≡◌, ℕ, ◌+◌, ◌-◌, ◌<◌, ◌≤◌, ◌⊎◌, List, [], ◌∷◌, ◌++◌, map, length, get_or, take, drop, sym, refl, ap, subst, inl, inr, arith, length-append, length-drop, length-take}
use mathlib.Core.List.Memᴰ
use mathlib.Core.List.{Memᴰ}
use Rattle.std.proofs.lemmas.Bool.{cases_lt}
use Rattle.bookings.specs.Plain.{PlainEntry}
use Rattle.journal.specs.History.{Kept, PlainRecord, history_of}
use Rattle.entry_log.proofs.Stamps.{vector_at}
use Rattle.entry_log.specs.Vectors.{vector_of}
use Rattle.entry_log.specs.declared.waiting.TheConstants.{MAX_LETTER_ENTRIES}
use Rattle.replica.specs.Model.{capacity}
use Rattle.replica.specs.Parcels.{missing, parcel_of}
use Rattle.letters.specs.Items.{placed_from, waiting}
use Rattle.network.specs.Items.{Letter, items_taken, takes, words_for}
use Rattle.network.specs.Late.{HasItem}
use Rattle.network.specs.Net.{Net, with_hut}
use Rattle.network.specs.Promise.{Prefix}
use Rattle.network.specs.Replicas.{committed_in, committed_of, entries_in, entries_of, tentative_in}
use Rattle.network.proofs.Holds.{Holds, durables, histories, huts_of, same_step, so_far}
use Rattle.network.proofs.Knowing.{known_number, known_then, made-own}
use Rattle.network.proofs.Late.{on_by, on_has}
use Rattle.network.proofs.LateLetters.{AllSaid, At, Brought, brings_settled, brings_waiting}
use Rattle.network.proofs.Lists.{by_append, none_in}
use Rattle.network.proofs.Marks.{◌∈◌, ◌⊆◌}
use Rattle.network.proofs.Numbers.{highest_more}
use Rattle.network.proofs.Parts.{Older, committed_older, older_trans, prefix_either, prefix_full, prefix_self, prefix_trans}
use Rattle.network.proofs.Safety.{order_in}
use Rattle.network.proofs.Taken.{take_all_older}
use Rattle.network.proofs.Taking.{take_all-step}
use Rattle.network.proofs.Valid.{log_older}
use Rattle.network.proofs.Whole.{hut_self}

-- the items of two letters, one letter after the other
pub items_two : (a b : Letter) (x : Kept) → items_taken (a ++ b) x ≡ items_taken b (items_taken a x)
unfolding items_taken
items_two [] b x = refl
items_two (w ∷ a) b x = items_two a b (takes w x)

-- of what begins one list, and another that begins it or goes on, the shorter begins the longer
pub prefix_short : (a b c : List PlainEntry) → Prefix a c → Prefix b c ⊎ Prefix c b
    → length a ≤ length b → Prefix a b
prefix_short a b c p (inr q) le = prefix_trans a c b p q
prefix_short a b c p (inl q) le = elim (prefix_either a b c p q) [
  | inl r ↦ r
  | inr r ↦ subst (Prefix a) (prefix_full b a r le) (prefix_self a)
]

module _
    {every : List PlainEntry} (n : Net) (I : Holds every n) (few : length every < capacity)
    (i j : ℕ) where
  module _
      (k : Kept) (theirs : Older (history_of k) (durables n i)) (b : List PlainRecord)
      (mine : Older b (durables n j)) where
    -- what was durable is among the records, whatever hut j has come to have
    pub still : (x : Kept) (at : At every n j x) (h : ℕ) (rs : List PlainRecord)
        → Older rs (durables n h) → Older rs (histories (with_hut j x n) h)
    still x at h rs o =
        let m = with_hut j x n in
        older_trans rs (durables m h) (histories m h)
        (older_trans rs (durables n h) (durables m h) o (at.grows h)) ((huts_of m at.holds).part h)

    -- what the writer had as committed, who has as many committed has too
    pub committed-there : (x : Kept) → At every n j x
        → length (committed_in k) ≤ length (committed_in x) → committed_in k ⊆ entries_in x
    committed-there x at le e d =
        let m = with_hut j x n in
        let first =
        committed_older (history_of k) (histories m i) (still x at i (history_of k) theirs) in
        let q = hut_self j x n in
        let p =
        subst (λ (y : Kept). length (committed_in k) ≤ length (committed_in y)
        → Prefix (committed_in k) (committed_in y)) q
        (prefix_short (committed_in k) (so_far m j) (so_far m i) first (order_in m at.holds j i))
        le in
        Memᴰ.append_left (tentative_in x)
        (subst (λ (l : List PlainEntry). e ∈ l) (sym p.1) (Memᴰ.append_left p.0 d))

    -- what was left out of the letter is known
    pub had-there : (x : Kept) → At every n j x → (e : PlainEntry) → e ∈ tentative_in k
        → e.mark.stamp ≤ get_or (vector_of (entries_of b)) e.mark.hut 0 → e ∈ entries_in x
    had-there x at e d le =
        let m = with_hut j x n in
        let H = huts_of m at.holds in
        let w =
        known_then H i (history_of k) (still x at i (history_of k) theirs) e
        (Memᴰ.append_right (committed_in k) d) in
        let low = (made-own H e w.0 w.1).hut in
        let more =
        log_older every (durables m) j b (histories m j) (still x at j b mine) (at.holds.valid j) in
        subst (λ (y : Kept). e ∈ entries_in y) (hut_self j x n)
        (known_number H j e w.0 w.1 (omega (
          arith,
          le,
          vector_at (entries_of b) e.mark.hut low,
          highest_more (entries_of b) (entries_of (histories m j)) e.mark.hut more,
        )))

    abbrev pub count : ℕ
    count = length (committed_of b)

    abbrev pub first_part : ℕ → List PlainEntry
    first_part most = take most (drop count (committed_in k))

    abbrev pub second_part : ℕ → Letter
    second_part most =
        map waiting (take (most - length (first_part most))
        (missing (vector_of (entries_of b)) (committed_in k) (tentative_in k)))

    module _
        (most : ℕ) (said : AllSaid n (placed_from count (first_part most) ++ second_part most)) where
      abbrev said-first : AllSaid n (placed_from count (first_part most))
      said-first = λ w m. said w (Memᴰ.append_left (second_part most) m)

      abbrev pub halfway : Kept
      halfway = items_taken (placed_from count (first_part most)) (n.hut j)

      pub at-halfway : At every n j halfway
      at-halfway =
          take_all-step n j (placed_from count (first_part most)) (n.hut j) said-first
          (same_step n I j)

      pub first-brought : Brought (placed_from count (first_part most)) (n.hut j)
          × (count + length (first_part most) ≤ length (committed_in halfway))
      first-brought =
          let p =
          committed_older b (histories n j)
          (older_trans b (durables n j) (histories n j) mine ((huts_of n I).part j)) in
          brings_settled n few j (first_part most) count (n.hut j) (same_step n I j) said-first
          (omega (arith, ap length p.1, length-append (committed_of b) p.0))

      second-brought : Brought (second_part most) halfway
      second-brought = elim (cases_lt (length (first_part most)) most) [
        | inl lt ↦
            brings_waiting n few j (vector_of (entries_of b)) (tentative_in k)
            (most - length (first_part most)) (committed_in k) halfway at-halfway
            (λ w m. said w (Memᴰ.append_right (placed_from count (first_part most)) m))
            (committed-there halfway at-halfway
            (omega (
              arith,
              first-brought.1,
              lt,
              length-take most (drop count (committed_in k)),
              length-drop count (committed_in k),
            )))
            (had-there halfway at-halfway)
        | inr le ↦
            let none : most - length (first_part most) ≡ 0 = omega arith in
            λ w m. none_in (subst (λ (r : ℕ). Memᴰ w
            (map waiting (take r (missing (vector_of (entries_of b)) (committed_in k)
            (tentative_in k))))) none m)
      ]

      pub parts-brought : Brought (placed_from count (first_part most) ++ second_part most)
          (n.hut j)
      parts-brought w m =
          let end = items_taken (second_part most) halfway in
          let at-end =
          take_all-step n j (second_part most) halfway
          (λ v d. said v (Memᴰ.append_right (placed_from count (first_part most)) d)) at-halfway in
          let on = on_by n j halfway end at-end (take_all_older (second_part most) halfway) in
          subst (λ (x : Kept). HasItem x w)
          (sym (items_two (placed_from count (first_part most)) (second_part most) (n.hut j)))
          (by_append (placed_from count (first_part most)) m
          (λ u. on_has halfway end w on (first-brought.0 w u)) (second-brought w))

    pub letter-brought : AllSaid n (words_for (length (committed_of b)) (vector_of (entries_of b))
        k) → Brought (words_for (length (committed_of b)) (vector_of (entries_of b)) k) (n.hut j)
    unfolding parcel_of
    letter-brought said = parts-brought MAX_LETTER_ENTRIES said

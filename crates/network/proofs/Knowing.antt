-- What the histories of all huts say of each other: who knows what, by marks and by vectors.
use Rattle.std.proofs.Common.{◌≡◌, ℕ, ◌<◌, ◌≤◌, true, ◌⊎◌, List, ◌∷◌, ◌++◌, get_or, sym, refl, ap, subst, inl, inr, arith}
use mathlib.Core.List.Memᴰ
use Rattle.bookings.specs.Plain.{PlainEntry, PlainMark}
use Rattle.journal.specs.History.{PlainRecord, Tentative}
use Rattle.entry_log.proofs.Stamps.{vector_at}
use Rattle.entry_log.specs.Vectors.{covers, highest, vector_of}
use Rattle.network.specs.Replicas.{committed_of, entries_of, tentative_of}
use Rattle.network.proofs.Growth.{made_in}
use Rattle.network.proofs.Histories.{committed_behind, known_made, sorted}
use Rattle.network.proofs.Lists.{split-two, stands}
use Rattle.network.proofs.Logs.{log_new}
use Rattle.network.proofs.Marks.{◌∈◌, ◌⊆◌}
use Rattle.network.proofs.Numbers.{covers_at, highest_one}
use Rattle.network.proofs.Parts.{Older, older_either, older_heads, older_self}
use Rattle.network.proofs.Sorting.{Sorted, sorted_behind}
use Rattle.network.proofs.Valid.{Fits, Made, Own, Valid, log_older, valid_older}

-- the histories of all huts, the durable parts of them, and all that was ever made
pub record Huts : Type 0 where
  pub hist : ℕ → List PlainRecord
  pub dur : ℕ → List PlainRecord
  pub every : List PlainEntry
  pub valid : (h : ℕ) → Valid every dur h (hist h)
  pub part : (h : ℕ) → Older (dur h) (hist h)

module _ (H : Huts) where
  open H use {hist, dur, every, valid, part}

  -- its maker gave it a stamp above all that it knew
  pub made-own : (e : PlainEntry) (older : List PlainRecord) → Made hist e older → Own every e.mark.hut e older
  made-own e older m = go (valid_older every dur e.mark.hut (Tentative e ∷ older) (hist e.mark.hut) m (valid e.mark.hut)).0
    where
      go : Fits every dur e.mark.hut (Tentative e) older → Own every e.mark.hut e older
      go (inl f) = f
      go (inr f) = absurd (f.other refl)

  -- of two entries of one hut, its maker knew one when making the other
  pub made_order :
      (e f : PlainEntry) (o p : List PlainRecord) → Made hist e o → Made hist f p → e.mark.hut ≡ f.mark.hut
      → ((e ≡ f) × (o ≡ p)) ⊎ ((e ∈ entries_of p) ⊎ (f ∈ entries_of o))
  made_order e f o p m n q =
      let h = f.mark.hut in
      let m' : Older (Tentative e ∷ o) (hist h) = subst (λ (i : ℕ). Older (Tentative e ∷ o) (hist i)) q m in
      elim (older_either (Tentative e ∷ o) (Tentative f ∷ p) (hist h) m' n) [
        | inl u ↦ elim (older_heads (Tentative e) (Tentative f) o p u) [
          | inl w ↦ inl (let r = w.0 in cc, w.1)
          | inr w ↦ inr (inl (within h e f o p n w))
        ]
        | inr u ↦ elim (older_heads (Tentative f) (Tentative e) p o u) [
          | inl w ↦ inl (let r = w.0 in cc, sym w.1)
          | inr w ↦ inr (inr (within h f e p o m' w))
        ]
      ]
    where
      within : (h : ℕ) (e f : PlainEntry) (o p : List PlainRecord) → Older (Tentative f ∷ p) (hist h) → Older (Tentative e ∷ o) p → e ∈ entries_of p
      within h e f o p n w =
          log_older every dur h (Tentative e ∷ o) p w (valid_older every dur h (Tentative f ∷ p) (hist h) n (valid h)).1 e (log_new (Tentative e) o)

  -- a mark belongs to one entry, made once
  pub made_once : (e f : PlainEntry) (o p : List PlainRecord) → Made hist e o → Made hist f p → e.mark ≡ f.mark → (e ≡ f) × (o ≡ p)
  made_once e f o p m n q =
      let s = ap (λ (x : PlainMark). x.stamp) q in
      elim (made_order e f o p m n (ap (λ (x : PlainMark). x.hut) q)) [
        | inl r ↦ r
        | inr (inl r) ↦ let t = (made-own f p n).above e r in absurd (omega arith)
        | inr (inr r) ↦ let t = (made-own e o m).above f r in absurd (omega arith)
      ]

  -- what a hut knew at any time was made, and all that its maker knew was known too
  pub known_then :
      (j : ℕ) (rs : List PlainRecord) → Older rs (hist j) → (k : PlainEntry) → k ∈ entries_of rs
      → (older : List PlainRecord) × Made hist k older × (entries_of older ⊆ entries_of rs)
  known_then j rs at k m = let w = known_made every dur j rs (valid_older every dur j rs (hist j) at (valid j)) k m in (w.0, made_in dur hist part j rs at k w.0 w.1, w.2)

  pub known_here : (j : ℕ) (k : PlainEntry) → k ∈ entries_of (hist j) → (older : List PlainRecord) × Made hist k older × (entries_of older ⊆ entries_of (hist j))
  known_here j = known_then j (hist j) (older_self (hist j))

  -- its maker knows it
  pub maker_knows : (e : PlainEntry) (older : List PlainRecord) → Made hist e older → e ∈ entries_of (hist e.mark.hut)
  maker_knows e older made = log_older every dur e.mark.hut (Tentative e ∷ older) (hist e.mark.hut) made (valid e.mark.hut) e (log_new (Tentative e) older)

  -- who knows an entry of a hut knows all that the hut made before it
  pub known_below :
      (j : ℕ) (k f : PlainEntry) (o : List PlainRecord) → Made hist k o → f ∈ entries_of (hist j) → k.mark.hut ≡ f.mark.hut → k.mark.stamp ≤ f.mark.stamp
      → k ∈ entries_of (hist j)
  known_below j k f o m n q l =
      let w = known_here j f n in
      elim (made_order k f o w.0 m w.1 q) [
        | inl r ↦ Memᴰ.cast r.0 n
        | inr (inl r) ↦ w.2 k r
        | inr (inr r) ↦ let t = (made-own k o m).above f r in absurd (omega arith)
      ]

  -- knowing by vectors: who has as high a stamp of its hut knows an entry
  pub known_number :
      (j : ℕ) (k : PlainEntry) (o : List PlainRecord) → Made hist k o → k.mark.stamp ≤ highest (entries_of (hist j)) k.mark.hut → k ∈ entries_of (hist j)
  known_number j k o m l =
      let f = highest_one (entries_of (hist j)) k.mark.hut k.mark.stamp (made-own k o m).some l in
      known_below j k f.0 o m f.1 (sym f.2) f.3

  pub known_covered :
      (j : ℕ) (v : List ℕ) → covers (vector_of (entries_of (hist j))) v ≡ true → (k : PlainEntry) (o : List PlainRecord) → Made hist k o
      → k.mark.stamp ≤ get_or v k.mark.hut 0 → k ∈ entries_of (hist j)
  known_covered j v t k o m l =
      let low = (made-own k o m).hut in
      let c = covers_at (vector_of (entries_of (hist j))) v t k.mark.hut low in
      known_number j k o m (omega (arith, vector_at (entries_of (hist j)) k.mark.hut low))

  -- an entry stands behind all that its maker knew: that is committed before it, or is known and has a lower stamp
  pub behind :
      (j : ℕ) (e : PlainEntry) (front back : List PlainEntry) (older : List PlainRecord) → entries_of (hist j) ≡ front ++ (e ∷ back) → Made hist e older
      → entries_of older ⊆ front
  behind j e front back older q m k n =
      elim (split-two (committed_of (hist j)) (tentative_of (hist j)) front back e q) [
        | inl p ↦ let w = committed_behind every dur j (hist j) (valid j) e front p.0 p.1 in w.2 k (as_made w.0 (made_in dur hist part j (hist j) (older_self (hist j)) e w.0 w.1))
        | inr p ↦ rw p.1 (among-tentative p.0 p.2 (Memᴰ.append_cases (committed_of (hist j)) known))
      ]
    where
      -- it was made once
      as_made : (o : List PlainRecord) → Made hist e o → k ∈ entries_of o
      as_made o u = subst (λ (l : List PlainRecord). k ∈ entries_of l) (made_once e e older o m u refl).1 n

      known : k ∈ entries_of (hist j)
      known = let w = known_here j e (subst (λ (l : List PlainEntry). e ∈ l) (sym q) (stands e front back)) in w.2 k (as_made w.0 w.1)

      lower : k.mark.stamp < e.mark.stamp
      lower = (made-own e older m).above k n

      among-tentative :
          (c : List PlainEntry) → tentative_of (hist j) ≡ c ++ (e ∷ back) → (k ∈ committed_of (hist j)) ⊎ (k ∈ tentative_of (hist j)) → k ∈ (committed_of (hist j) ++ c)
      among-tentative c r (inl u) = Memᴰ.append_left c u
      among-tentative c r (inr u) =
          let low = lower in
          elim (Memᴰ.append_cases c (subst (λ (l : List PlainEntry). k ∈ l) r u)) [
            | inl x ↦ Memᴰ.append_right (committed_of (hist j)) x
            | inr x ↦ elim (Memᴰ.cases_cons x) [
              | inl y ↦ absurd (let z = ap (λ (z : PlainEntry). z.mark.stamp) y in omega arith)
              | inr y ↦ absurd (let z = sorted_behind e k c back (subst Sorted r (sorted every dur j (hist j) (valid j))) y in omega arith)
            ]
          ]

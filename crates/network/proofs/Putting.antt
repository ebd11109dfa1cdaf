-- Putting an entry where it belongs, and taking a mark out: what a list then has, and that it stays sorted.
use Rattle.std.proofs.Common.{◌≡◌, ◌⊎◌, List, [], ◌∷◌, sym, refl, ap, ◌∙◌, inl, inr}
use mathlib.Core.List.Memᴰ
use Rattle.bookings.specs.Plain.{PlainEntry, PlainMark}
use Rattle.entry_log.specs.Logs.{into, without}
use Rattle.network.proofs.Marks.{Below, Fresh, ◌∈◌, below_trans, by_before, by_mark, by_order}
use Rattle.network.proofs.Sorting.{Sorted}

-- into: what it holds, and that it keeps the order
pub into-has : (e : PlainEntry) (l : List PlainEntry) → e ∈ into e l
into-has e [] = Memᴰ.head refl
into-has e (f ∷ fs) = elim (by_before e.mark f.mark) [ inl p ↦ rw p.1 (Memᴰ.head refl) | inr p ↦ rw p.1 (Memᴰ.tail (into-has e fs)) ]

pub into_keeps : (e k : PlainEntry) (l : List PlainEntry) → k ∈ l → k ∈ into e l
into_keeps e k [] m = Memᴰ.tail m
into_keeps e k (f ∷ fs) m = elim (by_before e.mark f.mark) [ inl p ↦ rw p.1 (Memᴰ.tail m) | inr p ↦ rw p.1 (later (Memᴰ.cases_cons m) (into_keeps e k fs)) ]
  where
    later : (k ≡ f) ⊎ (k ∈ fs) → (k ∈ fs → k ∈ into e fs) → k ∈ (f ∷ into e fs)
    later (inl q) ih = Memᴰ.head q
    later (inr q) ih = Memᴰ.tail (ih q)

pub into_only : (e k : PlainEntry) (l : List PlainEntry) → k ∈ into e l → (k ≡ e) ⊎ (k ∈ l)
into_only e k [] m = Memᴰ.cases_cons m
into_only e k (f ∷ fs) m = elim (by_before e.mark f.mark) [
  | inl p ↦ Memᴰ.cases_cons (rw p.1 at m)
  | inr p ↦ later (Memᴰ.cases_cons (rw p.1 at m)) (into_only e k fs)
]
  where
    later : (k ≡ f) ⊎ (k ∈ into e fs) → (k ∈ into e fs → (k ≡ e) ⊎ (k ∈ fs)) → (k ≡ e) ⊎ (k ∈ (f ∷ fs))
    later (inl q) ih = inr (Memᴰ.head q)
    later (inr q) ih = elim (ih q) [ inl r ↦ inl r | inr r ↦ inr (Memᴰ.tail r) ]

pub into-sorted : (e : PlainEntry) (l : List PlainEntry) → Fresh e.mark l → Sorted l → Sorted (into e l)
into-sorted e [] fresh s = (λ k m. elim m [ ], tt)
into-sorted e (f ∷ fs) fresh s = elim (by_before e.mark f.mark) [
  | inl p ↦ rw p.1 (first p.0, s)
  | inr p ↦ rw p.1 (behind p.0, into-sorted e fs (λ k m. fresh k (Memᴰ.tail m)) s.1)
]
  where
    first : Below e.mark f.mark → (k : PlainEntry) → k ∈ (f ∷ fs) → Below e.mark k.mark
    first b k m = elim (Memᴰ.cases_cons m) [ inl q ↦ rw q b | inr q ↦ below_trans e.mark f.mark k.mark b (s.0 k q) ]

    earlier : (Below e.mark f.mark → ⊥) → Below f.mark e.mark
    earlier no-b = elim (by_order e.mark f.mark) [
      | inl q ↦ absurd (fresh f (Memᴰ.head refl) (sym q))
      | inr (inl q) ↦ absurd (no-b q)
      | inr (inr q) ↦ q
    ]

    behind : (Below e.mark f.mark → ⊥) → (k : PlainEntry) → k ∈ into e fs → Below f.mark k.mark
    behind no-b k m = elim (into_only e k fs m) [ inl q ↦ rw q (earlier no-b) | inr q ↦ s.0 k q ]

-- without: what it holds, and that it keeps the order
pub without_only : (m : PlainMark) (k : PlainEntry) (l : List PlainEntry) → k ∈ without m l → (k ∈ l) × (k.mark ≡ m → ⊥)
without_only m k [] h = elim h [ ]
without_only m k (f ∷ fs) h = elim (by_mark m f.mark) [
  | inl p ↦ let r = without_only m k fs (rw p.1 at h) in (Memᴰ.tail r.0, r.1)
  | inr p ↦ later p.0 (Memᴰ.cases_cons (rw p.1 at h)) (without_only m k fs)
]
  where
    later : (m ≡ f.mark → ⊥) → (k ≡ f) ⊎ (k ∈ without m fs) → (k ∈ without m fs → (k ∈ fs) × (k.mark ≡ m → ⊥)) → (k ∈ (f ∷ fs)) × (k.mark ≡ m → ⊥)
    later apart (inl q) ih = (Memᴰ.head q, λ e. apart (sym e ∙ ap (λ (x : PlainEntry). x.mark) q))
    later apart (inr q) ih = (Memᴰ.tail (ih q).0, (ih q).1)

pub without_keeps : (m : PlainMark) (k : PlainEntry) (l : List PlainEntry) → k ∈ l → (k.mark ≡ m → ⊥) → k ∈ without m l
without_keeps m k [] h apart = h
without_keeps m k (f ∷ fs) h apart = elim (by_mark m f.mark) [
  | inl p ↦ rw p.1 (elim (Memᴰ.cases_cons h) [
    | inl q ↦ absurd (apart (ap (λ (x : PlainEntry). x.mark) q ∙ sym p.0))
    | inr q ↦ without_keeps m k fs q apart
  ])
  | inr p ↦ rw p.1 (elim (Memᴰ.cases_cons h) [
    | inl q ↦ Memᴰ.head q
    | inr q ↦ Memᴰ.tail (without_keeps m k fs q apart)
  ])
]

pub without-sorted : (m : PlainMark) (l : List PlainEntry) → Sorted l → Sorted (without m l)
without-sorted m [] s = tt
without-sorted m (f ∷ fs) s = elim (by_mark m f.mark) [
  | inl p ↦ rw p.1 (without-sorted m fs s.1)
  | inr p ↦ rw p.1 (λ k h. s.0 k (without_only m k fs h).0, without-sorted m fs s.1)
]

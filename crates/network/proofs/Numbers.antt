-- The highest stamps of a list of entries, and which vectors cover which.
use Rattle.std.proofs.Common.{◌≡◌, ℕ, zero, suc, ◌+◌, ◌<◌, ◌≤◌, max, true, List, [], ◌∷◌, length, get_or, sym, refl, ap, inl, inr, arith}
use Rattle.bookings.specs.declared.limits.TheConstants.{HUTS}
use mathlib.Core.List.Memᴰ
use Rattle.std.proofs.lemmas.Bool.{cases_eq, cases_lt, eq-eqb, false≢true, le-leb, lt-leb, ne_eqb}
use Rattle.bookings.proofs.Over.{length_over, over-inside}
use Rattle.bookings.specs.Plain.{PlainEntry}
use Rattle.entry_log.proofs.Stamps.{vector_at}
use Rattle.entry_log.specs.Logs.{top}
use Rattle.entry_log.specs.Vectors.{covers, covers_from, highest, joined_with, vector_of}
use Rattle.network.specs.Net.{huts}
use Rattle.network.proofs.Marks.{◌∈◌, ◌⊆◌}

-- the highest stamps
pub top_above : (k : PlainEntry) (l : List PlainEntry) → k ∈ l → k.mark.stamp ≤ top l
top_above k [] h = elim h [ ]
top_above k (f ∷ fs) h = elim (Memᴰ.cases_cons h) [
  | inl q ↦ rw q (omega arith)
  | inr q ↦ let r = top_above k fs q in omega arith
]

pub highest_above : (k : PlainEntry) (l : List PlainEntry) → k ∈ l → k.mark.stamp ≤ highest l k.mark.hut
highest_above k [] h = elim h [ ]
highest_above k (f ∷ fs) h = elim (cases_eq f.mark.hut k.mark.hut) [
  | inl p ↦ rw (eq-eqb _ _ p) (elim (Memᴰ.cases_cons h) [
    | inl q ↦ rw q (omega arith)
    | inr q ↦ let r = highest_above k fs q in omega arith
  ])
  | inr p ↦ rw (ne_eqb _ _ p) (elim (Memᴰ.cases_cons h) [
    | inl q ↦ absurd (p (ap (λ (x : PlainEntry). x.mark.hut) (sym q)))
    | inr q ↦ highest_above k fs q
  ])
]

-- a number up to the highest stamp is up to some entry's
pub highest_one : (l : List PlainEntry) (h s : ℕ) → 0 < s → s ≤ highest l h → (k : PlainEntry) × (k ∈ l) × (k.mark.hut ≡ h) × (s ≤ k.mark.stamp)
highest_one [] h s p q = absurd (omega arith)
highest_one (f ∷ fs) h s p q =
    elim (cases_eq f.mark.hut h) [
      | inl e ↦ elim (cases_lt f.mark.stamp s) [
        | inl l ↦ let u : s ≤ max f.mark.stamp (highest fs h) = rw (eq-eqb _ _ e) at q in later (highest_one fs h s p (omega arith))
        | inr l ↦ (f, Memᴰ.head refl, e, l)
      ]
      | inr e ↦ later (highest_one fs h s p (rw (ne_eqb _ _ e) at q))
    ]
  where
    later : (k : PlainEntry) × (k ∈ fs) × (k.mark.hut ≡ h) × (s ≤ k.mark.stamp) → (k : PlainEntry) × (k ∈ (f ∷ fs)) × (k.mark.hut ≡ h) × (s ≤ k.mark.stamp)
    later r = (r.0, Memᴰ.tail r.1, r.2, r.3)

-- more entries, higher stamps
pub highest_more : (a b : List PlainEntry) (h : ℕ) → a ⊆ b → highest a h ≤ highest b h
highest_more [] b h sub = omega arith
highest_more (f ∷ fs) b h sub =
    let r = highest_more fs b h (λ k m. sub k (Memᴰ.tail m)) in
    elim (cases_eq f.mark.hut h) [
      | inl e ↦ rw (eq-eqb _ _ e) (let u : f.mark.stamp ≤ highest b h = rw e at (highest_above f b (sub f (Memᴰ.head refl))) in omega arith)
      | inr e ↦ rw (ne_eqb _ _ e) r
    ]

-- one vector covers another: hut by hut its stamp is as high
covers_from-at : (a b : List ℕ) (h n : ℕ) → covers_from a b h n ≡ true → (k : ℕ) → h ≤ k → k < h + n → get_or b k 0 ≤ get_or a k 0
covers_from-at a b h zero t k l u = absurd (omega arith)
covers_from-at a b h (suc n) t k l u =
    elim (cases_lt (get_or a h 0) (get_or b h 0)) [
      | inl lt ↦ absurd (false≢true (rw (lt-leb (get_or b h 0) (get_or a h 0) lt) at t))
      | inr le ↦ elim (cases_eq k h) [
        | inl e ↦ rw e le
        | inr e ↦ covers_from-at a b (suc h) n (rw (le-leb (get_or b h 0) (get_or a h 0) le) at t) k (omega arith) (omega arith)
      ]
    ]

covers_from_all : (a b : List ℕ) (h n : ℕ) → ((k : ℕ) → h ≤ k → k < h + n → get_or b k 0 ≤ get_or a k 0) → covers_from a b h n ≡ true
covers_from_all a b h zero all = refl
covers_from_all a b h (suc n) all =
    rw (le-leb (get_or b h 0) (get_or a h 0) (all h (omega arith) (omega arith))) (covers_from_all a b (suc h) n (λ k l u. all k (omega arith) (omega arith)))

pub covers_at : (a b : List ℕ) → covers a b ≡ true → (h : ℕ) → h < huts → get_or b h 0 ≤ get_or a h 0
unfolding covers
covers_at a b t h l = covers_from-at a b 0 HUTS t h (omega arith) (omega arith)

pub covers_all : (a b : List ℕ) → ((h : ℕ) → h < huts → get_or b h 0 ≤ get_or a h 0) → covers a b ≡ true
unfolding covers
covers_all a b all = covers_from_all a b 0 HUTS (λ h l u. all h (omega arith))

-- an entry's stamp is up to that of its hut in the vector of a list that has it
pub vector_above : (k : PlainEntry) (l : List PlainEntry) → k ∈ l → k.mark.hut < huts → k.mark.stamp ≤ get_or (vector_of l) k.mark.hut 0
vector_above k l m low = omega (arith, vector_at l k.mark.hut low, highest_above k l m)

-- who knows all entries of a list covers its vector
pub covers_known : (a b : List PlainEntry) → b ⊆ a → covers (vector_of a) (vector_of b) ≡ true
covers_known a b sub = covers_all (vector_of a) (vector_of b) (λ h l. omega (arith, vector_at a h l, vector_at b h l, highest_more b a h sub))

-- two vectors joined
pub joined_at : (a b : List ℕ) (h : ℕ) → length a ≡ huts → h < huts → get_or (joined_with a b) h 0 ≡ max (get_or a h 0) (get_or b h 0)
unfolding joined_with
joined_at a b h long low = over-inside (λ k s. max s (get_or b k 0)) a 0 HUTS h (omega arith) (omega arith) (omega arith)

pub joined_long : (a b : List ℕ) → length (joined_with a b) ≡ length a
unfolding joined_with
joined_long a b = length_over (λ k s. max s (get_or b k 0)) a 0 HUTS

-- Marks: which are the same, which comes first, and whether a list of entries has one.
use Rattle.std.proofs.Common.{◌≡◌, ◌<◌, true, false, T, ◌⊎◌, List, [], ◌∷◌, sym, refl, ap, subst, inl, inr, arith}
use mathlib.Core.List.Memᴰ
use mathlib.Core.List.{Memᴰ}
use Rattle.std.proofs.lemmas.Bool.{and_from, and_left, and_right, cases_Bool, cases_eq, cases_lt, cases_order, eq-eqb, le-ltb, lt-ltb, ne_eqb, or_from, or_left, or_right}
use Rattle.bookings.specs.Books.{same_mark}
use Rattle.bookings.specs.Plain.{PlainEntry, PlainMark}
use Rattle.entry_log.specs.Logs.{has}
use Rattle.entry_log.specs.Order.{before}
use Rattle.network.proofs.Tests.{true_T}

infix 5 ◌∈◌ ◌⊆◌
-- a list has an entry; a list has all that another has
abbrev pub ◌∈◌ : PlainEntry → List PlainEntry → Type 0
k ∈ l = Memᴰ k l

abbrev pub ◌⊆◌ : List PlainEntry → List PlainEntry → Type 0
a ⊆ b = (k : PlainEntry) → k ∈ a → k ∈ b

-- no entry of the list has the mark
abbrev pub Fresh : PlainMark → List PlainEntry → Type 0
Fresh m l = (k : PlainEntry) → k ∈ l → k.mark ≡ m → ⊥

-- one mark comes before another
abbrev pub Below : PlainMark → PlainMark → Type 0
Below a b = (a.stamp < b.stamp) ⊎ ((a.stamp ≡ b.stamp) × (a.hut < b.hut))

mark_path : (a b : PlainMark) → a.stamp ≡ b.stamp → a.hut ≡ b.hut → a ≡ b
mark_path a b p q = λ i. record { stamp = p i; hut = q i }

-- two marks are the same or not, and the test says so
pub by_mark : (a b : PlainMark) → ((a ≡ b) × (same_mark a b ≡ true)) ⊎ ((a ≡ b → ⊥) × (same_mark a b ≡ false))
by_mark a b =
    elim (cases_eq a.stamp b.stamp) [
      | inl p ↦ elim (cases_eq a.hut b.hut) [
        | inl q ↦ inl (mark_path a b p q, and_from _ _ (eq-eqb _ _ p) (eq-eqb _ _ q))
        | inr q ↦ inr (λ e. q (ap (λ (m : PlainMark). m.hut) e), and_right _ _ (ne_eqb _ _ q))
      ]
      | inr p ↦ inr (λ e. p (ap (λ (m : PlainMark). m.stamp) e), and_left _ _ (ne_eqb _ _ p))
    ]

-- one mark comes before another or not, and the test says so
pub by_before : (a b : PlainMark) → (Below a b × (before a b ≡ true)) ⊎ ((Below a b → ⊥) × (before a b ≡ false))
by_before a b =
    elim (cases_order a.stamp b.stamp) [
      | inl p ↦ elim (cases_lt a.hut b.hut) [
        | inl q ↦ inl (inr (p, q), or_right _ _ (and_from _ _ (eq-eqb _ _ p) (lt-ltb _ _ q)))
        | inr q ↦ inr (λ h. omega arith, or_from _ _ (le-ltb a.stamp b.stamp (omega arith)) (and_right _ _ (le-ltb _ _ q)))
      ]
      | inr (inl p) ↦ inl (inl p, or_left _ _ (lt-ltb _ _ p))
      | inr (inr p) ↦ inr (λ h. omega arith, or_from _ _ (le-ltb a.stamp b.stamp (omega arith)) (and_left _ _ (ne_eqb a.stamp b.stamp (λ e. omega arith))))
    ]

-- one of two marks comes first, unless they are the same
pub by_order : (a b : PlainMark) → (a ≡ b) ⊎ (Below a b ⊎ Below b a)
by_order a b =
    elim (cases_order a.stamp b.stamp) [
      | inl p ↦ elim (cases_order a.hut b.hut) [
        | inl q ↦ inl (mark_path a b p q)
        | inr (inl q) ↦ inr (inl (inr (p, q)))
        | inr (inr q) ↦ inr (inr (inr (sym p, q)))
      ]
      | inr (inl p) ↦ inr (inl (inl p))
      | inr (inr p) ↦ inr (inr (inl p))
    ]

pub below_trans : (a b c : PlainMark) → Below a b → Below b c → Below a c
below_trans a b c (inl p) (inl q) = inl (omega arith)
below_trans a b c (inl p) (inr q) = inl (omega arith)
below_trans a b c (inr p) (inl q) = inl (omega arith)
below_trans a b c (inr p) (inr q) = inr (omega arith)

pub below_apart : (a b : PlainMark) → Below a b → a ≡ b → ⊥
below_apart a b p e = let s = ap (λ (m : PlainMark). m.stamp) e in let h = ap (λ (m : PlainMark). m.hut) e in omega arith

-- has: a mark is in a list just where an entry has it
pub has_one : (m : PlainMark) (l : List PlainEntry) → T (has m l) → (k : PlainEntry) × (k ∈ l) × (k.mark ≡ m)
has_one m [] t = elim t [ ]
has_one m (f ∷ fs) t = elim (by_mark m f.mark) [
  | inl p ↦ (f, Memᴰ.head refl, sym p.0)
  | inr p ↦ let r = has_one m fs (rw p.1 at t) in (r.0, Memᴰ.tail r.1, r.2)
]

pub one_has : (k : PlainEntry) (l : List PlainEntry) → k ∈ l → T (has k.mark l)
one_has k [] h = elim h [ ]
one_has k (f ∷ fs) h = elim (by_mark k.mark f.mark) [
  | inl p ↦ rw p.1 tt
  | inr p ↦ rw p.1 (elim (Memᴰ.cases_cons h) [
    | inl q ↦ absurd (p.0 (ap (λ (x : PlainEntry). x.mark) q))
    | inr q ↦ one_has k fs q
  ])
]

pub fresh-has : (m : PlainMark) (l : List PlainEntry) → Fresh m l → T (has m l) → ⊥
fresh-has m l fresh t = let r = has_one m l t in fresh r.0 r.1 r.2

pub has-fresh : (m : PlainMark) (l : List PlainEntry) → (T (has m l) → ⊥) → Fresh m l
has-fresh m l no-t k h e = no-t (subst (λ (x : PlainMark). T (has x l)) e (one_has k l h))

pub fresh_none : (m : PlainMark) (l : List PlainEntry) → Fresh m l → has m l ≡ false
fresh_none m l fresh = elim (cases_Bool (has m l)) [ inl t ↦ absurd (fresh-has m l fresh (true_T (has m l) t)) | inr f ↦ f ]

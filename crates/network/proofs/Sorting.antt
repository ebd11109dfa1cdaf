-- Lists of entries with every mark once, and by rising marks.
use Rattle.std.proofs.Common.{◌≡◌, ◌≤◌, List, [], ◌∷◌, ◌++◌, length, sym, refl, ap, ◌∙◌, subst, inl, inr, arith, length-append}
use mathlib.Core.List.Memᴰ
use Rattle.bookings.specs.Plain.{PlainEntry, PlainMark}
use Rattle.entry_log.proofs.Putting.{has_none}
use Rattle.entry_log.specs.Order.{times}
use Rattle.network.proofs.Lists.{mem_other, mem_splits, stands}
use Rattle.network.proofs.Marks.{Below, Fresh, ◌∈◌, ◌⊆◌, below_apart, by_mark, fresh_none}

-- by strictly rising marks
abbrev pub Sorted : List PlainEntry → Type 0
Sorted [] = Unit
Sorted (e ∷ es) = ((k : PlainEntry) → k ∈ es → Below e.mark k.mark) × Sorted es

-- every mark once
abbrev pub Once : List PlainEntry → Type 0
Once [] = Unit
Once (e ∷ es) = Fresh e.mark es × Once es

-- every mark once, in two lists in a row and around an entry
pub once_two : (a b : List PlainEntry) → Once a → Once b → ((k l : PlainEntry) → k ∈ a → l ∈ b → k.mark ≡ l.mark → ⊥) → Once (a ++ b)
once_two [] b p q apart = q
once_two (f ∷ fs) b p q apart = (
  λ k m. elim (Memᴰ.append_cases fs m) [ inl u ↦ p.0 k u | inr u ↦ λ e. apart f k (Memᴰ.head refl) u (sym e) ],
  once_two fs b p.1 q (λ k l m. apart k l (Memᴰ.tail m)),
)

pub once_split : (e : PlainEntry) (front back : List PlainEntry) → Once (front ++ (e ∷ back)) → Fresh e.mark front × Fresh e.mark back
once_split e [] back p = (λ k m. elim m [ ], p.0)
once_split e (f ∷ fs) back p =
    let r = once_split e fs back p.1 in (
      λ k m q. elim (Memᴰ.cases_cons m) [
        | inl u ↦ p.0 e (stands e fs back) (sym q ∙ ap (λ (x : PlainEntry). x.mark) u)
        | inr u ↦ r.0 k u q
      ],
      r.1,
    )

-- the same by counting
pub once_times : (l : List PlainEntry) → Once l → (m : PlainMark) → times m l ≤ 1
once_times [] o m = omega arith
once_times (e ∷ l) o m = elim (by_mark m e.mark) [
  | inl p ↦ rw p.1 (omega (arith, has_none m l (fresh_none m l (λ k d q. o.0 k d (q ∙ p.0)))))
  | inr p ↦ rw p.1 (omega (arith, once_times l o.1 m))
]

-- sorted lists
pub sorted_once : (l : List PlainEntry) → Sorted l → Once l
sorted_once [] s = tt
sorted_once (f ∷ fs) s = (λ k m e. below_apart f.mark k.mark (s.0 k m) (sym e), sorted_once fs s.1)

pub sorted_behind : (e k : PlainEntry) (front back : List PlainEntry) → Sorted (front ++ (e ∷ back)) → k ∈ back → Below e.mark k.mark
sorted_behind e k [] back s m = s.0 k m
sorted_behind e k (f ∷ fs) back s m = sorted_behind e k fs back s.1 m

below_turn : (a b : PlainMark) → Below a b → Below b a → ⊥
below_turn a b p q = omega arith

-- sorted lists with the same entries are equal
pub sorted_same : (a b : List PlainEntry) → Sorted a → Sorted b → a ⊆ b → b ⊆ a → a ≡ b
sorted_same [] [] s t p q = refl
sorted_same [] (f ∷ fs) s t p q = elim (q f (Memᴰ.head refl)) [ ]
sorted_same (e ∷ es) [] s t p q = elim (p e (Memᴰ.head refl)) [ ]
sorted_same (e ∷ es) (f ∷ fs) s t p q = let r = sorted_same es fs s.1 t.1 rest rest' in let q = first in cc
  where
    first : e ≡ f
    first = elim (Memᴰ.cases_cons (p e (Memᴰ.head refl))) [
      | inl u ↦ u
      | inr u ↦ elim (Memᴰ.cases_cons (q f (Memᴰ.head refl))) [
        | inl v ↦ sym v
        | inr v ↦ absurd (below_turn e.mark f.mark (s.0 f v) (t.0 e u))
      ]
    ]

    rest : es ⊆ fs
    rest k m = elim (Memᴰ.cases_cons (p k (Memᴰ.tail m))) [
      | inl u ↦ absurd (below_apart e.mark k.mark (s.0 k m) (ap (λ (x : PlainEntry). x.mark) (first ∙ sym u)))
      | inr u ↦ u
    ]

    rest' : fs ⊆ es
    rest' k m = elim (Memᴰ.cases_cons (q k (Memᴰ.tail m))) [
      | inl u ↦ absurd (below_apart f.mark k.mark (t.0 k m) (ap (λ (x : PlainEntry). x.mark) (sym first ∙ sym u)))
      | inr u ↦ u
    ]

-- entries with different marks, all of them in a list, are no more than the list has
pub no_more : (l all : List PlainEntry) → Once l → l ⊆ all → length l ≤ length all
no_more [] all d f = omega arith
no_more (e ∷ l) all d f =
    let s = mem_splits all (f e (Memᴰ.head refl)) in
    let less : length l ≤ length (s.0 ++ s.1) = no_more l (s.0 ++ s.1) d.1 (λ k m. rest s.0 s.1 k m (subst (λ (x : List PlainEntry). k ∈ x) s.2 (f k (Memᴰ.tail m)))) in
    omega (arith, ap length s.2, length-append s.0 (e ∷ s.1), length-append s.0 s.1)
  where
    rest : (a b : List PlainEntry) (k : PlainEntry) → k ∈ l → k ∈ (a ++ (e ∷ b)) → k ∈ (a ++ b)
    rest a b k m n = mem_other a e b n (λ p. d.0 k m (ap (λ (x : PlainEntry). x.mark) p))

-- Where an element of a list stands: cases by place, and splits.
use Rattle.std.proofs.Common.{◌≡◌, ℕ, zero, suc, ◌<◌, ◌⊎◌, List, [], ◌∷◌, ◌++◌, length, get_or, sym, refl, ap, inl, inr, ⊎_elim, arith}
use mathlib.Core.List.Memᴰ
use mathlib.Core.List.{Memᴰ}

module _ {A : Type 0} where
  pub none_in {ℓ} : {C : Type ℓ} {k : A} → Memᴰ k [] → C
  none_in d = absurd (Memᴰ.not-nil d)

  pub by_cons {ℓ} : {C : Type ℓ} {k x : A} {l : List A} → Memᴰ k (x ∷ l) → (k ≡ x → C) → (Memᴰ k l → C) → C
  by_cons d f g = ⊎_elim f g (Memᴰ.cases_cons d)

  pub by_append {ℓ} : {C : Type ℓ} {k : A} (a : List A) {b : List A} → Memᴰ k (a ++ b) → (Memᴰ k a → C) → (Memᴰ k b → C) → C
  by_append a d f g = ⊎_elim f g (Memᴰ.append_cases a d)

  pub by_last {ℓ} : {C : Type ℓ} {k : A} (a : List A) {x : A} → Memᴰ k (a ++ (x ∷ [])) → (Memᴰ k a → C) → (k ≡ x → C) → C
  by_last a d f g = by_append a d f (λ o. by_cons o g none_in)

  -- where an element stands
  pub mem_splits : {e : A} (l : List A) → Memᴰ e l → (front back : List A) × (l ≡ front ++ (e ∷ back))
  mem_splits [] d = none_in d
  mem_splits (x ∷ l) d =
      by_cons d (λ p. ([], l, ap {B = List A} (λ y. y ∷ l) (sym p)))
      (λ o. let s = mem_splits l o in (x ∷ s.0, s.1, ap {B = List A} (λ r. x ∷ r) s.2))

  pub stands : (e : A) (front back : List A) → Memᴰ e (front ++ (e ∷ back))
  stands e front back = Memᴰ.append_right front (Memᴰ.head refl)

  pub mem_other : {k : A} (a : List A) (e : A) (b : List A) → Memᴰ k (a ++ (e ∷ b)) → (k ≡ e → ⊥) → Memᴰ k (a ++ b)
  mem_other a e b d n = by_append a d (Memᴰ.append_left b) (λ o. by_cons o (λ p. absurd (n p)) (Memᴰ.append_right a))

  -- an element of two lists in a row stands in the first or in the second
  pub split-two :
      (a b front back : List A) (e : A) → a ++ b ≡ front ++ (e ∷ back)
      → ((c : List A) × (a ≡ front ++ (e ∷ c))) ⊎ ((c : List A) × (front ≡ a ++ c) × (b ≡ c ++ (e ∷ back)))
  split-two [] b front back e p = inr (front, refl, p)
  split-two (x ∷ a) b [] back e p = inl (a, let q : x ≡ e = cc in ap {B = List A} (λ y. y ∷ a) q)
  split-two (x ∷ a) b (f ∷ fs) back e p =
      let q : x ≡ f = cc in
      let r : a ++ b ≡ fs ++ (e ∷ back) = cc in
      elim (split-two a b fs back e r) [
        | inl s ↦ inl (s.0, let t = s.1 in cc)
        | inr s ↦ inr (s.0, let t = s.1 in cc, s.2)
      ]

  pub front_not_nil : (e : A) (front back : List A) → [] ≡ front ++ (e ∷ back) → ⊥
  front_not_nil e [] back q = let z : ◌≡◌ {A = ℕ} 0 1 = cc in omega arith
  front_not_nil e (x ∷ front) back q = let z : ◌≡◌ {A = ℕ} 0 1 = cc in omega arith

  pub only_one : (x e : A) (front back : List A) → x ∷ [] ≡ front ++ (e ∷ back) → (front ≡ []) × (x ≡ e)
  only_one x e [] back q = (refl, cc)
  only_one x e (y ∷ front) back q = absurd (front_not_nil e front back (cc))

  -- what stands at a place
  pub place_splits : (l : List A) (p : ℕ) (d : A) → p < length l → (front back : List A) × (l ≡ front ++ (get_or l p d ∷ back)) × (length front ≡ p)
  place_splits [] p d lt = absurd (omega arith)
  place_splits (x ∷ l) zero d lt = ([], l, refl, refl)
  place_splits (x ∷ l) (suc p) d lt = let r = place_splits l p d (omega arith) in (x ∷ r.0, r.1, ap {B = List A} (λ y. x ∷ y) r.2, ap suc r.3)

  pub place_of : (front back : List A) (e d : A) → get_or (front ++ (e ∷ back)) (length front) d ≡ e
  place_of [] back e d = refl
  place_of (x ∷ front) back e d = place_of front back e d

  pub place_in_first : (a b : List A) (p : ℕ) (d : A) → p < length a → get_or (a ++ b) p d ≡ get_or a p d
  place_in_first [] b p d lt = absurd (omega arith)
  place_in_first (x ∷ a) b zero d lt = refl
  place_in_first (x ∷ a) b (suc p) d lt = place_in_first a b p d (omega arith)

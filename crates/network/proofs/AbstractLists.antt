-- The longest list that any replica has as committed, and that it is one.
use Rattle.std.proofs.Common.{◌≡◌, ℕ, ◌≤◌, ◌⊎◌, List, [], ◌∷◌, ◌++◌, length, sym, refl, ap, ◌∙◌, subst, inl, inr, append-nil, arith, length-append}
use Rattle.bookings.specs.Plain.{PlainEntry}
use Rattle.network.specs.Promise.{Prefix}
use Rattle.network.specs.Refinement.{Longest}
use Rattle.network.proofs.Leading.{ByItself, Leader, Leads}
use Rattle.network.proofs.Parts.{prefix_full, prefix_self, prefix_trans}

pub prefix_long : (a b : List PlainEntry) → Prefix a b → length a ≤ length b
prefix_long a b p = omega (arith, ap length p.1, length-append a p.0)

-- each of two lists is the beginning of the other
pub prefix_both : (a b : List PlainEntry) → Prefix a b → Prefix b a → a ≡ b
prefix_both a b p q = sym (prefix_full a b p (prefix_long b a q))

-- where two lists in a row are empty, the second is
pub nil_end : (s t : List PlainEntry) → s ++ t ≡ [] → t ≡ []
nil_end [] t q = q
nil_end (e ∷ s) t q = absurd (omega (arith, ap length q))

by_end : (l : List PlainEntry) → (l ≡ []) ⊎ ((front : List PlainEntry) × (e : PlainEntry) × (l ≡ front ++ e ∷ []))
by_end [] = inl refl
by_end (x ∷ l) = elim (by_end l) [
  | inl q ↦ inr ([], x, ap (λ (r : List PlainEntry). x ∷ r) q)
  | inr r ↦ inr (x ∷ r.0, r.1, ap (λ (y : List PlainEntry). x ∷ y) r.2)
]

-- two longest lists of the same are the same; of longer lists they are longer
pub longest_more : (f g : ℕ → List PlainEntry) → ((i : ℕ) → Prefix (f i) (g i)) → (a b : List PlainEntry) → Longest f a → Longest g b → Prefix a b
longest_more f g more a b p q = elim p.one [
  | inl n ↦ (b, ap (λ (l : List PlainEntry). l ++ b) (sym n))
  | inr w ↦ subst (λ (l : List PlainEntry). Prefix l b) w.1 (prefix_trans (f w.0) (g w.0) b (more w.0) (q.each w.0))
]

pub longest_same : (f g : ℕ → List PlainEntry) → ((i : ℕ) → f i ≡ g i) → (a b : List PlainEntry) → Longest f a → Longest g b → a ≡ b
longest_same f g same a b p q =
    prefix_both a b (longest_more f g (λ i. subst (Prefix (f i)) (same i) (prefix_self (f i))) a b p q)
    (longest_more g f (λ i. subst (Prefix (g i)) (sym (same i)) (prefix_self (g i))) b a q p)

module _ (leads : Leader) (dur hist : ℕ → List PlainEntry) (all : List PlainEntry) (H : Leads leads dur hist all) where
  open H use {part, short, inked, within}

  pub longest_durable : Longest dur all
  longest_durable =
      record {
        each = short;
        one = elim (by_end all) [
          | inl q ↦ inl q
          | inr r ↦
              let h = leads r.0 in
              let p = subst (λ (l : List PlainEntry). Prefix l (dur h)) (sym r.2) (inked r.0 [] r.1 r.2) in
              inr (h, prefix_both (dur h) all (short h) p)
        ];
      }

  -- what a hut has beyond it, it committed as the one that leads by it
  beyond : (h : ℕ) → Prefix (hist h) all ⊎ (h ≡ leads all)
  beyond h = elim (within h) [ inl p ↦ inl p | inr p ↦ some p.0 p.1 p.2 ]
    where
      some : (more : List PlainEntry) → hist h ≡ all ++ more → ByItself leads h all more → Prefix (hist h) all ⊎ (h ≡ leads all)
      some [] q own = inl ([], sym (append-nil all) ∙ sym q ∙ sym (append-nil (hist h)))
      some (x ∷ more) q own = inr (sym (own [] more x refl) ∙ ap leads (append-nil all))

  pub longest_so_far : (draft : List PlainEntry) × Longest hist (all ++ draft)
  longest_so_far = elim (within (leads all)) [ inl p ↦ ([], none p) | inr p ↦ (p.0, some p.0 p.1) ]
    where
      none : Prefix (hist (leads all)) all → Longest hist (all ++ [])
      none p =
          let each : (h : ℕ) → Prefix (hist h) all = λ h. elim (beyond h) [ inl q ↦ q | inr q ↦ subst (λ (g : ℕ). Prefix (hist g) all) (sym q) p ] in
          subst (Longest hist) (sym (append-nil all))
          (record {
            each = each;
            one = elim longest_durable.one [ inl q ↦ inl q | inr w ↦ inr (w.0, prefix_both (hist w.0) all (each w.0) (subst (λ (l : List PlainEntry). Prefix l (hist w.0)) w.1 (part w.0))) ];
          })

      some : (more : List PlainEntry) → hist (leads all) ≡ all ++ more → Longest hist (all ++ more)
      some more q =
          record {
            each = λ h. elim (beyond h) [
              | inl p ↦ prefix_trans (hist h) all (all ++ more) p (more, refl)
              | inr p ↦ subst (Prefix (hist h)) (ap hist p ∙ q) (prefix_self (hist h))
            ];
            one = inr (leads all, q);
          }

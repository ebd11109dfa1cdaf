-- What a vector lacks of a list: the first entry of that, and what it lacks as it grows.
use Rattle.std.proofs.Common.{◌≡◌, ℕ, ◌<◌, ◌≤◌, Bool, cond, leb, ◌⊎◌, List, [], ◌∷◌, ◌++◌, get_or, sym, refl, ap, ◌∙◌, subst, ap₂, inl, inr, append_assoc, append-nil, arith}
use mathlib.Core.List.Memᴰ
use Rattle.std.proofs.lemmas.Bool.{cases_eq, cases_lt, eq-eqb, le-leb, lt-leb, ne_eqb}
use Rattle.bookings.specs.Plain.{PlainEntry}
use Rattle.entry_log.proofs.Stamps.{highest-cons, one_stamp, vector_at}
use Rattle.entry_log.specs.Vectors.{highest, vector_of}
use Rattle.entry_log.specs.Waits.{PlainWaiting}
use Rattle.replica.specs.Parcels.{missing}
use Rattle.network.specs.Net.{huts}
use Rattle.network.proofs.Lists.{by_cons, none_in}
use Rattle.network.proofs.Marks.{◌∈◌, ◌⊆◌}
use Rattle.network.proofs.Numbers.{highest_more}

-- the first entry of a list that a vector lacks, where others stand before the list
pub record First (has : List ℕ) (ahead l : List PlainEntry) : Type 0 where
  pub front : List PlainEntry
  pub e : PlainEntry
  pub back : List PlainEntry
  pub at : l ≡ front ++ (e ∷ back)
  pub had : (k : PlainEntry) → k ∈ front → k.mark.stamp ≤ get_or has k.mark.hut 0
  pub lacked : get_or has e.mark.hut 0 < e.mark.stamp
  pub is : missing has ahead l ≡ record { entry = e; stood = vector_of (ahead ++ front) } ∷ missing has (ahead ++ (front ++ e ∷ [])) back

-- what it has of a list is passed over
pub missing_skips :
    (has : List ℕ) (ahead front l : List PlainEntry) → ((k : PlainEntry) → k ∈ front → k.mark.stamp ≤ get_or has k.mark.hut 0)
    → missing has ahead (front ++ l) ≡ missing has (ahead ++ front) l
missing_skips has ahead [] l had = ap (λ (a : List PlainEntry). missing has a l) (sym (append-nil ahead))
missing_skips has ahead (x ∷ front) l had =
    rw (le-leb x.mark.stamp (get_or has x.mark.hut 0) (had x (Memᴰ.head refl)))
    (missing_skips has (ahead ++ x ∷ []) front l (λ k d. had k (Memᴰ.tail d)) ∙ ap (λ (a : List PlainEntry). missing has a l) (append_assoc ahead (x ∷ []) front))

-- a vector lacks nothing of a list, or there is a first entry that it lacks
pub missing-first :
    (has : List ℕ) (ahead l : List PlainEntry)
    → ((missing has ahead l ≡ []) × ((k : PlainEntry) → k ∈ l → k.mark.stamp ≤ get_or has k.mark.hut 0)) ⊎ First has ahead l
missing-first has ahead [] = inl (refl, λ k d. none_in d)
missing-first has ahead (x ∷ l) =
    elim (cases_lt (get_or has x.mark.hut 0) x.mark.stamp) [
      | inl lt ↦ inr (record { front = []; e = x; back = l; at = refl; had = λ k d. none_in d; lacked = lt; is = here lt })
      | inr le ↦ later le (missing-first has (ahead ++ x ∷ []) l)
    ]
  where
    here :
        get_or has x.mark.hut 0 < x.mark.stamp
        → missing has ahead (x ∷ l) ≡ record { entry = x; stood = vector_of (ahead ++ []) } ∷ missing has (ahead ++ x ∷ []) l
    here lt =
        rw (lt-leb x.mark.stamp (get_or has x.mark.hut 0) lt)
        (ap (λ (a : List PlainEntry). record { entry = x; stood = vector_of a } ∷ missing has (ahead ++ x ∷ []) l) (sym (append-nil ahead)))

    had-first : x.mark.stamp ≤ get_or has x.mark.hut 0 → (k : PlainEntry) → k ≡ x → k.mark.stamp ≤ get_or has k.mark.hut 0
    had-first le k p = subst (λ (y : PlainEntry). y.mark.stamp ≤ get_or has y.mark.hut 0) (sym p) le

    later :
        x.mark.stamp ≤ get_or has x.mark.hut 0
        → ((missing has (ahead ++ x ∷ []) l ≡ []) × ((k : PlainEntry) → k ∈ l → k.mark.stamp ≤ get_or has k.mark.hut 0)) ⊎ First has (ahead ++ x ∷ []) l
        → ((missing has ahead (x ∷ l) ≡ []) × ((k : PlainEntry) → k ∈ (x ∷ l) → k.mark.stamp ≤ get_or has k.mark.hut 0)) ⊎ First has ahead (x ∷ l)
    later le (inl p) = inl (rw (le-leb x.mark.stamp (get_or has x.mark.hut 0) le) p.0, λ k d. by_cons d (had-first le k) (p.1 k))
    later le (inr f) =
        inr (record {
          front = x ∷ f.front;
          e = f.e;
          back = f.back;
          at = ap (λ (y : List PlainEntry). x ∷ y) f.at;
          had = λ k d. by_cons d (had-first le k) (f.had k);
          lacked = f.lacked;
          is =
              rw (le-leb x.mark.stamp (get_or has x.mark.hut 0) le)
              (f.is ∙ ap₂ (λ (a b : List PlainEntry). record { entry = f.e; stood = vector_of a } ∷ missing has b f.back) (append_assoc ahead (x ∷ []) f.front) (append_assoc ahead (x ∷ []) (f.front ++ f.e ∷ [])));
        })

-- vectors that reach the same entries of a list lack the same of it
pub missing_same :
    (has has' : List ℕ) (ahead l : List PlainEntry)
    → ((k : PlainEntry) → k ∈ l → leb k.mark.stamp (get_or has k.mark.hut 0) ≡ leb k.mark.stamp (get_or has' k.mark.hut 0))
    → missing has ahead l ≡ missing has' ahead l
missing_same has has' ahead [] same = refl
missing_same has has' ahead (x ∷ l) same =
    ap₂ (λ (b : Bool) (ws : List PlainWaiting). cond b ws (record { entry = x; stood = vector_of ahead } ∷ ws)) (same x (Memᴰ.head refl))
    (missing_same has has' (ahead ++ x ∷ []) l (λ k d. same k (Memᴰ.tail d)))

-- with one entry more, a vector reaches no entry that has another hut or a higher stamp, unless it did before
pub reach_same :
    (a b : List PlainEntry) (e k : PlainEntry) → a ⊆ b → b ⊆ (e ∷ a) → k.mark.hut < huts → (e.mark.hut ≡ k.mark.hut → e.mark.stamp < k.mark.stamp)
    → leb k.mark.stamp (get_or (vector_of a) k.mark.hut 0) ≡ leb k.mark.stamp (get_or (vector_of b) k.mark.hut 0)
reach_same a b e k more only low above =
    elim (cases_lt (highest a k.mark.hut) k.mark.stamp) [
      | inl lt ↦ beyond (elim (cases_eq e.mark.hut k.mark.hut) [ inl q ↦ omega (arith, above q, bound, highest-cons e a h, same_hut q) | inr q ↦ omega (arith, bound, highest-cons e a h, other-hut q) ]) lt
      | inr le ↦ le-leb k.mark.stamp (get_or (vector_of a) h 0) (omega (arith, at_a)) ∙ sym (le-leb k.mark.stamp (get_or (vector_of b) h 0) (omega (arith, at_b, highest_more a b h more)))
    ]
  where
    h : ℕ
    h = k.mark.hut

    at_a : get_or (vector_of a) k.mark.hut 0 ≡ highest a k.mark.hut
    at_a = vector_at a k.mark.hut low

    at_b : get_or (vector_of b) k.mark.hut 0 ≡ highest b k.mark.hut
    at_b = vector_at b k.mark.hut low

    bound : highest b k.mark.hut ≤ highest (e ∷ a) k.mark.hut
    bound = highest_more b (e ∷ a) k.mark.hut only

    same_hut : e.mark.hut ≡ k.mark.hut → one_stamp e k.mark.hut ≡ e.mark.stamp
    same_hut q = rw (eq-eqb e.mark.hut k.mark.hut q) refl

    other-hut : (e.mark.hut ≡ k.mark.hut → ⊥) → one_stamp e k.mark.hut ≡ 0
    other-hut q = rw (ne_eqb e.mark.hut k.mark.hut q) refl

    beyond :
        highest b k.mark.hut < k.mark.stamp → highest a k.mark.hut < k.mark.stamp
        → leb k.mark.stamp (get_or (vector_of a) k.mark.hut 0) ≡ leb k.mark.stamp (get_or (vector_of b) k.mark.hut 0)
    beyond u v = lt-leb k.mark.stamp (get_or (vector_of a) h 0) (omega (arith, at_a)) ∙ sym (lt-leb k.mark.stamp (get_or (vector_of b) h 0) (omega (arith, at_b)))

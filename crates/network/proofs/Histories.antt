-- What holds of a valid history by itself: its order, and where each entry of its log comes from.
use Rattle.std.proofs.Common.{◌≡◌, ℕ, List, [], ◌∷◌, ◌++◌, sym, ap, ◌∙◌, inl, inr, append-nil}
use mathlib.Core.List.Memᴰ
use Rattle.bookings.specs.Plain.{PlainEntry}
use Rattle.journal.specs.History.{Committed, PlainRecord, Tentative}
use Rattle.network.specs.Replicas.{committed_of, entries_of, tentative_of}
use Rattle.network.proofs.Lists.{front_not_nil, only_one, split-two}
use Rattle.network.proofs.Logs.{entry_of, log_only}
use Rattle.network.proofs.Marks.{◌∈◌, ◌⊆◌}
use Rattle.network.proofs.Parts.{older_one, older_self, older_trans}
use Rattle.network.proofs.Putting.{into_only, into-sorted, without_only, without-sorted}
use Rattle.network.proofs.Sorting.{Once, Sorted, once_two, sorted_once}
use Rattle.network.proofs.Valid.{Fits, MadeBy, Valid, log_keeps, new_fresh}

module _ (every : List PlainEntry) (d : ℕ → List PlainRecord) (j : ℕ) where
  -- what is tentative is by rising marks
  pub sorted : (rs : List PlainRecord) → Valid every d j rs → Sorted (tentative_of rs)
  sorted [] v = tt
  sorted (Tentative e ∷ rs) v = into-sorted e (tentative_of rs) (λ k m. new_fresh every d j e rs v.0 k (Memᴰ.append_right (committed_of rs) m)) (sorted rs v.1)
  sorted (Committed e ∷ rs) v = without-sorted e.mark (tentative_of rs) (sorted rs v.1)

  -- no mark is both committed and tentative
  pub apart : (rs : List PlainRecord) → Valid every d j rs → (k l : PlainEntry) → k ∈ committed_of rs → l ∈ tentative_of rs → k.mark ≡ l.mark → ⊥
  apart [] v k l m n q = elim m [ ]
  apart (Tentative e ∷ rs) v k l m n q =
      elim (into_only e l (tentative_of rs) n) [
        | inl u ↦ new_fresh every d j e rs v.0 k (Memᴰ.append_left (tentative_of rs) m) (q ∙ ap (λ (x : PlainEntry). x.mark) u)
        | inr u ↦ apart rs v.1 k l m u q
      ]
  apart (Committed e ∷ rs) v k l m n q =
      let w = without_only e.mark l (tentative_of rs) n in
      elim (Memᴰ.append_cases (committed_of rs) m) [
        | inl u ↦ apart rs v.1 k l u w.0 q
        | inr u ↦ w.1 (sym q ∙ ap (λ (x : PlainEntry). x.mark) (Memᴰ.eq_of_singleton u))
      ]

  -- every mark once
  pub committed_once : (rs : List PlainRecord) → Valid every d j rs → Once (committed_of rs)
  committed_once [] v = tt
  committed_once (Tentative e ∷ rs) v = committed_once rs v.1
  committed_once (Committed e ∷ rs) v =
      once_two (committed_of rs) (e ∷ []) (committed_once rs v.1) (λ k m. elim m [ ], tt)
      (λ k l m n q. v.0.fresh k m (q ∙ ap (λ (x : PlainEntry). x.mark) (Memᴰ.eq_of_singleton n)))

  pub log_once : (rs : List PlainRecord) → Valid every d j rs → Once (entries_of rs)
  log_once rs v = once_two (committed_of rs) (tentative_of rs) (committed_once rs v) (sorted_once (tentative_of rs) (sorted rs v)) (apart rs v)

  made_more : (r : PlainRecord) (rs : List PlainRecord) (k : PlainEntry) (older : List PlainRecord) → MadeBy d j rs k older → MadeBy d j (r ∷ rs) k older
  made_more r rs k older (inl p) = inl p
  made_more r rs k older (inr p) = inr (p.0, older_trans (Tentative k ∷ older) rs (r ∷ rs) p.1 (older_one r rs))

  -- who knows an entry has it from its maker, and knows all that its maker knew
  pub known_made :
      (rs : List PlainRecord) → Valid every d j rs → (k : PlainEntry) → k ∈ entries_of rs
      → (older : List PlainRecord) × MadeBy d j rs k older × (entries_of older ⊆ entries_of rs)
  known_made [] v k m = elim m [ ]
  known_made (r ∷ rs) v k m =
      elim (log_only r rs k m) [
        | inl q ↦ rw q (written r v.0)
        | inr q ↦ let w = known_made rs v.1 k q in (w.0, made_more r rs k w.0 w.1, λ x n. log_keeps every d j r rs v.0 x (w.2 x n))
      ]
    where
      written : (r : PlainRecord) → Fits every d j r rs → (older : List PlainRecord) × MadeBy d j (r ∷ rs) (entry_of r) older × (entries_of older ⊆ entries_of (r ∷ rs))
      written (Tentative e) (inl f) = (rs, inr (f.mine, older_self (Tentative e ∷ rs)), log_keeps every d j (Tentative e) rs (inl f))
      written (Tentative e) (inr f) = (f.older, inl f.made, λ x n. log_keeps every d j (Tentative e) rs (inr f) x (f.known x n))
      written (Committed e) f =
          (f.older, made_more (Committed e) rs e f.older f.made, λ x n. log_keeps every d j (Committed e) rs f x (Memᴰ.append_left (tentative_of rs) (f.known x n)))

  -- all that the maker of a committed entry knew is committed before it
  pub committed_behind :
      (rs : List PlainRecord) → Valid every d j rs → (e : PlainEntry) (front back : List PlainEntry) → committed_of rs ≡ front ++ (e ∷ back)
      → (older : List PlainRecord) × MadeBy d j rs e older × (entries_of older ⊆ front)
  committed_behind [] v e front back q = absurd (front_not_nil e front back q)
  committed_behind (Tentative x ∷ rs) v e front back q =
      let w = committed_behind rs v.1 e front back q in (w.0, made_more (Tentative x) rs e w.0 w.1, w.2)
  committed_behind (Committed x ∷ rs) v e front back q =
      elim (split-two (committed_of rs) (x ∷ []) front back e q) [
        | inl p ↦ let w = committed_behind rs v.1 e front p.0 p.1 in (w.0, made_more (Committed x) rs e w.0 w.1, w.2)
        | inr p ↦
            let u = only_one x e p.0 back p.2 in
            let f : front ≡ committed_of rs = p.1 ∙ ap (λ (l : List PlainEntry). committed_of rs ++ l) u.0 ∙ append-nil (committed_of rs) in
            rw (f, ← u.1) (v.0.older, made_more (Committed x) rs x v.0.older v.0.made, v.0.known)
      ]

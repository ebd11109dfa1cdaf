-- The entries that a vector does not reach: which they are, and that none comes twice.
use Rattle.std.proofs.Common.{◌≡◌, ℕ, zero, suc, ◌<◌, ◌≤◌, ◌⊎◌, T, leb, List, [], ◌∷◌, ◌++◌, map, get_or, take, sym, refl, ap, subst, inl, inr, le→leb, leb→le}
use mathlib.Core.List.{Memᴰ}
use Rattle.std.proofs.lemmas.Bool.{cases_lt}
use Rattle.bookings.specs.Plain.{PlainEntry}
use Rattle.entry_log.specs.Vectors.{vector_of}
use Rattle.entry_log.specs.Waits.{PlainWaiting}
use Rattle.replica.specs.Parcels.{missing}
use Rattle.letters.specs.Items.{waiting}
use Rattle.network.proofs.Lists.{by_cons, none_in}
use Rattle.network.proofs.Marks.{◌∈◌}
use Rattle.network.proofs.Sorting.{Once}
use Rattle.network.proofs.Tests.{cond_by}

-- an entry of a list is reached by a vector, or is missing
pub missing_or :
    (has : List ℕ) (ahead ts : List PlainEntry) (k : PlainEntry) → k ∈ ts
    → (k.mark.stamp ≤ get_or has k.mark.hut 0)
    ⊎ ((w : PlainWaiting) × Memᴰ w (missing has ahead ts) × (w.entry ≡ k))
missing_or has ahead [] k d = none_in d
missing_or has ahead (e ∷ ts) k d =
    cond_by (λ (ws : List PlainWaiting). (k.mark.stamp ≤ get_or has k.mark.hut 0)
    ⊎ ((w : PlainWaiting) × Memᴰ w ws × (w.entry ≡ k)))
    (leb e.mark.stamp (get_or has e.mark.hut 0)) (missing has (ahead ++ e ∷ []) ts)
    (record { entry = e; stood = vector_of ahead } ∷ missing has (ahead ++ e ∷ []) ts)
    (λ t. by_cons d
    (λ q. inl (subst (λ (x : PlainEntry). x.mark.stamp ≤ get_or has x.mark.hut 0) (sym q)
    (leb→le e.mark.stamp (get_or has e.mark.hut 0) t)))
    (missing_or has (ahead ++ e ∷ []) ts k))
    (λ _. by_cons d (λ q. inr (
      record { entry = e; stood = vector_of ahead },
      Memᴰ.head refl,
      sym q,
    ))
    (λ o. elim (missing_or has (ahead ++ e ∷ []) ts k o)
    [ inl l ↦ inl l | inr s ↦ inr (s.0, Memᴰ.tail s.1, s.2) ]))

-- the entries of what is missing
abbrev pub entries_waiting : List PlainWaiting → List PlainEntry
entries_waiting ws = map (λ w. w.entry) ws

-- they are of the list, the vector does not reach them, and none comes twice
pub missing_new :
    (has : List ℕ) (ts : List PlainEntry) (r : ℕ) (ahead : List PlainEntry) (k : PlainEntry)
    → k ∈ entries_waiting (take r (missing has ahead ts))
    → (k ∈ ts) × (get_or has k.mark.hut 0 < k.mark.stamp)
missing_new has ts zero ahead k d = none_in d
missing_new has [] (suc r) ahead k d = none_in d
missing_new has (e ∷ ts) (suc r) ahead k d =
    cond_by (λ (ws : List PlainWaiting). k ∈ entries_waiting (take (suc r) ws) → (k ∈ (e ∷ ts))
    × (get_or has k.mark.hut 0 < k.mark.stamp))
    (leb e.mark.stamp (get_or has e.mark.hut 0)) (missing has (ahead ++ e ∷ []) ts)
    (record { entry = e; stood = vector_of ahead } ∷ missing has (ahead ++ e ∷ []) ts)
    (λ _ m. let p = missing_new has ts (suc r) (ahead ++ e ∷ []) k m in (Memᴰ.tail p.0, p.1))
    (λ f m. by_cons m (λ q. (
      Memᴰ.head q,
      subst (λ (x : PlainEntry). get_or has x.mark.hut 0 < x.mark.stamp) (sym q) (above f),
    ))
    (λ o. let p = missing_new has ts r (ahead ++ e ∷ []) k o in (Memᴰ.tail p.0, p.1))) d
  where
    above : (T (leb e.mark.stamp (get_or has e.mark.hut 0)) → ⊥)
        → get_or has e.mark.hut 0 < e.mark.stamp
    above f =
        elim (cases_lt (get_or has e.mark.hut 0) e.mark.stamp)
        [ inl lt ↦ lt | inr le ↦ absurd (f (le→leb e.mark.stamp (get_or has e.mark.hut 0) le)) ]

pub missing_once : (has : List ℕ) (ts : List PlainEntry) (r : ℕ) (ahead : List PlainEntry) → Once ts
    → Once (entries_waiting (take r (missing has ahead ts)))
missing_once has ts zero ahead o = tt
missing_once has [] (suc r) ahead o = tt
missing_once has (e ∷ ts) (suc r) ahead o =
    cond_by (λ (ws : List PlainWaiting). Once (entries_waiting (take (suc r) ws)))
    (leb e.mark.stamp (get_or has e.mark.hut 0))
    (missing has (ahead ++ e ∷ []) ts)
    (record { entry = e; stood = vector_of ahead } ∷ missing has (ahead ++ e ∷ []) ts)
    (λ _. missing_once has ts (suc r) (ahead ++ e ∷ []) o.1)
    (λ _. (
      λ k d. o.0 k (missing_new has ts r (ahead ++ e ∷ []) k d).0,
      missing_once has ts r (ahead ++ e ∷ []) o.1,
    ))

pub waits_of : (ws : List PlainWaiting) (k : PlainEntry) → k ∈ entries_waiting ws
    → (w : PlainWaiting) × Memᴰ (waiting w) (map waiting ws) × (w.entry ≡ k)
waits_of [] k d = none_in d
waits_of (w ∷ ws) k d =
    by_cons d (λ q. (w, Memᴰ.head refl, sym q))
    (λ o. let r = waits_of ws k o in (r.0, Memᴰ.tail r.1, r.2))

pub waits_in : (ws : List PlainWaiting) (w : PlainWaiting) → Memᴰ w ws
    → Memᴰ (waiting w) (map waiting ws)
waits_in [] w d = none_in d
waits_in (x ∷ ws) w d = by_cons d (λ q. Memᴰ.head (ap waiting q)) (λ o. Memᴰ.tail (waits_in ws w o))

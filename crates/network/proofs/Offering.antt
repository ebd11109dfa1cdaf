-- What a letter offers is just what the other lacks, in the log's order.
use Rattle.std.proofs.Common.{◌≡◌, ℕ, zero, suc, ◌+◌, ◌-◌, ◌<◌, T, leb, List, [], ◌∷◌, ◌++◌, map, length, get_or, drop, sym, refl, ap, ◌∙◌, subst, inl, inr, append_assoc, append-nil, arith, length-append, length-drop, le→leb}
use mathlib.Core.List.Memᴰ
use mathlib.Core.List.{Memᴰ}
use Rattle.std.proofs.lemmas.Bool.{cases_lt, lt-leb}
use Rattle.std.proofs.lemmas.List.{get_or-drop, map-append}
use Rattle.bookings.specs.Plain.{PlainEntry}
use Rattle.entry_log.specs.Vectors.{vector_of}
use Rattle.entry_log.specs.Waits.{PlainWaiting}
use Rattle.journal.specs.History.{Kept}
use Rattle.letters.specs.Items.{PlainItem, placed_from, settled, waiting}
use Rattle.replica.specs.Parcels.{missing}
use Rattle.network.specs.Items.{all_for, entry_in}
use Rattle.network.specs.Offering.{CommittedBehind, Offers, OffersWhatLacks, PartOf}
use Rattle.network.specs.Replicas.{committed_in, entries_in, tentative_in}
use Rattle.network.proofs.Letters.{drop_splits, letter-first, placed_item}
use Rattle.network.proofs.Lists.{by_append, by_cons, none_in, place_of}
use Rattle.network.proofs.OfferedOrder.{missing_part, part_append, part_drop, part_times, placed_entries}
use Rattle.network.proofs.Tests.{cond_by}

-- COMMITTED

settled_same : (p q : ℕ) (e f : PlainEntry) → settled p e ≡ settled q f → (p ≡ q) × (e ≡ f)
settled_same p q e f is = (cc, cc)

never_waiting :
    (p : ℕ) (e : PlainEntry) (ws : List PlainWaiting) → Memᴰ (settled p e) (map waiting ws) → ⊥
never_waiting p e [] d = none_in d
never_waiting p e (w ∷ ws) d =
    by_cons d (λ q. let z : ◌≡◌ {A = ℕ} 0 1 = cc in omega arith) (never_waiting p e ws)

never_settled :
    (w : PlainWaiting) (p : ℕ) (es : List PlainEntry) → Memᴰ (waiting w) (placed_from p es) → ⊥
never_settled w p [] d = none_in d
never_settled w p (e ∷ es) d =
    by_cons d (λ q. let z : ◌≡◌ {A = ℕ} 0 1 = cc in omega arith) (never_settled w (suc p) es)

-- an entry that is placed stands behind the first so many
placed_behind :
    (count place : ℕ) (e : PlainEntry) (k : Kept)
    → Memᴰ (settled place e) (placed_from count (drop count (committed_in k)))
    → CommittedBehind count k place e
placed_behind count place e k d =
    let t = placed_item count (drop count (committed_in k)) (settled place e) d in
    let same = settled_same place (count + length t.0) e t.2 t.4 in
    let s = drop_splits count (committed_in k) t.0 t.1 t.2 t.3 in
    let front = s.0 ++ t.0 in
    let at : length front ≡ place = omega (arith, length-append s.0 t.0, s.1, same.0) in (
      omega (arith, same.0),
      omega (
        arith,
        at,
        ap (λ (l : List PlainEntry). length l) s.2,
        length-append front
            (t.2 ∷ t.1),
      ),
      ap (λ (l : List PlainEntry). get_or l place e) s.2
          ∙ ap (λ (n : ℕ). get_or (front ++ t.2 ∷ t.1) n e) (sym at) ∙ place_of front t.1 t.2 e
          ∙ sym same.1,
    )

placed_has :
    (p i : ℕ) (es : List PlainEntry) (d : PlainEntry) → i < length es
    → Memᴰ (settled (p + i) (get_or es i d)) (placed_from p es)
placed_has p i [] d low = absurd (omega arith)
placed_has p zero (e ∷ es) d low =
    Memᴰ.head (ap (λ (n : ℕ). settled n e) (let q : p + 0 ≡ p = omega arith in q))
placed_has p (suc i) (e ∷ es) d low =
    Memᴰ.tail (subst (λ (n : ℕ). Memᴰ (settled n (get_or es i d)) (placed_from (suc p) es))
    (let q : suc p + i ≡ p + suc i = omega arith in q) (placed_has (suc p) i es d (omega arith)))

behind_placed :
    (count place : ℕ) (e : PlainEntry) (k : Kept) → CommittedBehind count k place e
    → Memᴰ (settled place e) (placed_from count (drop count (committed_in k)))
behind_placed count place e k b =
    let i = place - count in
    let at : count + i ≡ place = omega (arith, b.0) in
    let is =
    get_or-drop count (committed_in k) i e ∙ ap (λ (n : ℕ). get_or (committed_in k) n e) at ∙ b.2 in
    let there =
    placed_has count i (drop count (committed_in k)) e
    (omega (arith, b.0, b.1, length-drop count (committed_in k))) in
    subst (λ (n : ℕ). Memᴰ (settled n e) (placed_from count (drop count (committed_in k)))) at
    (subst (λ (x : PlainEntry). Memᴰ (settled (count + i) x)
    (placed_from count (drop count (committed_in k)))) is there)

-- TENTATIVE

waiting_mem :
    (w : PlainWaiting) (ws : List PlainWaiting) → Memᴰ (waiting w) (map waiting ws) → Memᴰ w ws
waiting_mem w [] d = none_in d
waiting_mem w (x ∷ ws) d =
    by_cons d (λ q. Memᴰ.head (let same : w ≡ x = cc in same)) (λ o. Memᴰ.tail (waiting_mem w ws o))

mem_waiting :
    (w : PlainWaiting) (ws : List PlainWaiting) → Memᴰ w ws → Memᴰ (waiting w) (map waiting ws)
mem_waiting w [] d = none_in d
mem_waiting w (x ∷ ws) d =
    by_cons d (λ q. Memᴰ.head (ap waiting q)) (λ o. Memᴰ.tail (mem_waiting w ws o))

-- an entry of a list that a vector does not reach, where others stand before the list
abbrev Above : List ℕ → (ahead l : List PlainEntry) → PlainWaiting → Type 0
Above has ahead l w =
    (front : List PlainEntry) × (back : List PlainEntry) × (l ≡ front ++ w.entry ∷ back)
    × (get_or has w.entry.mark.hut 0 < w.entry.mark.stamp)
    × (w.stood ≡ vector_of (ahead ++ front))

module _ (has : List ℕ) where
  above_later :
      (ahead l : List PlainEntry) (x : PlainEntry) (w : PlainWaiting)
      → Above has (ahead ++ x ∷ []) l w → Above has ahead (x ∷ l) w
  above_later ahead l x w a = (
    x ∷ a.0,
    a.1,
    ap (λ (y : List PlainEntry). x ∷ y) a.2,
    a.3,
    a.4
        ∙ ap vector_of (append_assoc ahead (x ∷ []) a.0),
  )

  missing_above :
      (ahead l : List PlainEntry) (w : PlainWaiting) → Memᴰ w (missing has ahead l)
      → Above has ahead l w
  missing_above ahead [] w d = none_in d
  missing_above ahead (x ∷ l) w d =
      cond_by (λ (ws : List PlainWaiting). Memᴰ w ws
      → Above has ahead (x ∷ l) w) (leb x.mark.stamp (get_or has x.mark.hut 0))
      (missing has (ahead ++ x ∷ []) l)
      (record { entry = x; stood = vector_of ahead } ∷ missing has (ahead ++ x ∷ []) l)
      (λ _ o. above_later ahead l x w (missing_above (ahead ++ x ∷ []) l w o))
      (λ t o. by_cons o (λ q. here (not_le t) q)
      (λ u. above_later ahead l x w (missing_above (ahead ++ x ∷ []) l w u))) d
    where
      not_le :
          (T (leb x.mark.stamp (get_or has x.mark.hut 0)) → ⊥)
          → get_or has x.mark.hut 0 < x.mark.stamp
      not_le never =
          elim (cases_lt (get_or has x.mark.hut 0) x.mark.stamp) [
            | inl lt ↦ lt
            | inr le ↦ absurd
                (never (le→leb x.mark.stamp (get_or has x.mark.hut 0) le))
          ]

      here :
          get_or has x.mark.hut 0 < x.mark.stamp → w
          ≡ record { entry = x; stood = vector_of ahead } → Above has ahead (x ∷ l) w
      here lt q =
          subst (Above has ahead (x ∷ l)) (sym q)
          ([], l, refl, lt, ap vector_of (sym (append-nil ahead)))

  above_missing :
      (ahead l : List PlainEntry) (w : PlainWaiting) → Above has ahead l w
      → Memᴰ w (missing has ahead l)
  above_missing ahead [] w ([], back, is, lt, stood) =
      absurd (let z : ◌≡◌ {A = ℕ} 0 1 = cc in omega arith)
  above_missing ahead [] w (f ∷ front, back, is, lt, stood) =
      absurd (let z : ◌≡◌ {A = ℕ} 0 1 = cc in omega arith)
  above_missing ahead (x ∷ l) w ([], back, is, lt, stood) =
      let first : x ≡ w.entry = cc in
      let above : get_or has x.mark.hut 0 < x.mark.stamp =
      subst (λ (y : PlainEntry). get_or has y.mark.hut 0 < y.mark.stamp) (sym first) lt in
      let at : w.stood ≡ vector_of ahead = stood ∙ ap vector_of (append-nil ahead) in
      rw (lt-leb x.mark.stamp (get_or has x.mark.hut 0) above)
      (Memᴰ.head (ap (λ (y : PlainEntry). record { entry = y; stood = w.stood }) (sym first) ∙ ap
      (λ (v : List ℕ). record { entry = x; stood = v }) at))
  above_missing ahead (x ∷ l) w (f ∷ front, back, is, lt, stood) =
      let first : x ≡ f = cc in
      let rest : l ≡ front ++ w.entry ∷ back = cc in
      let at = stood ∙ ap (λ (y : PlainEntry). vector_of (ahead ++ y ∷ front)) (sym first)
      ∙ ap vector_of (sym (append_assoc ahead (x ∷ []) front)) in
      let further = above_missing (ahead ++ x ∷ []) l w (front, back, rest, lt, at) in
      cond_by (λ (ws : List PlainWaiting). Memᴰ w ws) (leb x.mark.stamp (get_or has x.mark.hut 0))
      (missing has (ahead ++ x ∷ []) l)
      (record { entry = x; stood = vector_of ahead } ∷ missing has (ahead ++ x ∷ []) l)
      (λ _. further) (λ _. Memᴰ.tail further)

module _ (count : ℕ) (has : List ℕ) (k : Kept) where
  abbrev first_part : List PlainItem
  first_part = placed_from count (drop count (committed_in k))

  abbrev lacked : List PlainWaiting
  lacked = missing has (committed_in k) (tentative_in k)

  in-order : PartOf (map entry_in (all_for count has k)) (entries_in k)
  in-order =
      subst (λ (l : List PlainEntry). PartOf l (entries_in k))
      (sym (map-append entry_in first_part (map waiting lacked) ∙ ap
      (λ (l : List PlainEntry). l ++ map entry_in (map waiting lacked))
      (placed_entries count (drop count (committed_in k)))))
      (part_append (part_drop count (committed_in k))
      (missing_part has (committed_in k) (tentative_in k)))

  offers : Offers count has k
  offers =
      record {
        committed =
            λ place e. (
              λ d. by_append first_part d (placed_behind count place e k)
                  (λ o. absurd (never_waiting place e lacked o)),
              λ b. Memᴰ.append_left (map waiting lacked) (behind_placed count place e k b),
            );
        tentative =
            λ w. (
              λ d. by_append first_part d
                  (λ o. absurd (never_settled w count (drop count (committed_in k)) o))
                  (λ o. missing_above has (committed_in k) (tentative_in k) w
                  (waiting_mem w lacked o)),
              λ a. Memᴰ.append_right first_part
                  (mem_waiting w lacked (above_missing has (committed_in k) (tentative_in k) w a)),
            );
        in_order = in-order;
        once = λ o m. let r = part_times in-order m in let s = o m in omega arith;
        first = letter-first count has k;
      }

pub offers-what-lacks : OffersWhatLacks
offers-what-lacks count has k = offers count has k

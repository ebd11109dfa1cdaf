-- What the items of a letter are, whoever it is for.
use Rattle.std.proofs.Common.{◌≡◌, ℕ, zero, suc, ◌+◌, ◌-◌, leb, List, [], ◌∷◌, ◌++◌, map, length, get_or, take, drop, sym, refl, ap, ◌∙◌, subst, append_assoc, arith, length-append}
use Rattle.entry_log.specs.declared.waiting.TheConstants.{MAX_LETTER_ENTRIES}
use mathlib.Core.List.Memᴰ
use mathlib.Core.List.{Memᴰ}
use Rattle.std.proofs.lemmas.List.{take-map}
use Rattle.bookings.specs.Plain.{PlainEntry}
use Rattle.journal.specs.History.{Kept}
use Rattle.entry_log.specs.Vectors.{vector_of}
use Rattle.entry_log.specs.Waits.{PlainWaiting}
use Rattle.replica.specs.Parcels.{missing, parcel_of}
use Rattle.letters.specs.Items.{PlainItem, placed_from, settled, waiting}
use Rattle.network.specs.Items.{Letter, all_for, record_of, words_for}
use Rattle.network.specs.Replicas.{committed_in, entries_in, tentative_in}
use Rattle.network.proofs.Lists.{by_append, by_cons, front_not_nil, none_in, stands}
use Rattle.network.proofs.Logs.{entry_of}
use Rattle.network.proofs.Marks.{◌∈◌}
use Rattle.network.proofs.Tests.{cond_by}

-- what stands behind the first n elements
pub drop_splits :
    {A : Type 0} (n : ℕ) (l front back : List A) (e : A) → drop n l ≡ front ++ (e ∷ back)
    → (first : List A) × (length first ≡ n) × (l ≡ (first ++ front) ++ (e ∷ back))
drop_splits zero l front back e p = ([], refl, p)
drop_splits (suc n) [] front back e p = absurd (front_not_nil e front back p)
drop_splits {A} (suc n) (x ∷ l) front back e p = let r = drop_splits n l front back e p in (x ∷ r.0, ap suc r.1, ap {B = List A} (λ y. x ∷ y) r.2)

take_mem : {A : Type 0} {k : A} (n : ℕ) (l : List A) → Memᴰ k (take n l) → Memᴰ k l
take_mem zero l d = none_in d
take_mem (suc n) [] d = d
take_mem (suc n) (x ∷ l) d = by_cons d Memᴰ.head (λ o. Memᴰ.tail (take_mem n l o))

-- the first n of two lists in a row
take-two : {A : Type 0} (n : ℕ) (a b : List A) → take n (a ++ b) ≡ take n a ++ take (n - length (take n a)) b
take-two zero a b = refl
take-two (suc n) [] b = ap (λ m. take m b) (let same : suc n ≡ suc n - 0 = omega arith in same)
take-two (suc n) (x ∷ a) b =
    let less : n - length (take n a) ≡ suc n - length (x ∷ take n a) = omega arith in
    ap (λ l. x ∷ l) (take-two n a b) ∙ ap (λ m. x ∷ (take n a ++ take m b)) less

placed_take : (n p : ℕ) (l : List PlainEntry) → placed_from p (take n l) ≡ take n (placed_from p l)
placed_take zero p l = refl
placed_take (suc n) p [] = refl
placed_take (suc n) p (e ∷ l) = ap (λ (x : Letter). settled p e ∷ x) (placed_take n (suc p) l)

pub placed_length : (p : ℕ) (l : List PlainEntry) → length (placed_from p l) ≡ length l
placed_length p [] = refl
placed_length p (e ∷ l) = ap suc (placed_length (suc p) l)

-- a letter is the first items of all, as many as it can have
pub letter-first : (count : ℕ) (has : List ℕ) (k : Kept) → words_for count has k ≡ take MAX_LETTER_ENTRIES (all_for count has k)
unfolding parcel_of
letter-first count has k = bounded MAX_LETTER_ENTRIES (drop count (committed_in k)) (missing has (committed_in k) (tentative_in k))
  where
    bounded :
        (n : ℕ) (cs : List PlainEntry) (ws : List PlainWaiting)
        → placed_from count (take n cs) ++ map waiting (take (n - length (take n cs)) ws) ≡ take n (placed_from count cs ++ map waiting ws)
    bounded n cs ws =
        let long : length (take n cs) ≡ length (take n (placed_from count cs)) = sym (placed_length count (take n cs)) ∙ ap length (placed_take n count cs) in
        ap (λ (m : ℕ). placed_from count (take n cs) ++ map waiting (take (n - m) ws)) long
        ∙ ap (λ (l : Letter). l ++ map waiting (take (n - length (take n (placed_from count cs))) ws)) (placed_take n count cs)
        ∙ ap (λ (l : Letter). take n (placed_from count cs) ++ l) (sym (take-map waiting (n - length (take n (placed_from count cs))) ws))
        ∙ sym (take-two n (placed_from count cs) (map waiting ws))

-- an item that a replica can write: a committed entry at its place, or a tentative one with the vector of what stood before it
abbrev pub Written : Kept → PlainItem → Type 0
Written k (settled p e) = (front : List PlainEntry) × (back : List PlainEntry) × (committed_in k ≡ front ++ (e ∷ back)) × (length front ≡ p)
Written k (waiting w) = (front : List PlainEntry) × (back : List PlainEntry) × (entries_in k ≡ front ++ (w.entry ∷ back)) × (w.stood ≡ vector_of front)

-- each item of `placed_from p l` is an element of l with its place
pub placed_item :
    (p : ℕ) (l : List PlainEntry) (w : PlainItem) → Memᴰ w (placed_from p l)
    → (front : List PlainEntry) × (back : List PlainEntry) × (e : PlainEntry) × (l ≡ front ++ (e ∷ back)) × (w ≡ settled (p + length front) e)
placed_item p [] w d = none_in d
placed_item p (x ∷ l) w d =
    by_cons d (λ q. ([], l, x, refl, q ∙ ap (λ (n : ℕ). settled n x) (omega arith)))
    (λ o.
    let r = placed_item (suc p) l w o in
    (x ∷ r.0, r.1, r.2, ap (λ (y : List PlainEntry). x ∷ y) r.3, r.4 ∙ ap (λ (n : ℕ). settled n r.2) (omega arith)))

-- an item for an entry of a list, with the vector of what stands before it
abbrev WaitsIn : List PlainEntry → PlainItem → Type 0
WaitsIn l w =
    (front : List PlainEntry) × (back : List PlainEntry) × (e : PlainEntry) × (l ≡ front ++ (e ∷ back)) × (w ≡ waiting (record { entry = e; stood = vector_of front }))

missing_item : (has : List ℕ) (ahead l : List PlainEntry) (w : PlainItem) → Memᴰ w (map waiting (missing has ahead l)) → WaitsIn (ahead ++ l) w
missing_item has ahead [] w = none_in
missing_item has ahead (x ∷ l) w =
    cond_by (λ (y : List PlainWaiting). Memᴰ w (map waiting y) → WaitsIn (ahead ++ (x ∷ l)) w) (leb x.mark.stamp (get_or has x.mark.hut 0))
    (missing has (ahead ++ x ∷ []) l) (record { entry = x; stood = vector_of ahead } ∷ missing has (ahead ++ x ∷ []) l)
    (λ _ d. later (missing_item has (ahead ++ x ∷ []) l w d))
    (λ _ d. by_cons d (λ q. (ahead, l, x, refl, q)) (λ o. later (missing_item has (ahead ++ x ∷ []) l w o)))
  where
    later : WaitsIn ((ahead ++ x ∷ []) ++ l) w → WaitsIn (ahead ++ (x ∷ l)) w
    later t = (t.0, t.1, t.2, sym (append_assoc ahead (x ∷ []) l) ∙ t.3, t.4)

-- whatever is said to be there, each item is one that the replica can write
pub all_item : (count : ℕ) (has : List ℕ) (k : Kept) (w : PlainItem) → Memᴰ w (all_for count has k) → Written k w
all_item count has k w d =
    by_append (placed_from count (drop count (committed_in k))) d
    (λ a.
    let t = placed_item count (drop count (committed_in k)) w a in
    let s = drop_splits count (committed_in k) t.0 t.1 t.2 t.3 in
    subst (Written k) (sym t.4) (s.0 ++ t.0, t.1, s.2, length-append s.0 t.0 ∙ ap (λ (n : ℕ). n + length t.0) s.1))
    (λ b. let t = missing_item has (committed_in k) (tentative_in k) w b in subst (Written k) (sym t.4) (t.0, t.1, t.3, refl))

pub letter_item : (count : ℕ) (has : List ℕ) (k : Kept) (w : PlainItem) → Memᴰ w (words_for count has k) → Written k w
letter_item count has k w d = all_item count has k w (take_mem MAX_LETTER_ENTRIES _ (subst (Memᴰ w) (letter-first count has k) d))

-- the entry of an item
abbrev pub in_item : PlainItem → PlainEntry
in_item w = entry_of (record_of w)

-- a replica knows what it writes of
pub written_known : (k : Kept) (w : PlainItem) → Written k w → in_item w ∈ entries_in k
written_known k (settled p e) t = Memᴰ.append_left (tentative_in k) (subst (λ (l : List PlainEntry). e ∈ l) (sym t.2) (stands e t.0 t.1))
written_known k (waiting w) t = subst (λ (l : List PlainEntry). w.entry ∈ l) (sym t.2) (stands w.entry t.0 t.1)

-- Whatever a replica over its journal hands on is a letter that can be written.
use Rattle.std.proofs.Common.{ℕ, zero, suc, ◌<◌, ◌≤◌, ◌^◌, ◌==◌, cond, max, T, sym, refl, subst, List, [], ◌∷◌, ◌++◌, length, take, drop, inl, inr, arith, length-append, length-drop, length-take}
use Rattle.std.specs.List.{range_with_len}
use mathlib.Core.List.Memᴰ
use Rattle.bookings.proofs.Each.{each_map}
use Rattle.bookings.specs.Plain.{PlainEntry}
use Rattle.bookings.specs.Ranges.{Each}
use Rattle.bookings.specs.declared.limits.TheConstants.{HUTS}
use Rattle.bookings.specs.declared.book.TheConstants.{CAPACITY}
use Rattle.entry_log.proofs.Stamps.{vector_long}
use Rattle.entry_log.specs.Vectors.{highest, vector_of}
use Rattle.entry_log.specs.declared.waiting.TheConstants.{MAX_LETTER_ENTRIES}
use Rattle.journal.proofs.Standing.{log_bounded}
use Rattle.journal.specs.History.{PlainRecord, Tentative, Committed, history_of, state_in}
use Rattle.journal.specs.Records.{Stands}
use Rattle.letters.specs.Laws.{EntryOk, WaitingOk}
use Rattle.replica.proofs.Orders.{parcel_is_small_lem}
use Rattle.replica.specs.Parcels.{missing, parcel_of}
use Rattle.network.specs.Mail.{HandsOnLetters}
use Rattle.network.specs.Replicas.{committed_of, entries_of, tentative_of}
use Rattle.network.proofs.Lists.{by_append, by_cons, none_in}
use Rattle.network.proofs.Logs.{log_only}
use Rattle.network.proofs.Marks.{◌∈◌}
use Rattle.network.proofs.Tests.{cond_by}

-- all entries of a list fit the format
abbrev pub Fit : List PlainEntry → Type 0
Fit es = (k : PlainEntry) → k ∈ es → EntryOk k

fit_more : (es fs : List PlainEntry) → Fit es → Fit fs → Fit (es ++ fs)
fit_more es fs f g k m = by_append es m (f k) (g k)

each_of : (es : List PlainEntry) → Fit es → Each EntryOk es
each_of [] f = tt
each_of (e ∷ es) f = (f e (Memᴰ.head refl), each_of es (λ k m. f k (Memᴰ.tail m)))

module _ {A : Type 0} (P : A → Type 0) where
  each_take : (n : ℕ) (xs : List A) → Each P xs → Each P (take n xs)
  each_take zero xs all = tt
  each_take (suc n) [] all = tt
  each_take (suc n) (x ∷ xs) all = (all.0, each_take n xs all.1)

  each_drop : (n : ℕ) (xs : List A) → Each P xs → Each P (drop n xs)
  each_drop zero xs all = all
  each_drop (suc n) [] all = tt
  each_drop (suc n) (x ∷ xs) all = each_drop n xs all.1

highest_fits : (es : List PlainEntry) → Fit es → (h : ℕ) → highest es h < 2 ^ 32
highest_fits [] f h = omega arith
highest_fits (e ∷ es) f h =
    let rest = highest_fits es (λ k m. f k (Memᴰ.tail m)) h in
    let here = (f e (Memᴰ.head refl)).stamp_fits in
    cond_by (λ n. n < 2 ^ 32) (e.mark.hut == h) (max e.mark.stamp (highest es h)) (highest es h) (λ _. omega arith) (λ _. rest)

vector_fits : (es : List PlainEntry) → Fit es → Each (λ n. n < 2 ^ 32) (vector_of es)
unfolding vector_of
vector_fits es f = each_map (highest es) (λ n. n < 2 ^ 32) (range_with_len 0 HUTS) (highest_fits es f)

missing_fit : (has : List ℕ) (before es : List PlainEntry) → Fit before → Fit es → Each WaitingOk (missing has before es)
missing_fit has before [] b f = tt
missing_fit has before (e ∷ es) b f =
    let one : EntryOk e = f e (Memᴰ.head refl) in
    let rest =
    missing_fit has (before ++ e ∷ []) es (fit_more before (e ∷ []) b (λ k m. by_cons m (λ p. subst EntryOk (sym p) one) none_in)) (λ k m. f k (Memᴰ.tail m)) in
    cond_by (Each WaitingOk) _ (missing has (before ++ e ∷ []) es) (record { entry = e; stood = vector_of before } ∷ missing has (before ++ e ∷ []) es)
    (λ _. rest) (λ _. (record { entry_ok = one; sixteen = vector_long before; fit = vector_fits before b }, rest))

-- every entry of a history that can stand
pub history_fits : (hut : ℕ) (rs : List PlainRecord) → Stands hut rs → Fit (entries_of rs)
history_fits hut [] ok k m = none_in m
history_fits hut (Tentative e ∷ rs) ok k m = elim (log_only (Tentative e) rs k m) [ inl p ↦ subst EntryOk (sym p) ok.0 | inr u ↦ history_fits hut rs ok.2 k u ]
history_fits hut (Committed e ∷ rs) ok k m = elim (log_only (Committed e) rs k m) [ inl p ↦ subst EntryOk (sym p) ok.0 | inr u ↦ history_fits hut rs ok.2 k u ]

some_there : (n : ℕ) → (T (n == 0) → ⊥) → 1 ≤ n
some_there zero some = absurd (some tt)
some_there (suc n) some = omega arith

-- the first committed entry has a place that a letter can hold
place_fits : (count : ℕ) (cs : List PlainEntry) → length cs ≤ CAPACITY → cond (length (take MAX_LETTER_ENTRIES (drop count cs)) == 0) 0 count < 2 ^ 32
place_fits count cs few =
    cond_by (λ n. n < 2 ^ 32) (length (take MAX_LETTER_ENTRIES (drop count cs)) == 0) 0 count (λ _. omega arith)
    (λ some. omega (arith, some_there (length (take MAX_LETTER_ENTRIES (drop count cs))) some, length-take MAX_LETTER_ENTRIES (drop count cs), length-drop count cs))

pub hands_on_letters : HandsOnLetters
unfolding parcel_of
hands_on_letters k ok count has =
    let rs = history_of k in
    let fits = history_fits k.hut rs ok in
    let cs : Fit (committed_of rs) = λ e m. fits e (Memᴰ.append_left (tentative_of rs) m) in
    let ts : Fit (tentative_of rs) = λ e m. fits e (Memᴰ.append_right (committed_of rs) m) in
    record {
      place_ok = place_fits count (committed_of rs) (omega (arith, log_bounded k.hut rs ok, length-append (committed_of rs) (tentative_of rs)));
      committed_ok = each_take EntryOk MAX_LETTER_ENTRIES _ (each_drop EntryOk count (committed_of rs) (each_of (committed_of rs) cs));
      tentative_ok = each_take WaitingOk _ _ (missing_fit has (committed_of rs) (tentative_of rs) cs ts);
      few = parcel_is_small_lem count has (state_in k);
    }

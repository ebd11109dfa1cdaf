-- The rest of a set in the order of marks, and the log that a part has.
use Rattle.std.proofs.Common.{◌≡◌, ◌||◌, List, [], ◌∷◌, ◌++◌, length, take, drop, sym, refl, ap, ◌∙◌, subst, inl, inr, take-append-drop}
use Rattle.std.proofs.Math.Seq.{take-append_seam}
use mathlib.Core.List.Memᴰ
use Rattle.bookings.specs.Plain.{PlainEntry}
use Rattle.entry_log.specs.Logs.{PlainLog, has, into}
use Rattle.network.specs.Abstract.{Part, SameSet, log, rest}
use Rattle.network.specs.AbstractLaws.{AbstractPrefix}
use Rattle.network.specs.Promise.{Prefix}
use Rattle.network.proofs.Lists.{by_append, by_cons, none_in}
use Rattle.network.proofs.Marks.{Fresh, ◌∈◌, fresh-has, has-fresh, has_one}
use Rattle.network.proofs.Parts.{prefix_either}
use Rattle.network.proofs.Putting.{into-has, into_keeps, into_only, into-sorted}
use Rattle.network.proofs.Sorting.{Sorted, sorted_same}
use Rattle.network.proofs.Tests.{cond_by, or_either, or_first, or_second}

-- an entry of a list is the only one there with its mark
abbrev pub Only : PlainEntry → List PlainEntry → Type 0
Only k s = (e : PlainEntry) → e ∈ s → e.mark ≡ k.mark → e ≡ k

module _ (cs : List PlainEntry) where
  pub rest_only : (s : List PlainEntry) (k : PlainEntry) → k ∈ rest cs s → (k ∈ s) × Fresh k.mark cs
  rest_only [] k m = none_in m
  rest_only (e ∷ es) k m =
      let later : k ∈ rest cs es → (k ∈ (e ∷ es)) × Fresh k.mark cs = λ n. let r = rest_only es k n in (Memᴰ.tail r.0, r.1) in
      cond_by (λ l. k ∈ l → (k ∈ (e ∷ es)) × Fresh k.mark cs) (has e.mark cs || has e.mark es) (rest cs es) (into e (rest cs es)) (λ _. later)
      (λ never n. elim (into_only e k (rest cs es) n) [
        | inl q ↦ (Memᴰ.head q, subst (λ (x : PlainEntry). Fresh x.mark cs) (sym q) (has-fresh e.mark cs (λ t. never (or_first (has e.mark cs) (has e.mark es) t))))
        | inr u ↦ later u
      ]) m

  pub rest_has : (s : List PlainEntry) (k : PlainEntry) → Only k s → k ∈ s → Fresh k.mark cs → k ∈ rest cs s
  rest_has [] k one m new = none_in m
  rest_has (e ∷ es) k one m new =
      let later : k ∈ es → k ∈ rest cs es = λ u. rest_has es k (λ x n. one x (Memᴰ.tail n)) u new in
      cond_by (λ l. k ∈ l) (has e.mark cs || has e.mark es) (rest cs es) (into e (rest cs es))
      (λ t.
      by_cons m
      (λ q.
      or_either (has e.mark cs) (has e.mark es) t (λ u. absurd (fresh-has e.mark cs (subst (λ (x : PlainEntry). Fresh x.mark cs) q new) u))
      (λ u. let w = has_one e.mark es u in later (Memᴰ.cast (sym (one w.0 (Memᴰ.tail w.1) (w.2 ∙ ap (λ (x : PlainEntry). x.mark) (sym q)))) w.1)))
      later)
      (λ never. by_cons m (λ q. subst (λ (x : PlainEntry). x ∈ into e (rest cs es)) (sym q) (into-has e (rest cs es))) (λ u. into_keeps e k (rest cs es) (later u)))

  pub rest_sorted : (s : List PlainEntry) → Sorted (rest cs s)
  rest_sorted [] = tt
  rest_sorted (e ∷ es) =
      cond_by Sorted (has e.mark cs || has e.mark es) (rest cs es) (into e (rest cs es)) (λ _. rest_sorted es)
      (λ never.
      into-sorted e (rest cs es)
      (λ k m. has-fresh e.mark es (λ t. never (or_second (has e.mark cs) (has e.mark es) t)) k (rest_only es k m).0) (rest_sorted es))

  -- one set has one rest
  pub rest_same : (s t : List PlainEntry) → ((k : PlainEntry) → k ∈ s → Only k s) → SameSet s t → rest cs s ≡ rest cs t
  rest_same s t one same =
      sorted_same (rest cs s) (rest cs t) (rest_sorted s) (rest_sorted t)
      (λ k m. let r = rest_only s k m in rest_has t k (λ e n. one k r.0 e (same.1 e n)) (same.0 k r.0) r.1)
      (λ k m. let r = rest_only t k m in rest_has s k (one k (same.1 k r.0)) (same.1 k r.0) r.1)

pub take_prefix : (n : _) (l : List PlainEntry) → Prefix (take n l) l
take_prefix n l = (drop n l, sym (take-append-drop n l))

pub abstract_prefix : AbstractPrefix
abstract_prefix l p q = prefix_either (take p.count l) (take q.count l) l (take_prefix p.count l) (take_prefix q.count l)

-- a log with committed entries c that begin a list, and sorted tentative ones, is the log of a part with as many and the same entries
module _ (c t l : List PlainEntry) (p : Part) (begins : Prefix c l) (many : p.count ≡ length c) (order : Sorted t)
    (apart : (k e : PlainEntry) → k ∈ c → e ∈ t → k.mark ≡ e.mark → ⊥) (one : (k : PlainEntry) → k ∈ (c ++ t) → Only k (c ++ t)) (same : SameSet p.set (c ++ t)) where
  pub first_many : take p.count l ≡ c
  first_many = ap (λ n. take n l) many ∙ ap (take (length c)) begins.1 ∙ take-append_seam c begins.0

  rest_is : t ≡ rest c p.set
  rest_is =
      sorted_same t (rest c p.set) order (rest_sorted c p.set)
      (λ k m.
      let here : k ∈ (c ++ t) = Memᴰ.append_right c m in
      rest_has c p.set k (λ e n. one k here e (same.0 e n)) (same.1 k here) (λ x n q. apart x k n m q))
      (λ k m.
      let r = rest_only c p.set k m in
      by_append c (same.0 k r.0) (λ u. absurd (r.1 k u refl)) (λ u. u))

  pub log_is : ◌≡◌ {A = PlainLog} (record { committed = c; tentative = t }) (log l p)
  log_is = λ i. record { committed = sym first_many i; tentative = (rest_is ∙ ap (λ cs. rest cs p.set) (sym first_many)) i }

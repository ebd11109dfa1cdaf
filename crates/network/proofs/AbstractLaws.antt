-- What follows from what holds of a page: each in a few lines, since a log is a function.
use Rattle.std.proofs.Common.{◌≡◌, ℕ, ◌<◌, List, ◌∷◌, ◌++◌, take, drop, sym, ap, ◌∙◌, subst, inl, inr, append_assoc, arith, take-append-drop}
use mathlib.Core.List.Memᴰ
use Rattle.bookings.specs.Plain.{PlainEntry}
use Rattle.entry_log.specs.Logs.{all_of, has}
use Rattle.network.specs.Abstract.{Page, SamePart, Within, list, log, rest}
use Rattle.network.specs.AbstractLaws.{Sound}
use Rattle.network.proofs.AbstractLogs.{rest_has, rest_only, rest_same, rest_sorted}
use Rattle.network.proofs.Lists.{by_append, by_cons, split-two, stands}
use Rattle.network.proofs.Marks.{◌∈◌, has-fresh, has_one}
use Rattle.network.proofs.Sorting.{Sorted, sorted_behind}
use Rattle.network.proofs.Tests.{by_test}

pub no_gaps_in :
    (a : Page) → Sound a → (i j : ℕ) (e f : PlainEntry) → e ∈ (a.now j).set → f ∈ (a.now i).set → e.mark.hut ≡ f.mark.hut
    → e.mark.stamp < f.mark.stamp → e ∈ (a.now i).set
no_gaps_in a s i j e f m n q l = (s.closed i).0 f n e (s.own j i e f m n q l)

pub same_in : (a : Page) → Sound a → (i j : ℕ) → SamePart (a.now i) (a.now j) → log (list a) (a.now i) ≡ log (list a) (a.now j)
same_in a s i j same =
    ap (λ n. log (list a) (record { count = n; set = (a.now i).set })) same.0
    ∙ ap (λ l. record { committed = take (a.now j).count (list a); tentative = l })
    (rest_same (take (a.now j).count (list a)) (a.now i).set (a.now j).set (λ k m e n. s.once i i e k n m) same.1)

pub causal_in :
    (a : Page) → Sound a → (i : ℕ) (front back : List PlainEntry) (e : PlainEntry) → all_of (log (list a) (a.now i)) ≡ front ++ e ∷ back
    → Within (a.knew e.mark) front
causal_in a s i front back e q k m =
    elim (split-two c r front back e q) [
      | inl p ↦
          s.behind front (p.0 ++ drop (a.now i).count (list a)) e
          (sym (take-append-drop (a.now i).count (list a)) ∙ ap (λ l. l ++ drop (a.now i).count (list a)) p.1
          ∙ append_assoc front (e ∷ p.0) (drop (a.now i).count (list a)))
          k m
      | inr p ↦ subst (λ (l : List PlainEntry). k ∈ l) (sym p.1) (among p.0 p.2)
    ]
  where
    c : List PlainEntry
    c = take (a.now i).count (list a)

    r : List PlainEntry
    r = rest (take (a.now i).count (list a)) (a.now i).set

    -- what is tentative stands by marks, and what its maker knew has lower ones
    among : (d : List PlainEntry) → r ≡ d ++ (e ∷ back) → k ∈ (c ++ d)
    among d p =
        let here : e ∈ (a.now i).set = (rest_only c (a.now i).set e (subst (λ (l : List PlainEntry). e ∈ l) (sym p) (stands e d back))).0 in
        let known : k ∈ (a.now i).set = (s.closed i).0 e here k m in
        let low = s.lower i e k here m in
        by_test (has k.mark c)
        (λ t. let w = has_one k.mark c t in Memᴰ.append_left d (Memᴰ.cast (sym (s.once i i w.0 k ((s.closed i).1 w.0 w.1) known w.2)) w.1))
        (λ new.
        by_append d
        (subst (λ (l : List PlainEntry). k ∈ l) p (rest_has c (a.now i).set k (λ x n. s.once i i x k n known) known (has-fresh k.mark c new)))
        (Memᴰ.append_right c)
        (λ u.
        by_cons u (λ y. absurd (let z = ap (λ (z : PlainEntry). z.mark.stamp) y in omega arith))
        (λ y. absurd (let z = sorted_behind e k d back (subst Sorted p (rest_sorted c (a.now i).set)) y in omega arith))))

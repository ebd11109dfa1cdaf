-- To make an entry, and to take one, is refused by the lowest number whose condition holds.
use Rattle.std.proofs.Common.{◌≡◌, ℕ, ◌<◌, Bool, cond, not, T, eqb, List, length, Some, None, refl, subst, inl, inr, arith}
use Rattle.std.proofs.lemmas.Bool.{eq-eqb, eqb-true}
use Rattle.bookings.specs.Books.{named_by}
use Rattle.bookings.specs.Plain.{PlainEntry, PlainKind, PlainMark}
use Rattle.entry_log.specs.Logs.{all_of, has}
use Rattle.entry_log.specs.Vectors.{covers, vector_of}
use Rattle.network.specs.Refusing.{ByLowest, HasMark, LowestRefusal, MakeWhy, NoRoom, TakeCommittedWhy, TakeTentativeWhy}
use Rattle.network.proofs.Refusing.{allowed-lowest, full_says, has_mark, lacks_says, mark_has, refused-lowest, says_full, says_lacks, says_unknown, unknown_says}
use Rattle.network.proofs.Tests.{cond_by, not_not}
use Rattle.replica.specs.Model.{State, make_refusal, names_unknown, next_mark, no_room, take_committed_refusal, take_tentative_refusal}

make-lowest : (k : PlainKind) (s : State) → ByLowest (MakeWhy k s) (make_refusal k s)
make-lowest k s =
    cond_by (ByLowest (MakeWhy k s)) (no_room s (next_mark s).stamp) (Some 8)
    (cond (names_unknown (named_by k) s) (Some 9) None)
    (λ t. refused-lowest (MakeWhy k s) 8 (inl (refl, full_says (next_mark s).stamp s t), below8))
    (λ room.
    cond_by (ByLowest (MakeWhy k s)) (names_unknown (named_by k) s) (Some 9) None
    (λ t. refused-lowest (MakeWhy k s) 9 (inr (refl, unknown_says k s t), below9 room))
    (λ known. allowed-lowest (MakeWhy k s) (none room known)))
  where
    below8 : (m : ℕ) → m < 8 → MakeWhy k s m → ⊥
    below8 m lt (inl w) = omega (arith, lt, w.0)
    below8 m lt (inr w) = omega (arith, lt, w.0)

    below9 : (T (no_room s (next_mark s).stamp) → ⊥) → (m : ℕ) → m < 9 → MakeWhy k s m → ⊥
    below9 room m lt (inl w) = room (says_full (next_mark s).stamp s w.1)
    below9 room m lt (inr w) = omega (arith, lt, w.0)

    none :
        (T (no_room s (next_mark s).stamp) → ⊥) → (T (names_unknown (named_by k) s) → ⊥) → (m : ℕ)
        → MakeWhy k s m → ⊥
    none room known m (inl w) = room (says_full (next_mark s).stamp s w.1)
    none room known m (inr w) = known (says_unknown k s w.1)

tentative-lowest :
    (e : PlainEntry) (stood : List ℕ) (s : State)
    → ByLowest (TakeTentativeWhy e stood s) (take_tentative_refusal e stood s)
tentative-lowest e stood s =
    cond_by (ByLowest (TakeTentativeWhy e stood s)) (has e.mark (all_of s.log)) (Some 3) _
    (λ t. refused-lowest (TakeTentativeWhy e stood s) 3
    (inl (refl, has_mark e.mark (all_of s.log) t), below3))
    (λ new.
    cond_by (ByLowest (TakeTentativeWhy e stood s)) (not (covers (vector_of (all_of s.log)) stood))
    (Some 5) (cond (no_room s e.mark.stamp) (Some 8) None)
    (λ t. refused-lowest (TakeTentativeWhy e stood s) 5
    (inr (inl (refl, lacks_says stood s t)), below5 new))
    (λ known.
    cond_by (ByLowest (TakeTentativeWhy e stood s)) (no_room s e.mark.stamp) (Some 8) None
    (λ t. refused-lowest (TakeTentativeWhy e stood s) 8
    (inr (inr (refl, full_says e.mark.stamp s t)), below8 new known))
    (λ room. allowed-lowest (TakeTentativeWhy e stood s) (none new known room))))
  where
    below3 : (m : ℕ) → m < 3 → TakeTentativeWhy e stood s m → ⊥
    below3 m lt (inl w) = omega (arith, lt, w.0)
    below3 m lt (inr (inl w)) = omega (arith, lt, w.0)
    below3 m lt (inr (inr w)) = omega (arith, lt, w.0)

    below5 :
        (T (has e.mark (all_of s.log)) → ⊥) → (m : ℕ) → m < 5 → TakeTentativeWhy e stood s m → ⊥
    below5 new m lt (inl w) = new (mark_has e.mark (all_of s.log) w.1)
    below5 new m lt (inr (inl w)) = omega (arith, lt, w.0)
    below5 new m lt (inr (inr w)) = omega (arith, lt, w.0)

    below8 :
        (T (has e.mark (all_of s.log)) → ⊥)
        → (T (not (covers (vector_of (all_of s.log)) stood)) → ⊥) → (m : ℕ) → m < 8
        → TakeTentativeWhy e stood s m → ⊥
    below8 new known m lt (inl w) = new (mark_has e.mark (all_of s.log) w.1)
    below8 new known m lt (inr (inl w)) =
        says_lacks stood s w.1 (not_not (covers (vector_of (all_of s.log)) stood) known)
    below8 new known m lt (inr (inr w)) = omega (arith, lt, w.0)

    none :
        (T (has e.mark (all_of s.log)) → ⊥)
        → (T (not (covers (vector_of (all_of s.log)) stood)) → ⊥) → (T (no_room s e.mark.stamp) → ⊥)
        → (m : ℕ) → TakeTentativeWhy e stood s m → ⊥
    none new known room m (inl w) = new (mark_has e.mark (all_of s.log) w.1)
    none new known room m (inr (inl w)) =
        says_lacks stood s w.1 (not_not (covers (vector_of (all_of s.log)) stood) known)
    none new known room m (inr (inr w)) = room (says_full e.mark.stamp s w.1)

committed-lowest :
    (place : ℕ) (m : PlainMark) (s : State)
    → ByLowest (TakeCommittedWhy place m s) (take_committed_refusal place m s)
committed-lowest place m s =
    cond_by (ByLowest (TakeCommittedWhy place m s)) (has m s.log.committed) (Some 3) _
    (λ t. refused-lowest (TakeCommittedWhy place m s) 3
    (inl (refl, has_mark m s.log.committed t), below3))
    (λ new.
    cond_by (ByLowest (TakeCommittedWhy place m s)) (not (eqb place (length s.log.committed)))
    (Some 4) _ (λ t. refused-lowest (TakeCommittedWhy place m s) 4
    (inr (inl (refl, other t)), below4 new))
    (λ next.
    cond_by (ByLowest (TakeCommittedWhy place m s)) (has m s.log.tentative) None
    (cond (no_room s m.stamp) (Some 8) None)
    (λ t. allowed-lowest (TakeCommittedWhy place m s)
    (none new next (λ w. w.1 (has_mark m s.log.tentative t))))
    (λ unknown.
    cond_by (ByLowest (TakeCommittedWhy place m s)) (no_room s m.stamp) (Some 8) None
    (λ t. refused-lowest (TakeCommittedWhy place m s) 8 (
      inr (inr (
        refl,
        full_says m.stamp s t,
        λ known. unknown
            (mark_has m s.log.tentative known),
      )),
      below8 new next,
    ))
    (λ room. allowed-lowest (TakeCommittedWhy place m s)
    (none new next (λ w. room (says_full m.stamp s w.0)))))))
  where
    other : T (not (eqb place (length s.log.committed))) → place ≡ length s.log.committed → ⊥
    other t q = subst (λ (b : Bool). T (not b)) (eq-eqb place (length s.log.committed) q) t

    here : (T (not (eqb place (length s.log.committed))) → ⊥) → place ≡ length s.log.committed
    here next =
        eqb-true place (length s.log.committed) (not_not (eqb place (length s.log.committed)) next)

    below3 : (n : ℕ) → n < 3 → TakeCommittedWhy place m s n → ⊥
    below3 n lt (inl w) = omega (arith, lt, w.0)
    below3 n lt (inr (inl w)) = omega (arith, lt, w.0)
    below3 n lt (inr (inr w)) = omega (arith, lt, w.0)

    below4 : (T (has m s.log.committed) → ⊥) → (n : ℕ) → n < 4 → TakeCommittedWhy place m s n → ⊥
    below4 new n lt (inl w) = new (mark_has m s.log.committed w.1)
    below4 new n lt (inr (inl w)) = omega (arith, lt, w.0)
    below4 new n lt (inr (inr w)) = omega (arith, lt, w.0)

    below8 :
        (T (has m s.log.committed) → ⊥) → (T (not (eqb place (length s.log.committed))) → ⊥)
        → (n : ℕ) → n < 8 → TakeCommittedWhy place m s n → ⊥
    below8 new next n lt (inl w) = new (mark_has m s.log.committed w.1)
    below8 new next n lt (inr (inl w)) = w.1 (here next)
    below8 new next n lt (inr (inr w)) = omega (arith, lt, w.0)

    none :
        (T (has m s.log.committed) → ⊥) → (T (not (eqb place (length s.log.committed))) → ⊥)
        → (NoRoom m.stamp s × (HasMark m s.log.tentative → ⊥) → ⊥) → (n : ℕ)
        → TakeCommittedWhy place m s n → ⊥
    none new next room n (inl w) = new (mark_has m s.log.committed w.1)
    none new next room n (inr (inl w)) = w.1 (here next)
    none new next room n (inr (inr w)) = room (w.1, w.2)

pub lowest_refusal : LowestRefusal
lowest_refusal =
    record {
      make = make-lowest;
      take_tentative = tentative-lowest;
      take_committed = committed-lowest;
    }

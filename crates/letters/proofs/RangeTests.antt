-- The test of an entry's ranges decides whether it is in range.
use Rattle.std.proofs.Common.{ℕ, ◌+◌, ◌<◌, ◌≤◌, Bool, ◌&&◌, ltb, leb, List, [], ◌∷◌, length, refl}
use Rattle.std.specs.Bool.{Decides}
use Rattle.std.specs.List.{list_all}
use Rattle.std.proofs.lemmas.Bool.{ltb-true, leb-true, lt-ltb, le-leb, and_parts, and_from}
use Rattle.bookings.specs.Plain.{PlainMark, PlainStay, PlainChoice, PlainKind, book, cancel, change, supply, PlainEntry}
use Rattle.bookings.specs.Ranges.{Each, MarkOk, StayOk, ChoiceOk, SupplyOk, ChoicesOk, KindOk, InRange}
use Rattle.bookings.specs.declared.limits.TheConstants.{HUTS, NIGHTS, MAX_STAY_NIGHTS, MAX_CHOICES, MAX_CHOICE_BEDS, MAX_HUT_BEDS}
use Rattle.letters.specs.RangeTests.{mark_in_range, stay_in_range, choice_in_range, supply_in_range, choices_in_range, kind_in_range, in_range}

both : (a b : Bool) (P Q : Type 0) → Decides a P → Decides b Q → Decides (a && b) (P × Q)
both a b P Q p q =
    (λ e. let parts = and_parts a b e in (p.0 parts.0, q.0 parts.1), λ pq. and_from a b (p.1 pq.0) (q.1 pq.1))

below : (m n : ℕ) → Decides (ltb m n) (m < n)
below m n = (ltb-true m n, lt-ltb m n)

at_most : (m n : ℕ) → Decides (leb m n) (m ≤ n)
at_most m n = (leb-true m n, le-leb m n)

each : {A : Type 0} (test : A → Bool) (P : A → Type 0) → ((x : A) → Decides (test x) (P x)) → (xs : List A) → Decides (list_all test xs) (Each P xs)
each test P one [] = (λ _. tt, λ _. refl)
each test P one (x ∷ xs) = both (test x) (list_all test xs) (P x) (Each P xs) (one x) (each test P one xs)

mark_decided : (m : PlainMark) → Decides (mark_in_range m) (MarkOk m)
mark_decided m = both _ _ _ _ (at_most 1 m.stamp) (below m.hut HUTS)

stay_decided : (s : PlainStay) → Decides (stay_in_range s) (StayOk s)
stay_decided s =
    let all = both _ _ _ _ (below s.hut HUTS) (both _ _ _ _ (at_most 1 s.nights) (both _ _ _ _ (at_most s.nights MAX_STAY_NIGHTS) (at_most (s.night + s.nights) NIGHTS))) in
    (λ e. let p = all.0 e in (p.0, p.1.0, p.1.1.0, p.1.1.1), λ p. all.1 (p.0, (p.1, (p.2, p.3))))

choice_decided : (c : PlainChoice) → Decides (choice_in_range c) (ChoiceOk c)
choice_decided c =
    let all = both _ _ _ _ (stay_decided c.stay) (both _ _ _ _ (at_most 1 c.beds) (at_most c.beds MAX_CHOICE_BEDS)) in
    (λ e. let p = all.0 e in (p.0, p.1.0, p.1.1), λ p. all.1 (p.0, (p.1, p.2)))

supply_decided : (c : PlainChoice) → Decides (supply_in_range c) (SupplyOk c)
supply_decided c = both _ _ _ _ (stay_decided c.stay) (at_most c.beds MAX_HUT_BEDS)

choices_decided : (cs : List PlainChoice) → Decides (choices_in_range cs) (ChoicesOk cs)
choices_decided cs = both _ _ _ _ (at_most (length cs) MAX_CHOICES) (each choice_in_range ChoiceOk choice_decided cs)

kind_decided : (k : PlainKind) → Decides (kind_in_range k) (KindOk k)
kind_decided (book guest cs) = choices_decided cs
kind_decided (cancel m) = mark_decided m
kind_decided (change m cs) = both _ _ _ _ (mark_decided m) (choices_decided cs)
kind_decided (supply c) = supply_decided c

pub entry_decided : (e : PlainEntry) → Decides (in_range e) (InRange e)
entry_decided e = both _ _ _ _ (mark_decided e.mark) (kind_decided e.kind)

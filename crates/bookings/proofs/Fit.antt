-- A night more, and a choice more: how the answer goes on from what is left.
use Rattle.std.proofs.Common.{◌≡◌, ℕ, zero, suc, ◌+◌, ◌-◌, ◌<◌, ◌≤◌, Bool, true, false, cond, leb, List, [], ◌∷◌, map, length, get_or, take, drop, Some, None, Option, sym, refl, ap, ◌∙◌, subst, add-one, arith}
use Rattle.std.proofs.lemmas.List.{drop_more, drop-map, get_or-take, get_or-drop}
use Rattle.std.proofs.lemmas.Bool.{le-leb, leb-true}
use Rattle.bookings.specs.declared.entry.Choice.{Choice}
use Rattle.bookings.specs.Books.{first_free}
use Rattle.bookings.specs.Nights.{all_free, is_free}
use Rattle.bookings.specs.Outcomes.{PlainGrant}
use Rattle.bookings.specs.Plain.{PlainChoice, plain_choice}
use Rattle.bookings.specs.Ranges.{Each}

-- the beds that are free on a night, read from the numbers of the stay's nights
pub free_there :
    (beds booked there taken : List ℕ) (s n j a b : ℕ) → there ≡ take n (drop s beds) → taken ≡ take n (drop s booked) → j < n
    → a ≡ get_or there j 0 → b ≡ get_or taken j 0 → get_or beds (s + j) 0 - get_or booked (s + j) 0 ≡ a - b
free_there beds booked there taken s n j a b is_there is_taken h a-is b-is =
    sym (rw (a-is, b-is, is_there, is_taken, get_or-take n (drop s beds) j 0 h, get_or-take n (drop s booked) j 0 h, get_or-drop s beds j 0, get_or-drop s booked j 0) refl)

next_choice :
    (i : ℕ) (cs : List Choice) (c : Choice) → i < length cs → c ≡ get_or cs i c → drop i (map plain_choice cs) ≡ plain_choice c ∷ drop (i + 1) (map plain_choice cs)
next_choice i cs c h is =
    drop-map plain_choice i cs ∙ ap (map plain_choice) (drop_more cs i c h ∙ ap (λ d. d ∷ drop (i + 1) cs) (sym is))
    ∙ ap (λ l. plain_choice c ∷ l) (sym (drop-map plain_choice (i + 1) cs))

module _ (beds booked : List ℕ) (over : Option ℕ) where
  pub first_yes :
      (j i : ℕ) (cs : List Choice) (c : Choice) → i < length cs → c ≡ get_or cs i c → is_free beds booked (plain_choice c) ≡ true
      → first_free beds booked over j (drop i (map plain_choice cs)) ≡ Some (record { number = j; choice = plain_choice c; replaces = over })
  first_yes j i cs c h is free = rw (next_choice i cs c h is, free) refl

  pub first_no :
      (j i : ℕ) (cs : List Choice) (c : Choice) → i < length cs → c ≡ get_or cs i c → is_free beds booked (plain_choice c) ≡ false
      → first_free beds booked over j (drop i (map plain_choice cs)) ≡ first_free beds booked over (j + 1) (drop (i + 1) (map plain_choice cs))
  first_no j i cs c h is taken = rw (next_choice i cs c h is, taken, add-one j) refl

-- where all nights are free, each is
at_step :
    (beds booked : List ℕ) (s n w : ℕ) (b : Bool) → leb w (get_or beds s 0 - get_or booked s 0) ≡ b
    → cond b (all_free beds booked (suc s) n w) false ≡ true
    → (w ≤ get_or beds s 0 - get_or booked s 0) × (all_free beds booked (suc s) n w ≡ true)
at_step beds booked s n w true t e = (leb-true w (get_or beds s 0 - get_or booked s 0) t, e)
at_step beds booked s n w false t e = absurd (let z : ◌≡◌ {A = ℕ} 0 1 = cc in omega arith)

pub free-at :
    (beds booked : List ℕ) (s n w k : ℕ) → all_free beds booked s n w ≡ true → k < n → w ≤ get_or beds (s + k) 0 - get_or booked (s + k) 0
free-at beds booked s zero w k e h = absurd (omega arith)
free-at beds booked s (suc n) w zero e h =
    let z : s + 0 ≡ s = omega arith in
    rw z (at_step beds booked s n w (leb w (get_or beds s 0 - get_or booked s 0)) refl e).0
free-at beds booked s (suc n) w (suc k) e h =
    let z : s + suc k ≡ suc s + k = omega arith in
    rw z (free-at beds booked (suc s) n w k (at_step beds booked s n w (leb w (get_or beds s 0 - get_or booked s 0)) refl e).1 (omega arith))

-- the choice that is found is free
first_step :
    (beds booked : List ℕ) (over : Option ℕ) (i : ℕ) (g : PlainGrant) (d : PlainChoice) (cs : List PlainChoice) (b : Bool) → is_free beds booked d ≡ b
    → (first_free beds booked over (suc i) cs ≡ Some g → is_free beds booked g.choice ≡ true)
    → cond b (Some (record { number = i; choice = d; replaces = over })) (first_free beds booked over (suc i) cs) ≡ Some g
    → is_free beds booked g.choice ≡ true
first_step beds booked over i g d cs true free further e =
    let same : record { number = i; choice = d; replaces = over } ≡ g = cc in
    ap (λ (x : PlainGrant). is_free beds booked x.choice) (sym same) ∙ free
first_step beds booked over i g d cs false free further e = further e

pub first-is_free :
    (beds booked : List ℕ) (over : Option ℕ) (i : ℕ) (g : PlainGrant) (cs : List PlainChoice) → first_free beds booked over i cs ≡ Some g
    → is_free beds booked g.choice ≡ true
first-is_free beds booked over i g [] e = absurd (let z : ◌≡◌ {A = ℕ} 0 1 = cc in omega arith)
first-is_free beds booked over i g (d ∷ cs) e =
    first_step beds booked over i g d cs (is_free beds booked d) refl (first-is_free beds booked over (suc i) g cs) e

-- what holds of each choice holds of the one that is found, which is for what it was looked for
each_step :
    (P : PlainChoice → Type 0) (beds booked : List ℕ) (over : Option ℕ) (i : ℕ) (g : PlainGrant) (d : PlainChoice) (cs : List PlainChoice) (b : Bool) → P d
    → (first_free beds booked over (suc i) cs ≡ Some g → P g.choice × (g.replaces ≡ over))
    → cond b (Some (record { number = i; choice = d; replaces = over })) (first_free beds booked over (suc i) cs) ≡ Some g
    → P g.choice × (g.replaces ≡ over)
each_step P beds booked over i g d cs true here further e =
    let same : record { number = i; choice = d; replaces = over } ≡ g = cc in
    (subst (λ (x : PlainGrant). P x.choice) same here, sym (ap (λ (x : PlainGrant). x.replaces) same))
each_step P beds booked over i g d cs false here further e = further e

pub first_each :
    (P : PlainChoice → Type 0) (beds booked : List ℕ) (over : Option ℕ) (i : ℕ) (g : PlainGrant) (cs : List PlainChoice) → Each P cs
    → first_free beds booked over i cs ≡ Some g → P g.choice × (g.replaces ≡ over)
first_each P beds booked over i g [] all e = absurd (let z : ◌≡◌ {A = ℕ} 0 1 = cc in omega arith)
first_each P beds booked over i g (d ∷ cs) all e =
    each_step P beds booked over i g d cs (is_free beds booked d) all.0 (first_each P beds booked over (suc i) g cs all.1) e

-- where each night is free, all are
pub free_from :
    (beds booked : List ℕ) (s n w : ℕ) → ((k : ℕ) → k < n → w ≤ get_or beds (s + k) 0 - get_or booked (s + k) 0) → all_free beds booked s n w ≡ true
free_from beds booked s zero w each = refl
free_from beds booked s (suc n) w each =
    let here : w ≤ get_or beds s 0 - get_or booked s 0 = let z : s + 0 ≡ s = omega arith in rw z at (each 0 (omega arith)) in
    rw (le-leb w (get_or beds s 0 - get_or booked s 0) here)
    (free_from beds booked (suc s) n w (λ k h. let z : s + suc k ≡ suc s + k = omega arith in rw z at (each (suc k) (omega arith))))

-- where a night is not free, not all are
pub not_free :
    (beds booked : List ℕ) (s n w j : ℕ) → j < n → get_or beds (s + j) 0 - get_or booked (s + j) 0 < w → all_free beds booked s n w ≡ false
not_free beds booked s n w j h short = by_answer (all_free beds booked s n w) refl
  where
    by_answer : (b : Bool) → all_free beds booked s n w ≡ b → b ≡ false
    by_answer true e = let at = free-at beds booked s n w j e h in absurd (omega arith)
    by_answer false e = refl

-- the grant that is found: which choice it is, and that no earlier one is free
abbrev pub Found : List ℕ → List ℕ → ℕ → List PlainChoice → PlainGrant → Type 0
Found beds booked i cs g =
    (i ≤ g.number) × (g.number < i + length cs) × (g.choice ≡ get_or cs (g.number - i) g.choice)
    × ((k : ℕ) (d : PlainChoice) → k < g.number - i → is_free beds booked (get_or cs k d) ≡ false)

found_step :
    (beds booked : List ℕ) (over : Option ℕ) (i : ℕ) (g : PlainGrant) (d : PlainChoice) (cs : List PlainChoice) (b : Bool) → is_free beds booked d ≡ b
    → (first_free beds booked over (suc i) cs ≡ Some g → Found beds booked (suc i) cs g)
    → cond b (Some (record { number = i; choice = d; replaces = over })) (first_free beds booked over (suc i) cs) ≡ Some g
    → Found beds booked i (d ∷ cs) g
found_step beds booked over i g d cs true free further e =
    let same : record { number = i; choice = d; replaces = over } ≡ g = cc in
    subst (Found beds booked i (d ∷ cs)) same
    (let none : i - i ≡ 0 = omega arith in (omega arith, omega arith, rw none refl, λ k f h. absurd (omega arith)))
found_step beds booked over i g d cs false taken further e =
    let rest = further e in
    let next : g.number - i ≡ suc (g.number - suc i) = omega arith in (
      omega arith,
      omega arith,
      rest.2 ∙ sym (ap (λ n. get_or (d ∷ cs) n g.choice) next),
      λ k f h. earlier k f h,
    )
  where
    earlier : (k : ℕ) (f : PlainChoice) → k < g.number - i → is_free beds booked (get_or (d ∷ cs) k f) ≡ false
    earlier zero f h = taken
    earlier (suc k) f h = (further e).3 k f (omega arith)

pub first_found :
    (beds booked : List ℕ) (over : Option ℕ) (i : ℕ) (g : PlainGrant) (cs : List PlainChoice) → first_free beds booked over i cs ≡ Some g → Found beds booked i cs g
first_found beds booked over i g [] e = absurd (let z : ◌≡◌ {A = ℕ} 0 1 = cc in omega arith)
first_found beds booked over i g (d ∷ cs) e =
    found_step beds booked over i g d cs (is_free beds booked d) refl (first_found beds booked over (suc i) g cs) e

-- nothing is found just where no choice is free
abbrev pub NoneIsFree : List ℕ → List ℕ → List PlainChoice → Type 0
NoneIsFree beds booked cs = (k : ℕ) (d : PlainChoice) → k < length cs → is_free beds booked (get_or cs k d) ≡ false

none_step :
    (beds booked : List ℕ) (over : Option ℕ) (i : ℕ) (d : PlainChoice) (cs : List PlainChoice) (b : Bool) → is_free beds booked d ≡ b
    → (first_free beds booked over (suc i) cs ≡ None → NoneIsFree beds booked cs)
    → cond b (Some (record { number = i; choice = d; replaces = over })) (first_free beds booked over (suc i) cs) ≡ None → NoneIsFree beds booked (d ∷ cs)
none_step beds booked over i d cs true free further e k f h = absurd (let z : ◌≡◌ {A = ℕ} 0 1 = cc in omega arith)
none_step beds booked over i d cs false taken further e zero f h = taken
none_step beds booked over i d cs false taken further e (suc k) f h = further e k f (omega arith)

pub first_none : (beds booked : List ℕ) (over : Option ℕ) (i : ℕ) (cs : List PlainChoice) → first_free beds booked over i cs ≡ None → NoneIsFree beds booked cs
first_none beds booked over i [] e k f h = absurd (omega arith)
first_none beds booked over i (d ∷ cs) e k f h =
    none_step beds booked over i d cs (is_free beds booked d) refl (first_none beds booked over (suc i) cs) e k f h

pub none_first : (beds booked : List ℕ) (over : Option ℕ) (i : ℕ) (cs : List PlainChoice) → NoneIsFree beds booked cs → first_free beds booked over i cs ≡ None
none_first beds booked over i [] none = refl
none_first beds booked over i (d ∷ cs) none = rw (none 0 d (omega arith)) (none_first beds booked over (suc i) cs (λ k f h. none (suc k) f (omega arith)))

-- Where a mark stands among entries of the code.
use Rattle.std.proofs.Common.{◌≡◌, ℕ, Bool, refl, ◌-◌, ◌<◌, ◌≤◌, ◌==◌, true, false, not, List, [], ◌∷◌, ◌++◌, ◌+◌, map, length, get_or, slice_get, Some, None, Option, ap, sym, ◌∙◌, arith, ⊎_elim, inl, inr}
use lib.ListN.{length-map}
use Rattle.std.proofs.lemmas.Bool.{cases_Bool, cases_lt, eq-eqb, ne_eqb, eqb-true, eqb-false}
use Rattle.std.proofs.lemmas.List.{get_or-map, map-append}
use Rattle.std.proofs.lemmas.Option.{get_or_from_slice_get, slice_get_within}
use Rattle.std.specs.List.{AllWithin, HoldsAt}
use Rattle.std.specs.Option.{MatchOption}
use Rattle.bookings.specs.Books.{same_mark}
use Rattle.bookings.specs.Plain.{PlainMark, PlainEntry, plain, plain_mark}
use Rattle.bookings.specs.declared.entry.Entry.{Entry}
use Rattle.entry_log.specs.Logs.{has, spot}
use Rattle.entry_log.specs.Order.{before, ascends}
use Rattle.entry_log.proofs.Marks.{ascends_parts, spot_back, spot_front, spot_within, spot_low, spot_high}
use Rattle.entry_log.proofs.Putting.{has_nowhere}
use Rattle.entry_log.proofs.Views.{at_entry}

-- the first entry that has a mark is one that has it, and where none is the first none has it
pub position_told :
    (m : PlainMark) (es : List Entry) (r : Option ℕ)
    → MatchOption r (AllWithin (λ e. same_mark m (plain_mark e.mark) ≡ false) es 0 (length es))
    (λ p. (p < length es) × HoldsAt (λ e. same_mark m (plain_mark e.mark) ≡ true) es p × AllWithin (λ e. same_mark m (plain_mark e.mark) ≡ false) es 0 p)
    → MatchOption r (has m (map plain es) ≡ false) (λ p. (p < length es) × ((d : PlainEntry) → same_mark m (get_or (map plain es) p d).mark ≡ true))
position_told m es None none =
    has_nowhere m (map plain es)
    (λ k d h. let there : k < length es = omega (arith, length-map es plain) in at_entry (λ x. same_mark m x.mark ≡ false) es k d there (λ e. none k e (omega arith) there))
position_told m es (Some p) found = (found.0, λ d. at_entry (λ x. same_mark m x.mark ≡ true) es p d found.0 found.1)

-- entries that a mark does not come before stand in front of those that it comes before
pub partitioned :
    (m : PlainMark) (es : List Entry) (i j : ℕ) (d : Entry) → ascends (map plain es) ≡ true → i ≤ j → j < length es
    → not (before m (plain_mark (get_or es j d).mark)) ≡ true → not (before m (plain_mark (get_or es i d).mark)) ≡ true
partitioned m es i j d sorted order within not_there =
    let many = length-map es plain in
    let at_i : get_or (map plain es) i (plain d) ≡ plain (get_or es i d) = get_or-map plain es i d (plain d) (omega arith) in
    let at_j : get_or (map plain es) j (plain d) ≡ plain (get_or es j d) = get_or-map plain es j d (plain d) within in
    let high = spot_high m (map plain es) j (plain d) sorted (omega arith) (rw at_j (not_true (before m (plain_mark (get_or es j d).mark)) not_there)) in
    ⊎_elim (λ yes. let low = spot_low m (map plain es) i (plain d) (omega arith) (rw at_i yes) in absurd (omega arith)) (λ no. rw no refl)
    (cases_Bool (before m (plain_mark (get_or es i d).mark)))
  where
    not_true : (b : Bool) → not b ≡ true → b ≡ false
    not_true true e = cc
    not_true false e = refl

-- where the mark first comes before an entry is its spot
pub spot_point :
    (m : PlainMark) (es : List Entry) (r : ℕ) → ascends (map plain es) ≡ true → r ≤ length es
    → AllWithin (λ e. not (before m (plain_mark e.mark)) ≡ true) es 0 r → AllWithin (λ e. not (before m (plain_mark e.mark)) ≡ false) es r (length es)
    → r ≡ spot m (map plain es)
spot_point m [] r sorted within front back = omega arith
spot_point m (e ∷ es) r sorted within front back =
    let xs = map plain (e ∷ es) in
    let many : length xs ≡ length (e ∷ es) = length-map (e ∷ es) plain in
    let at : (k : ℕ) → k < length (e ∷ es) → get_or xs k (plain e) ≡ plain (get_or (e ∷ es) k e) = λ k h. get_or-map plain (e ∷ es) k e (plain e) h in
    let upto = spot_within m xs in
    let high : r ≤ spot m xs = ⊎_elim
    (λ none. omega arith)
    (λ some. let last = spot_high m xs (r - 1) (plain e) sorted (omega arith) (rw (at (r - 1) (omega arith)) (not_true _ (front (r - 1) e (omega arith) (omega arith)))) in omega arith)
    (cases_lt r 1) in
    let low : spot m xs ≤ r = ⊎_elim
    (λ some. spot_low m xs r (plain e) (omega arith) (rw (at r some) (not_false _ (back r e (omega arith) some))))
    (λ end. omega arith)
    (cases_lt r (length (e ∷ es))) in
    omega arith
  where
    not_true : (b : Bool) → not b ≡ true → b ≡ false
    not_true true e = cc
    not_true false e = refl

    not_false : (b : Bool) → not b ≡ false → b ≡ true
    not_false true e = refl
    not_false false e = cc

last_there :
    (es : List Entry) (e : Entry) → slice_get es (length es - 1) ≡ Some e
    → (length es - 1 < length es) × (get_or (map plain es) (length es - 1) (plain e) ≡ plain e)
last_there es e last =
    let within = slice_get_within es (length es - 1) e last in
    (within, get_or-map plain es (length es - 1) e (plain e) within ∙ ap plain (get_or_from_slice_get es (length es - 1) e e last))

-- where the mark does not come before the last entry, its spot is behind all; else it is not
pub last_decides :
    (m : PlainMark) (es : List Entry) (e : Entry) → ascends (map plain es) ≡ true → slice_get es (length es - 1) ≡ Some e
    → not (before m (plain_mark e.mark)) ≡ (spot m (map plain es) == length es)
last_decides m es e sorted last =
    let many = length-map es plain in
    let there = last_there es e last in
    ⊎_elim
    (λ yes.
    let low = spot_low m (map plain es) (length es - 1) (plain e) (omega (arith, there.0)) (rw there.1 yes) in
    ap not yes ∙ sym (ne_eqb (spot m (map plain es)) (length es) (λ same. omega (arith, there.0))))
    (λ no.
    let high = spot_high m (map plain es) (length es - 1) (plain e) sorted (omega (arith, there.0)) (rw there.1 no) in
    let upto = spot_within m (map plain es) in
    ap not no ∙ sym (eq-eqb (spot m (map plain es)) (length es) (omega (arith, there.0))))
    (cases_Bool (before m (plain_mark e.mark)))

-- a part in two: both are sorted, and the spot is in the first, or as far behind it as it is in the second
module _ (m : PlainMark) (part far near : List Entry) (is : part ≡ far ++ near) where
  whole : map plain part ≡ map plain far ++ map plain near
  whole = ap (map plain) is ∙ map-append plain far near

  pub parts_sorted : ascends (map plain part) ≡ true → (ascends (map plain far) ≡ true) × (ascends (map plain near) ≡ true)
  parts_sorted sorted = ascends_parts (map plain far) (map plain near) (ap ascends (sym whole) ∙ sorted)

  pub spot_near : (spot m (map plain far) == length far) ≡ true → length far + spot m (map plain near) ≡ spot m (map plain part)
  spot_near all =
      let many = length-map far plain in
      let behind : spot m (map plain far) ≡ length (map plain far) = eqb-true _ _ all ∙ sym many in
      ap (λ n. n + spot m (map plain near)) (sym many) ∙ sym (spot_back m (map plain far) (map plain near) behind) ∙ ap (spot m) (sym whole)

  pub spot_far : (spot m (map plain far) == length far) ≡ false → spot m (map plain far) ≡ spot m (map plain part)
  spot_far some =
      let many = length-map far plain in
      let upto = spot_within m (map plain far) in
      elim (cases_lt (spot m (map plain far)) (length (map plain far))) [
        | inl less ↦ sym (spot_front m (map plain far) (map plain near) less) ∙ ap (spot m) (sym whole)
        | inr not_less ↦ absurd (eqb-false (spot m (map plain far)) (length far) some (omega (arith, not_less, many, upto)))
      ]

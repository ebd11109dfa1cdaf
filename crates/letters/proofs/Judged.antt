-- Values that are read and judged one after another: nothing of all where one is out of range.
use Rattle.std.proofs.Common.{◌≡◌, ℕ, ◌+◌, ◌-◌, ◌<◌, ◌≤◌, Bool, true, false, ◌&&◌, List, [], ◌∷◌, ◌++◌, map, length, take, set, sym, refl, ap, ◌∙◌, append_assoc, add-one, arith}
use Rattle.std.specs.Bool.{then_some}
use Rattle.std.specs.List.{list_all}
use Rattle.std.specs.Option.{option_map}
use Rattle.std.specs.declared.option.Option.{Option}
use Rattle.std.specs.declared.option.Option.TheVariants.{Some, None}
use Rattle.std.proofs.lemmas.List.{take_more_set, map_push}
use Rattle.letters.specs.Answers.{Answer, got, short, out, after, judged, read_times}

-- values that are there already, before those that are still to be read: nothing where nothing is there of the one or the other
abbrev both_lists : {A : Type 0} → Option (List A) → Option (List A) → Option (List A)
both_lists None ys = None
both_lists (Some xs) None = None
both_lists (Some xs) (Some ys) = Some (xs ++ ys)

abbrev pub joins_judged : {A : Type 0} → Option (List A) → Answer (Option (List A)) → Answer (Option (List A))
joins_judged xs (got ys r) = got (both_lists xs ys) r
joins_judged xs short = short
joins_judged xs out = out

lists_more :
    {A : Type 0} (o : Option (List A)) (b c : Bool) (a : A) (xs : List A)
    → both_lists o (then_some (b && c) (a ∷ xs)) ≡ both_lists (both_lists o (then_some b (a ∷ []))) (then_some c xs)
lists_more None b c a xs = refl
lists_more (Some ys) true true a xs = ap Some (sym (append_assoc ys (a ∷ []) xs))
lists_more (Some ys) true false a xs = refl
lists_more (Some ys) false c a xs = refl

joins_more :
    {A : Type 0} (test : A → Bool) (o : Option (List A)) (a : A) (y : Answer (List A))
    → joins_judged o (judged (list_all test) (after y (λ xs t. got (a ∷ xs) t)))
    ≡ joins_judged (both_lists o (then_some (test a) (a ∷ []))) (judged (list_all test) y)
joins_more test o a (got xs r) = ap (λ xs. got xs r) (lists_more o (test a) (list_all test xs) a xs)
joins_more test o a short = refl
joins_more test o a out = refl

nothing_more : {A : Type 0} (o : Option (List A)) → both_lists o None ≡ None
nothing_more None = refl
nothing_more (Some xs) = refl

one_more : {A : Type 0} (fine : Bool) (xs : List A) (a : A) → both_lists (then_some fine xs) (Some (a ∷ [])) ≡ then_some fine (xs ++ a ∷ [])
one_more true xs a = refl
one_more false xs a = refl

-- what was judged was read
judged-got :
    {A : Type 0} (test : A → Bool) (x : Answer A) (o : Option A) (r : List ℕ) → judged test x ≡ got o r
    → (a : A) × ((x ≡ got a r) × (then_some (test a) a ≡ o))
judged-got test (got a s) o r h = let s-is : s ≡ r = cc in (a, (ap (got a) s-is, cc))
judged-got test short o r h = let z : ◌≡◌ {A = ℕ} 0 1 = cc in absurd (omega arith)
judged-got test out o r h = let z : ◌≡◌ {A = ℕ} 0 1 = cc in absurd (omega arith)

then_some-one : {A : Type 0} (b : Bool) (a x : A) → then_some b a ≡ Some x → then_some b (a ∷ []) ≡ Some (x ∷ [])
then_some-one true a x h = ap (λ o. option_map (λ y. y ∷ []) o) h
then_some-one false a x h = let z : ◌≡◌ {A = ℕ} 0 1 = cc in absurd (omega arith)

then_some-none : {A : Type 0} (b : Bool) (a : A) → then_some b a ≡ None → then_some b (a ∷ []) ≡ None
then_some-none true a h = let z : ◌≡◌ {A = ℕ} 0 1 = cc in absurd (omega arith)
then_some-none false a h = refl

module _ {A X : Type 0} (read : List ℕ → Answer A) (test : A → Bool) (f : X → A) (n : ℕ) (bs : List ℕ) where
  -- i of n are read into the places, and whether all of these are in range
  abbrev pub Filled : ℕ → Bool → List X → List ℕ → Type 0
  Filled i fine all r =
      judged (list_all test) (read_times read n bs)
      ≡ joins_judged (then_some fine (map f (take i all))) (judged (list_all test) (read_times read (n - i) r))

  filled_on :
      (i : ℕ) (fine : Bool) (all : List X) (r s : List ℕ) (a : A) → i < n → Filled i fine all r → read r ≡ got a s
      → judged (list_all test) (read_times read n bs)
      ≡ joins_judged (both_lists (then_some fine (map f (take i all))) (then_some (test a) (a ∷ []))) (judged (list_all test) (read_times read (n - (i + 1)) s))
  filled_on i fine all r s a lt inv one =
      let m-is : n - i ≡ (n - (i + 1)) + 1 = omega arith in
      let step : read_times read (n - i) r ≡ after (read_times read (n - (i + 1)) s) (λ xs t. got (a ∷ xs) t) = rw (m-is, add-one, one) refl in
      inv
      ∙ ap (λ y. joins_judged (then_some fine (map f (take i all))) (judged (list_all test) y)) step
      ∙ joins_more test (then_some fine (map f (take i all))) a (read_times read (n - (i + 1)) s)

  pub filled_in : (i : ℕ) (fine : Bool) (all : List X) (r s : List ℕ) (x : X) → i < n → n ≤ length all → Filled i fine all r
      → judged test (read r) ≡ got (Some (f x)) s → Filled (i + 1) fine (set all i x) s
  filled_in i fine all r s x lt fit inv one =
      let h : i < length all = omega arith in
      let found = judged-got test (read r) (Some (f x)) s one in
      let these : both_lists (then_some fine (map f (take i all))) (then_some (test found.0) (found.0 ∷ [])) ≡ then_some fine (map f (take (i + 1) (set all i x))) =
      ap (both_lists (then_some fine (map f (take i all)))) (then_some-one (test found.0) found.0 (f x) found.1.1)
      ∙ one_more fine (map f (take i all)) (f x)
      ∙ rw (take_more_set all i x h, map_push) refl in
      filled_on i fine all r s found.0 lt inv found.1.0 ∙ ap (λ o. joins_judged o (judged (list_all test) (read_times read (n - (i + 1)) s))) these

  pub filled_not : (i : ℕ) (fine : Bool) (all : List X) (r s : List ℕ) → i < n → Filled i fine all r
      → judged test (read r) ≡ got None s → Filled (i + 1) false all s
  filled_not i fine all r s lt inv one =
      let found = judged-got test (read r) None s one in
      let none : both_lists (then_some fine (map f (take i all))) (then_some (test found.0) (found.0 ∷ [])) ≡ None =
      ap (both_lists (then_some fine (map f (take i all)))) (then_some-none (test found.0) found.0 found.1.1)
      ∙ nothing_more (then_some fine (map f (take i all))) in
      filled_on i fine all r s found.0 lt inv found.1.0 ∙ ap (λ o. joins_judged o (judged (list_all test) (read_times read (n - (i + 1)) s))) none

-- What is left at each place where some numbers of a list are replaced, and how that is taken back.
use Rattle.std.proofs.Common.{◌≡◌, ℕ, zero, suc, ◌+◌, ◌-◌, ◌<◌, ◌≤◌, max, true, false, ◌≢◌, ◌⊎◌, List, [], ◌∷◌, ◌++◌, length, get_or, take, drop, set, sym, refl, ap, ◌∙◌, subst, inl, inr, ⊎_elim, add-one, append_assoc, arith, length-drop, length-set, length-take-le, take_all}
use Rattle.bookings.specs.declared.limits.TheConstants.{PLACES}
use borrow.Rule.Slice.PartMut.{mid_of, put_mid}
use Rattle.std.proofs.Math.Seq.{drop-cons}
use Rattle.std.proofs.lemmas.List.{get_or-set_same, get_or-set_other, get_or-take, get_or-drop, set-append_right, take-append-drop, take_more, same_lists, get_or_default}
use Rattle.std.proofs.lemmas.Bool.{cases_lt, cases_eq, le-leb, lt-leb, lt-ltb, le-ltb}
use Rattle.bookings.specs.Nights.{first, inside, over, claim, release}
use Rattle.bookings.specs.Plain.{PlainStay, PlainChoice}
use Rattle.bookings.specs.Ranges.{StayOk}

pub over_more : (f : ℕ → ℕ → ℕ) (xs : List ℕ) (s n : ℕ) → over f xs s (n + 1) ≡ set (over f xs s n) (s + n) (f (s + n) (get_or (over f xs s n) (s + n) 0))
over_more f xs s n = rw add-one refl

-- the same, at what has the first of the numbers replaced
pub over_step :
    (f : ℕ → ℕ → ℕ) (ys xs : List ℕ) (s n v : ℕ) → ys ≡ over f xs s n → v ≡ f (s + n) (get_or ys (s + n) 0) → set ys (s + n) v ≡ over f xs s (n + 1)
over_step f ys xs s n v is v-is = rw (v-is, is, over_more f xs s n) refl

pub length_over : (f : ℕ → ℕ → ℕ) (xs : List ℕ) (s n : ℕ) → length (over f xs s n) ≡ length xs
length_over f xs s zero = refl
length_over f xs s (suc n) = simp length-set (length_over f xs s n)

pub over_past : (f : ℕ → ℕ → ℕ) (xs : List ℕ) (s n k : ℕ) → s + n ≤ k → get_or (over f xs s n) k 0 ≡ get_or xs k 0
over_past f xs s zero k h = refl
over_past f xs s (suc n) k h = let ne : k ≢ s + n = omega arith in rw get_or-set_other (over_past f xs s n k (omega arith))

pub over_below : (f : ℕ → ℕ → ℕ) (xs : List ℕ) (s n k : ℕ) → k < s → get_or (over f xs s n) k 0 ≡ get_or xs k 0
over_below f xs s zero k h = refl
over_below f xs s (suc n) k h = let ne : k ≢ s + n = omega arith in rw get_or-set_other (over_below f xs s n k h)

pub over-inside :
    (f : ℕ → ℕ → ℕ) (xs : List ℕ) (s n k : ℕ) → s + n ≤ length xs → s ≤ k → k < s + n → get_or (over f xs s n) k 0 ≡ f k (get_or xs k 0)
over-inside f xs s zero k fits low high = absurd (omega arith)
over-inside f xs s (suc n) k fits low high =
    ⊎_elim
    (λ e.
    let lt : s + n < length (over f xs s n) = omega (arith, length_over f xs s n) in
    ap (λ j. get_or (over f xs s (suc n)) j 0) e
    ∙ get_or-set_same (over f xs s n) (s + n) (f (s + n) (get_or (over f xs s n) (s + n) 0)) 0 lt
    ∙ ap (f (s + n)) (over_past f xs s n (s + n) (omega arith))
    ∙ sym (ap (λ j. f j (get_or xs j 0)) e))
    (λ ne. let apart : k ≢ s + n = ne in rw get_or-set_other (over-inside f xs s n k (omega arith) low (omega arith)))
    (cases_eq k (s + n))

-- at each place the number is replaced, or as it was
pub over_cases :
    (f : ℕ → ℕ → ℕ) (xs : List ℕ) (s n k : ℕ) → s + n ≤ length xs
    → ((inside s n k ≡ true) × (get_or (over f xs s n) k 0 ≡ f k (get_or xs k 0))) ⊎ ((inside s n k ≡ false) × (get_or (over f xs s n) k 0 ≡ get_or xs k 0))
over_cases f xs s n k fits =
    ⊎_elim (λ low. inr (rw (lt-leb s k low) refl, over_below f xs s n k low))
    (λ from.
    ⊎_elim (λ upto. inl (rw (le-leb s k from) (lt-ltb k (s + n) upto), over-inside f xs s n k fits from upto))
    (λ past. inr (rw (le-leb s k from) (le-ltb k (s + n) past), over_past f xs s n k past))
    (cases_lt k (s + n)))
    (cases_lt k s)

-- a replacement that is undone at each place is undone as a whole
pub over_back :
    (f g : ℕ → ℕ → ℕ) (xs : List ℕ) (s n : ℕ) → s + n ≤ length xs → ((k : ℕ) → s ≤ k → k < s + n → g k (f k (get_or xs k 0)) ≡ get_or xs k 0)
    → over g (over f xs s n) s n ≡ xs
over_back f g xs s n fits back =
    let once = length_over f xs s n in
    let twice = length_over g (over f xs s n) s n in
    same_lists _ _ (twice ∙ once)
    (λ k d h.
    let inner : k < length xs = omega arith in
    let here : get_or (over g (over f xs s n) s n) k 0 ≡ get_or xs k 0 =
    ⊎_elim (λ low. over_below g (over f xs s n) s n k low ∙ over_below f xs s n k low)
    (λ from.
    ⊎_elim
    (λ upto.
    over-inside g (over f xs s n) s n k (omega arith) from upto
    ∙ ap (g k) (over-inside f xs s n k fits from upto) ∙ back k from upto)
    (λ past. over_past g (over f xs s n) s n k past ∙ over_past f xs s n k past)
    (cases_lt k (s + n)))
    (cases_lt k s)
    in
    get_or_default (over g (over f xs s n) s n) k d 0 h ∙ here ∙ get_or_default xs k 0 d inner)

-- a part of a list whose numbers were replaced is put back: the list has them replaced there
pub part_next :
    (g : ℕ → ℕ → ℕ) (xs zs : List ℕ) (s k m : ℕ) → zs ≡ over g (mid_of s k xs) 0 m → m < k → get_or zs m 0 ≡ get_or xs (s + m) 0
part_next g xs zs s k m is h = rw is (over_past g (mid_of s k xs) 0 m m (omega arith)) ∙ get_or-take k (drop s xs) m 0 h ∙ get_or-drop s xs m 0

-- a step of the putting back: one more of the numbers that are put there
put_next :
    (xs zs : List ℕ) (s n : ℕ) → n < length zs → s + n < length xs
    → put_mid s (n + 1) xs (take (n + 1) zs) ≡ set (put_mid s n xs (take n zs)) (s + n) (get_or zs n 0)
put_next xs zs s n more within =
    let front : length (take s xs) ≡ s = length-take-le s xs (omega arith) in
    let part : length (take n zs) ≡ n = length-take-le n zs (omega arith) in
    let v : ℕ = get_or zs n 0 in
    let there : s + n - s ≡ n = omega arith in
    let here : n - n ≡ 0 = omega arith in
    let behind : drop n (drop s xs) ≡ get_or (drop s xs) n 0 ∷ drop (n + 1) (drop s xs) =
    rw add-one (drop-cons (drop s xs) n 0 (simp length-drop (omega arith)))
    in
    sym
    (set-append_right (take s xs) (take n zs ++ drop n (drop s xs)) s (s + n) v front (omega arith)
    ∙ ap (λ i. take s xs ++ set (take n zs ++ drop n (drop s xs)) i v) there
    ∙ ap (λ l. take s xs ++ l)
    (set-append_right (take n zs) (drop n (drop s xs)) n n v part (omega arith)
    ∙ ap (λ i. take n zs ++ set (drop n (drop s xs)) i v) here
    ∙ ap (λ l. take n zs ++ set l 0 v) behind
    ∙ sym (append_assoc (take n zs) (v ∷ []) (drop (n + 1) (drop s xs)))
    ∙ ap (λ l. l ++ drop (n + 1) (drop s xs)) (sym (take_more zs n 0 more))))

-- the first of the numbers that are put there, by a step of `over` for each
put_first :
    (f : ℕ → ℕ → ℕ) (xs zs : List ℕ) (s n m : ℕ) → s + n ≤ length xs → length zs ≡ n
    → ((j : ℕ) → j < n → get_or zs j 0 ≡ f (s + j) (get_or xs (s + j) 0))
    → m ≤ n → put_mid s m xs (take m zs) ≡ over f xs s m
put_first f xs zs s n zero fits many each few = take-append-drop s xs
put_first f xs zs s n (suc m) fits many each few =
    let so_far = put_first f xs zs s n m fits many each (omega arith) in
    subst (λ i. put_mid s i xs (take i zs) ≡ over f xs s i) (add-one m)
    (put_next xs zs s m (omega arith) (omega arith)
    ∙ over_step f (put_mid s m xs (take m zs)) xs s m (get_or zs m 0) so_far
    (each m (omega arith) ∙ sym (ap (f (s + m)) (ap (λ l. get_or l (s + m) 0) so_far ∙ over_past f xs s m (s + m) (omega arith)))))

put_over :
    (f : ℕ → ℕ → ℕ) (xs zs : List ℕ) (s n : ℕ) → s + n ≤ length xs → length zs ≡ n
    → ((j : ℕ) → j < n → get_or zs j 0 ≡ f (s + j) (get_or xs (s + j) 0))
    → put_mid s n xs zs ≡ over f xs s n
put_over f xs zs s n fits many each =
    ap (put_mid s n xs) (sym (take_all n zs (omega arith))) ∙ put_first f xs zs s n n fits many each (omega arith)

pub part_over :
    (f g : ℕ → ℕ → ℕ) (xs zs : List ℕ) (s k n m : ℕ) → k ≡ n → m ≡ n → s + n ≤ length xs → zs ≡ over g (mid_of s k xs) 0 m
    → ((j : ℕ) → j < n → (x : ℕ) → g j x ≡ f (s + j) x)
    → put_mid s k xs zs ≡ over f xs s n
part_over f g xs zs s k n m size all fits is same =
    let part : length (mid_of s n xs) ≡ n = length-take-le n (drop s xs) (simp length-drop (omega arith)) in
    let written : zs ≡ over g (mid_of s n xs) 0 n = is ∙ ap (λ i. over g (mid_of s i xs) 0 m) size ∙ ap (over g (mid_of s n xs) 0) all in
    ap (λ i. put_mid s i xs zs) size
    ∙ put_over f xs zs s n fits (ap length written ∙ length_over g (mid_of s n xs) 0 n ∙ part)
    (λ j h.
    ap (λ l. get_or l j 0) written ∙ over-inside g (mid_of s n xs) 0 n j (omega arith) (omega arith) (omega arith)
    ∙ ap (g j) (get_or-take n (drop s xs) j 0 h ∙ get_or-drop s xs j 0) ∙ same j h (get_or xs (s + j) 0))

-- the same, where the numbers of another list are put there
pub put_others :
    (xs zs ws : List ℕ) (s k n : ℕ) → k ≡ n → length ws ≡ n → s + n ≤ length xs → zs ≡ ws → put_mid s k xs zs ≡ over (λ i _. get_or ws (i - s) 0) xs s n
put_others xs zs ws s k n size many fits is =
    ap (λ i. put_mid s i xs zs) size
    ∙ put_over (λ i _. get_or ws (i - s) 0) xs zs s n fits (ap length is ∙ many)
    (λ j h. let at : s + j - s ≡ j = omega arith in rw (is, at) refl)

-- the same, where each number is at least another list's
pub part_raised :
    (w : ℕ) (xs bs ys zs : List ℕ) (s t k n m : ℕ) → s ≡ t → k ≡ n → m ≡ n → t + n ≤ length xs → ys ≡ take n (drop t bs)
    → zs ≡ over (λ i _. max w (get_or ys i 0)) (mid_of s k xs) 0 m
    → put_mid s k xs zs ≡ over (λ i _. max w (get_or bs i 0)) xs t n
part_raised w xs bs ys zs s t k n m from size all fits ys_are is =
    ap (λ i. put_mid i k xs zs) from
    ∙ part_over (λ i _. max w (get_or bs i 0)) (λ i _. max w (get_or ys i 0)) xs zs t k n m size all fits (is ∙ ap (λ i. over (λ i _. max w (get_or ys i 0)) (mid_of i k xs) 0 m) from)
    (λ j h x. ap (max w) (rw ys_are (get_or-take n (drop t bs) j 0 h) ∙ get_or-drop t bs j 0))

-- beds that are booked and given back, and the other way round
pub stay_fits : (s : PlainStay) → StayOk s → first s + s.nights ≤ PLACES
stay_fits s ok = omega arith

module _ (booked : List ℕ) (c : PlainChoice) (long : length booked ≡ PLACES) (ok : StayOk c.stay) where
  fits : first c.stay + c.stay.nights ≤ length booked
  fits = omega (arith, stay_fits c.stay ok)

  pub release-at : (k : ℕ) → k < c.stay.nights → get_or (release booked c) (first c.stay + k) 0 ≡ get_or booked (first c.stay + k) 0 - c.beds
  release-at k h = over-inside (λ _ n. n - c.beds) booked (first c.stay) c.stay.nights (first c.stay + k) fits (omega arith) (omega arith)

  pub release_after_claim : release (claim booked c) c ≡ booked
  release_after_claim =
      over_back (λ _ n. n + c.beds) (λ _ n. n - c.beds) booked (first c.stay) c.stay.nights fits (λ k from upto. omega arith)

  pub claim_after_release :
      ((k : ℕ) → k < c.stay.nights → c.beds ≤ get_or booked (first c.stay + k) 0) → claim (release booked c) c ≡ booked
  claim_after_release held =
      over_back (λ _ n. n - c.beds) (λ _ n. n + c.beds) booked (first c.stay) c.stay.nights fits
      (λ k from upto.
      let at : first c.stay + (k - first c.stay) ≡ k = omega arith in
      let there = rw at at (held (k - first c.stay) (omega arith)) in
      omega arith)

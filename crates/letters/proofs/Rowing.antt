-- A loop that goes past a row: what is left decides where it ends. A row is its front and its end.
use Rattle.std.proofs.Common.{◌≡◌, ℕ, zero, suc, ◌+◌, ◌-◌, ◌<◌, ◌≤◌, List, [], ◌∷◌, sym, refl, ap, ◌∙◌, add-one, arith}
use Rattle.letters.specs.Answers.{Answer, got, short, out}
use Rattle.letters.specs.Rows.{Row, whole, stopped, torn, adds, row_after, read_row, End, through, halted, cut, end_of, front, front_after}

pub end_adds : {A : Type 0} (x : A) (row : Row A) → end_of (adds x row) ≡ end_of row
end_adds x (whole xs r) = refl
end_adds x (stopped xs k) = refl
end_adds x torn = refl

module _ {A : Type 0} (read : List ℕ → Answer A) (n i : ℕ) (bs r : List ℕ) where
  -- i of n are passed, and r is left
  abbrev pub Passed : Type 0
  Passed = end_of (read_row read n bs) ≡ end_of (read_row read (n - i) r)

  pub ends_more : (x : A) (s : List ℕ) → i < n → Passed → read r ≡ got x s → end_of (read_row read n bs) ≡ end_of (read_row read (n - (i + 1)) s)
  ends_more x s lt inv one =
      let m-is : n - i ≡ (n - (i + 1)) + 1 = omega arith in
      let step : read_row read (n - i) r ≡ adds x (read_row read (n - (i + 1)) s) = rw (m-is, add-one, one) refl in
      inv ∙ ap end_of step ∙ end_adds x (read_row read (n - (i + 1)) s)

abbrev pub row_from : {A : Type 0} → List A → End → Row A
row_from xs (through r) = whole xs r
row_from xs (halted k) = stopped xs k
row_from xs cut = torn

adds_from : {A : Type 0} (x : A) (xs : List A) (row : Row A) → row ≡ row_from xs (end_of row) → adds x row ≡ row_from (x ∷ xs) (end_of (adds x row))
adds_from x xs (whole ys r) h = let same : ys ≡ xs = cc in ap (λ zs. whole (x ∷ zs) r) same
adds_from x xs (stopped ys k) h = let same : ys ≡ xs = cc in ap (λ zs. stopped (x ∷ zs) k) same
adds_from x xs torn h = refl

pub row_from_lem : {A : Type 0} (read : List ℕ → Answer A) (n : ℕ) (bs : List ℕ) → read_row read n bs ≡ row_from (front read n bs) (end_of (read_row read n bs))
row_from_lem read zero bs = refl
row_from_lem {A} read (suc n) bs = first (λ r. row_from_lem read n r) (read bs)
  where
    first :
        ((r : List ℕ) → read_row read n r ≡ row_from (front read n r) (end_of (read_row read n r)))
        → (a : Answer A)
        → row_after (suc n) a (λ x r. adds x (read_row read n r))
        ≡ row_from (front_after a (λ x r. x ∷ front read n r)) (end_of (row_after (suc n) a (λ x r. adds x (read_row read n r))))
    first further (got x r) = adds_from x (front read n r) (read_row read n r) (further r)
    first further short = refl
    first further out = refl

-- no more are kept out than there are
halted_few : {A : Type 0} (read : List ℕ → Answer A) (n k : ℕ) (bs : List ℕ) → end_of (read_row read n bs) ≡ halted k → k ≤ n
halted_few read zero k bs h = let z : ◌≡◌ {A = ℕ} 0 1 = cc in absurd (omega arith)
halted_few {A} read (suc n) k bs h = first (λ s more. halted_few read n k s more) (read bs) h
  where
    first :
        ((s : List ℕ) → end_of (read_row read n s) ≡ halted k → k ≤ n)
        → (a : Answer A) → end_of (row_after (suc n) a (λ x r. adds x (read_row read n r))) ≡ halted k → k ≤ suc n
    first further (got x s) h = let few = further s (sym (end_adds x (read_row read n s)) ∙ h) in omega (arith, few)
    first further short h = let z : ◌≡◌ {A = ℕ} 0 1 = cc in absurd (omega arith)
    first further out h = let k-is : suc n ≡ k = cc in omega (arith, k-is)

-- where k of n are kept out, the front are the others
pub front_stops :
    {A : Type 0} (read : List ℕ → Answer A) (m n k : ℕ) (bs r : List ℕ) → n ≡ m + k → end_of (read_row read m bs) ≡ through r
    → end_of (read_row read n bs) ≡ halted k → front read n bs ≡ front read m bs
front_stops read zero zero k bs r n-is on off = refl
front_stops {A} read zero (suc n) k bs r n-is on off = first (λ s more. halted_few read n k s more) (read bs) off
  where
    first :
        ((s : List ℕ) → end_of (read_row read n s) ≡ halted k → k ≤ n)
        → (a : Answer A) → end_of (row_after (suc n) a (λ x r. adds x (read_row read n r))) ≡ halted k → front_after a (λ x r. x ∷ front read n r) ≡ []
    first further (got x s) h = let few = further s (sym (end_adds x (read_row read n s)) ∙ h) in absurd (omega (arith, few, n-is))
    first further short h = refl
    first further out h = refl
front_stops read (suc m) zero k bs r n-is on off = absurd (omega (arith, n-is))
front_stops {A} read (suc m) (suc n) k bs r n-is on off = first (λ s one two. front_stops read m n k s r (omega (arith, n-is)) one two) (read bs) on off
  where
    first :
        ((s : List ℕ) → end_of (read_row read m s) ≡ through r → end_of (read_row read n s) ≡ halted k → front read n s ≡ front read m s)
        → (a : Answer A)
        → end_of (row_after (suc m) a (λ x r. adds x (read_row read m r))) ≡ through r
        → end_of (row_after (suc n) a (λ x r. adds x (read_row read n r))) ≡ halted k
        → front_after a (λ x r. x ∷ front read n r) ≡ front_after a (λ x r. x ∷ front read m r)
    first further (got x s) one two =
        ap {B = List A} (λ xs. x ∷ xs)
        (further s (sym (end_adds x (read_row read m s)) ∙ one) (sym (end_adds x (read_row read n s)) ∙ two))
    first further short one two = refl
    first further out one two = refl

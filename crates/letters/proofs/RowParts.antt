-- The values of a row have a part of the bytes of their own.
use Rattle.std.proofs.Common.{◌≡◌, ℕ, zero, suc, ◌+◌, ◌-◌, ◌≤◌, Bool, true, false, cond, eqb, List, [], ◌∷◌, ◌++◌, length, take, sym, refl, ap, ◌∙◌, append_assoc, append-nil, add-one, arith, length-append}
use Rattle.std.proofs.Math.Seq.{take-append_seam}
use Rattle.std.proofs.lemmas.Bool.{eqb-true}
use Rattle.letters.specs.Answers.{Answer, got, OwnPart}
use Rattle.letters.specs.Rows.{whole, adds, row_after, read_row, OwnRow, through, halted, end_of, front}
use Rattle.letters.proofs.Rowing.{row_from, row_from_lem, front_stops}
use Rattle.letters.proofs.RowCodes.{adds-whole, row_after-whole}

-- one value more behind those of a row
row_suc :
    {A : Type 0} (read : List ℕ → Answer A) (n : ℕ) (bs r s : List ℕ) (xs : List A) (x : A) → read_row read n bs ≡ whole xs r → read r ≡ got x s
    → read_row read (suc n) bs ≡ whole (xs ++ x ∷ []) s
row_suc read zero bs r s xs x all one =
    let r-is : bs ≡ r = cc in
    let xs-is : [] ≡ xs = cc in
    rw (r-is, one) (ap (λ ys. whole (ys ++ x ∷ []) s) xs-is)
row_suc read (suc n) bs r s xs x all one =
    let there = row_after-whole (suc n) (read bs) _ xs r all in
    let y = there.0 in
    let t = there.1.0 in
    let split = adds-whole y (read_row read n t) xs r there.1.1.1 in
    ap (λ a. row_after (suc (suc n)) a (λ z u. adds z (read_row read (suc n) u))) there.1.1.0
    ∙ ap (adds y) (row_suc read n t r s split.0 x split.1.0 one)
    ∙ ap (λ zs. whole (zs ++ x ∷ []) s) split.1.1

module _ {A : Type 0} (read : List ℕ → Answer A) (bs : List ℕ) where
  pub own_more : (n : ℕ) (r s : List ℕ) (x : A) → OwnRow read n bs r → OwnPart read x r s → OwnRow read (n + 1) bs s
  own_more n r s x row one = (
    row.0 ++ one.0,
    (
      row.1.0 ∙ ap (λ t. row.0 ++ t) one.1.0 ∙ sym (append_assoc row.0 one.0 s),
      (
        row.1.1.0 ++ x ∷ [],
        λ more.
            rw add-one
            (row_suc read n ((row.0 ++ one.0) ++ more) (one.0 ++ more) more row.1.1.0 x
            (ap (read_row read n) (append_assoc row.0 one.0 more) ∙ row.1.1.1 (one.0 ++ more)) (one.1.1 more)),
      ),
    ),
  )

  part_is : (n : ℕ) (r : List ℕ) (row : OwnRow read n bs r) → take (length bs - length r) bs ≡ row.0
  part_is n r row =
      let long : length bs - length r ≡ length row.0 = omega (arith, ap length row.1.0, length-append row.0 r) in
      ap (λ k. take k bs) long ∙ ap (take (length row.0)) row.1.0 ∙ take-append_seam row.0 r

  front_whole : (n : ℕ) (cs r : List ℕ) (xs : List A) → read_row read n cs ≡ whole xs r → front read n cs ≡ xs
  front_whole n cs r xs h =
      let same : whole xs r ≡ whole (front read n cs) r = sym h ∙ row_from_lem read n cs ∙ ap (λ row. row_from (front read n cs) (end_of row)) h in
      cc

  part_front : (n : ℕ) (r : List ℕ) → OwnRow read n bs r → front read n (take (length bs - length r) bs) ≡ front read n bs
  part_front n r row =
      ap (front read n) (part_is n r row ∙ sym (append-nil row.0))
      ∙ front_whole n (row.0 ++ []) [] row.1.1.0 (row.1.1.1 [])
      ∙ sym (ap (front read n) row.1.0 ∙ front_whole n (row.0 ++ r) r row.1.1.0 (row.1.1.1 r))

  own_through : (n : ℕ) (r : List ℕ) → OwnRow read n bs r → end_of (read_row read n bs) ≡ through r
  own_through n r row = ap (λ t. end_of (read_row read n t)) row.1.0 ∙ ap end_of (row.1.1.1 r)

  -- the front of a row is read from its part alone
  pub row_values :
      (n k : ℕ) (r : List ℕ) → k ≤ n → OwnRow read (n - k) bs r → end_of (read_row read n bs) ≡ cond (eqb k 0) (through r) (halted k)
      → front read (n - k) (take (length bs - length r) bs) ≡ front read n bs
  row_values n k r few row end = part_front (n - k) r row ∙ sym (all (eqb k 0) refl end)
    where
      all : (b : Bool) → eqb k 0 ≡ b → end_of (read_row read n bs) ≡ cond b (through r) (halted k) → front read n bs ≡ front read (n - k) bs
      all true e h = let n-is : n ≡ n - k = omega (arith, eqb-true k 0 e) in ap (λ m. front read m bs) n-is
      all false e h = front_stops read (n - k) n k bs r (omega (arith, few)) (own_through (n - k) r row) h

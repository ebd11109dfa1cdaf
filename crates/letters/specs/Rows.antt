-- Reading a number of entries: all, or those before the first that is out of range, or the bytes end too soon.
use Rattle.std.specs.Prelude.{◌≡◌, ℕ, zero, suc, List, [], ◌∷◌, ◌++◌}
use Rattle.letters.specs.Answers.{Answer, got, short, out}

-- all and the bytes behind them; those before the first out of range and how many are kept out; cut short
pub data Row (A : Type 0) : Type 0 where
  whole : List A → List ℕ → Row A
  stopped : List A → ℕ → Row A
  torn : Row A

abbrev pub adds : {A : Type 0} → A → Row A → Row A
adds x (whole xs r) = whole (x ∷ xs) r
adds x (stopped xs k) = stopped (x ∷ xs) k
adds x torn = torn

-- the first of n, and then the others
abbrev pub row_after : {A : Type 0} → ℕ → Answer A → (A → List ℕ → Row A) → Row A
row_after n (got x r) f = f x r
row_after n short f = torn
row_after n out f = stopped [] n

abbrev pub read_row : {A : Type 0} → (List ℕ → Answer A) → ℕ → List ℕ → Row A
read_row read zero bs = whole [] bs
read_row read (suc n) bs = row_after (suc n) (read bs) (λ x r. adds x (read_row read n r))

-- where a row ends: the bytes behind it, or how many are kept out, or too soon
pub data End : Type 0 where
  through : List ℕ → End
  halted : ℕ → End
  cut : End

abbrev pub end_of : {A : Type 0} → Row A → End
end_of (whole xs r) = through r
end_of (stopped xs k) = halted k
end_of torn = cut

-- of n, those before the first that cannot be read
abbrev pub front_after : {A : Type 0} → Answer A → (A → List ℕ → List A) → List A
front_after (got x r) f = f x r
front_after short f = []
front_after out f = []

abbrev pub front : {A : Type 0} → (List ℕ → Answer A) → ℕ → List ℕ → List A
front read zero bs = []
front read (suc n) bs = front_after (read bs) (λ x r. x ∷ front read n r)

-- what stands before the rest is the own part of n values
abbrev pub OwnRow : {A : Type 0} → (List ℕ → Answer A) → ℕ → List ℕ → List ℕ → Type 0
OwnRow {A} read n bs rest =
    (part : List ℕ) × ((bs ≡ part ++ rest) × ((xs : List A) × ((more : List ℕ) → read_row read n (part ++ more) ≡ whole xs more)))

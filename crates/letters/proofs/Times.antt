-- A loop that reads n values into an array: what is left to read decides.
use Rattle.std.proofs.Common.{◌≡◌, ℕ, ◌+◌, ◌-◌, ◌<◌, ◌≤◌, List, [], ◌∷◌, ◌++◌, map, length, take, set, refl, ap, ◌∙◌, append_assoc, add-one, arith}
use Rattle.std.proofs.lemmas.List.{take_more_set, map_push}
use Rattle.letters.specs.Answers.{Answer, got, short, out, after, read_times}

-- the values that are there already, before those that are still to be read
abbrev pub joins : {A : Type 0} → List A → Answer (List A) → Answer (List A)
joins xs (got ys r) = got (xs ++ ys) r
joins xs short = short
joins xs out = out

joins_more :
    {A : Type 0} (xs : List A) (x : A) (a : Answer (List A)) → joins xs (after a (λ ys s. got (x ∷ ys) s)) ≡ joins (xs ++ x ∷ []) a
joins_more xs x (got ys r) = rw append_assoc refl
joins_more xs x short = refl
joins_more xs x out = refl

pub times_more :
    {A X : Type 0} (read : List ℕ → Answer A) (f : X → A) (n i : ℕ) (bs r s : List ℕ) (all : List X) (x : X) → i < n → n ≤ length all
    → read_times read n bs ≡ joins (map f (take i all)) (read_times read (n - i) r) → read r ≡ got (f x) s
    → read_times read n bs ≡ joins (map f (take (i + 1) (set all i x))) (read_times read (n - (i + 1)) s)
times_more read f n i bs r s all x lt fit inv one =
    let h : i < length all = omega arith in
    let m-is : n - i ≡ (n - (i + 1)) + 1 = omega arith in
    let step : read_times read (n - i) r ≡ after (read_times read (n - (i + 1)) s) (λ xs t. got (f x ∷ xs) t) = rw (m-is, add-one, one) refl in
    inv
    ∙ ap (joins (map f (take i all))) step
    ∙ joins_more (map f (take i all)) (f x) (read_times read (n - (i + 1)) s)
    ∙ rw (take_more_set all i x h, map_push) refl

-- A row that was written is read whole, and is torn where it is cut; a row that is read whole has one form.
use Rattle.std.proofs.Common.{◌≡◌, ℕ, zero, suc, ◌-◌, ◌<◌, ◌≤◌, List, [], ◌∷◌, ◌++◌, length, take, sym, refl, ap, ◌∙◌, subst, ⊎_elim, append_assoc, arith, length-append}
use lib.Seq.{take-append-le}
use Rattle.std.specs.List.{flat_map}
use Rattle.std.proofs.lemmas.Bool.{cases_lt}
use Rattle.bookings.specs.Ranges.{Each}
use Rattle.letters.specs.Answers.{Answer, got, short, out}
use Rattle.letters.specs.Laws.{Bytes}
use Rattle.letters.specs.Rows.{Row, whole, stopped, torn, adds, row_after, read_row}
use Rattle.letters.proofs.Codes.{Codes, take_past}
use Rattle.letters.proofs.Exact.{Exact}

module _ {A : Type 0} (read : List ℕ → Answer A) (enc : A → List ℕ) (P : A → Type 0) (one : (x : A) → P x → Codes read (enc x) x) where
  pub row_round : (xs : List A) (rest : List ℕ) → Each P xs → read_row read (length xs) (flat_map enc xs ++ rest) ≡ whole xs rest
  row_round [] rest ok = refl
  row_round (x ∷ xs) rest ok =
      rw (append_assoc (enc x) (flat_map enc xs) rest, (one x ok.0).round (flat_map enc xs ++ rest)) (ap (adds x) (row_round xs rest ok.1))

  pub row_cut : (xs : List A) (k : ℕ) → Each P xs → k < length (flat_map enc xs) → read_row read (length xs) (take k (flat_map enc xs)) ≡ torn
  row_cut [] k ok h = absurd (omega arith)
  row_cut (x ∷ xs) k ok h = ⊎_elim early (late (λ j lt. row_cut xs j ok.1 lt)) (cases_lt k (length (enc x)))
    where
      early : k < length (enc x) → read_row read (suc (length xs)) (take k (enc x ++ flat_map enc xs)) ≡ torn
      early lt = let le : k ≤ length (enc x) = omega arith in rw (take-append-le k (enc x) (flat_map enc xs) le, (one x ok.0).cut k lt) refl

      late :
          ((j : ℕ) → j < length (flat_map enc xs) → read_row read (length xs) (take j (flat_map enc xs)) ≡ torn)
          → length (enc x) ≤ k → read_row read (suc (length xs)) (take k (enc x ++ flat_map enc xs)) ≡ torn
      late further le =
          let more : k - length (enc x) < length (flat_map enc xs) = omega (arith, h, length-append (enc x) (flat_map enc xs)) in
          rw (take_past (enc x) (flat_map enc xs) k le, (one x ok.0).round (take (k - length (enc x)) (flat_map enc xs)))
          (ap (adds x) (further (k - length (enc x)) more))

-- a row of one form, where each of its values has one
pub adds-whole :
    {A : Type 0} (x : A) (row : Row A) (xs : List A) (r : List ℕ) → adds x row ≡ whole xs r → (ys : List A) × ((row ≡ whole ys r) × (x ∷ ys ≡ xs))
adds-whole x (whole ys s) xs r h = let s-is : s ≡ r = cc in (ys, (ap (whole ys) s-is, cc))
adds-whole x (stopped ys k) xs r h = let z : ◌≡◌ {A = ℕ} 0 1 = cc in absurd (omega arith)
adds-whole x torn xs r h = let z : ◌≡◌ {A = ℕ} 0 1 = cc in absurd (omega arith)

pub row_after-whole :
    {A : Type 0} (n : ℕ) (a : Answer A) (f : A → List ℕ → Row A) (xs : List A) (r : List ℕ) → row_after n a f ≡ whole xs r
    → (x : A) × ((s : List ℕ) × ((a ≡ got x s) × (f x s ≡ whole xs r)))
row_after-whole n (got x s) f xs r h = (x, (s, (refl, h)))
row_after-whole n short f xs r h = let z : ◌≡◌ {A = ℕ} 0 1 = cc in absurd (omega arith)
row_after-whole n out f xs r h = let z : ◌≡◌ {A = ℕ} 0 1 = cc in absurd (omega arith)

pub row_exact :
    {A : Type 0} (read : List ℕ → Answer A) (enc : A → List ℕ) (P : A → Type 0) → Exact [] read enc P
    → (n : ℕ) (bs : List ℕ) (xs : List A) (r : List ℕ) → Bytes bs → read_row read n bs ≡ whole xs r
    → (bs ≡ flat_map enc xs ++ r) × (((length xs ≡ n) × Each P xs) × Bytes r)
row_exact read enc P one zero bs xs r bytes h =
    let xs-is : [] ≡ xs = cc in
    let r-is : bs ≡ r = cc in
    subst (λ ys. (bs ≡ flat_map enc ys ++ r) × (((length ys ≡ 0) × Each P ys) × Bytes r)) xs-is (r-is, ((refl, tt), subst Bytes r-is bytes))
row_exact read enc P one (suc n) bs xs r bytes h =
    let there = row_after-whole (suc n) (read bs) _ xs r h in
    let x = there.0 in
    let s = there.1.0 in
    let here = one bs x s bytes there.1.1.0 in
    let split = adds-whole x (read_row read n s) xs r there.1.1.1 in
    let ys = split.0 in
    let more = row_exact read enc P one n s ys r here.1.1 split.1.0 in
    subst (λ zs. (bs ≡ flat_map enc zs ++ r) × (((length zs ≡ suc n) × Each P zs) × Bytes r)) split.1.1 (
      here.0 ∙ ap (λ t. enc x ++ t) more.0 ∙ sym (append_assoc (enc x) (flat_map enc ys) r),
      ((ap suc more.1.0.0, (here.1.0, more.1.0.1)), more.1.1),
    )

-- what stops keeps something out
adds-stopped : {A : Type 0} (x : A) (row : Row A) (xs : List A) (k : ℕ) → adds x row ≡ stopped xs k → (ys : List A) × (row ≡ stopped ys k)
adds-stopped x (whole ys s) xs k h = let z : ◌≡◌ {A = ℕ} 0 1 = cc in absurd (omega arith)
adds-stopped x (stopped ys j) xs k h = (ys, ap (stopped ys) (let j-is : j ≡ k = cc in j-is))
adds-stopped x torn xs k h = let z : ◌≡◌ {A = ℕ} 0 1 = cc in absurd (omega arith)

pub row-stopped_some : {A : Type 0} (read : List ℕ → Answer A) (n : ℕ) (bs : List ℕ) (xs : List A) (k : ℕ) → read_row read n bs ≡ stopped xs k → 1 ≤ k
row-stopped_some read zero bs xs k h = let z : ◌≡◌ {A = ℕ} 0 1 = cc in absurd (omega arith)
row-stopped_some {A} read (suc n) bs xs k h = first (λ s ys e. row-stopped_some read n s ys k e) (read bs) h
  where
    first :
        ((s : List ℕ) (ys : List A) → read_row read n s ≡ stopped ys k → 1 ≤ k)
        → (a : Answer A) → row_after (suc n) a (λ x r. adds x (read_row read n r)) ≡ stopped xs k → 1 ≤ k
    first further (got x s) h = let split = adds-stopped x (read_row read n s) xs k h in further s split.0 split.1
    first further short h = let z : ◌≡◌ {A = ℕ} 0 1 = cc in absurd (omega arith)
    first further out h = let k-is : suc n ≡ k = cc in omega (arith, k-is)

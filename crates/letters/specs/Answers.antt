-- What reading a list of bytes answers.
use Rattle.std.specs.Prelude.{◌≡◌, ℕ, zero, suc, Bool, List, [], ◌∷◌, ◌++◌}
use Rattle.std.specs.declared.option.Option.{Option}
use Rattle.std.specs.Bool.{then_some}
use Rattle.letters.specs.declared.wrong.Wrong.{Wrong}
use Rattle.letters.specs.declared.wrong.Wrong.TheVariants.{Short, Out}

-- a value and the bytes behind it, or the bytes end too soon, or a number is out of its range
pub data Answer (A : Type 0) : Type 0 where
  got : A → List ℕ → Answer A
  short : Answer A
  out : Answer A

-- one reading after another
abbrev pub after : {A B : Type 0} → Answer A → (A → List ℕ → Answer B) → Answer B
after (got a rest) f = f a rest
after short f = short
after out f = out

abbrev pub wrong : {A : Type 0} → Wrong → Answer A
wrong Short = short
wrong Out = out

-- a value that was read is judged: nothing where the test fails
abbrev pub judged : {A : Type 0} → (A → Bool) → Answer A → Answer (Option A)
judged test (got a rest) = got (then_some (test a) a) rest
judged test short = short
judged test out = out

-- n times the same
abbrev pub read_times : {A : Type 0} → (List ℕ → Answer A) → ℕ → List ℕ → Answer (List A)
read_times read zero bs = got [] bs
read_times read (suc n) bs = after (read bs) (λ x r. after (read_times read n r) (λ xs s. got (x ∷ xs) s))

-- what stands before the rest is the value's own part of the bytes: it is read from that, whatever stands behind it
abbrev pub OwnPart : {A : Type 0} → (List ℕ → Answer A) → A → List ℕ → List ℕ → Type 0
OwnPart read a bs rest = (part : List ℕ) × ((bs ≡ part ++ rest) × ((more : List ℕ) → read (part ++ more) ≡ got a more))

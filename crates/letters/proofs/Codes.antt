-- A reading that reads some bytes ps a value, and finds each shorter part of them cut short: leaves, one after another, many.
use Rattle.std.proofs.Common.{◌≡◌, ℕ, zero, suc, ◌-◌, ◌<◌, ◌≤◌, Bool, true, if◌then◌else◌, List, [], ◌∷◌, ◌++◌, length, take, refl, ap, ◌∙◌, ⊎_elim, append_assoc, arith, length-append, length-take-le, le-ltb, lt-ltb}
use lib.Seq.{take-append-le}
use Rattle.std.specs.List.{flat_map}
use Rattle.std.proofs.lemmas.Bool.{cases_lt}
use Rattle.letters.specs.Answers.{Answer, got, short, out, after, read_times}
use Rattle.letters.specs.Format.{having}
use Rattle.bookings.specs.Ranges.{Each}

pub record Codes {A : Type 0} (read : List ℕ → Answer A) (ps : List ℕ) (a : A) : Type 0 where
  pub round : (rest : List ℕ) → read (ps ++ rest) ≡ got a rest
  pub cut : (k : ℕ) → k < length ps → read (take k ps) ≡ short

-- a block of n bytes
pub codes_block :
    {A : Type 0} (n : ℕ) (body : List ℕ → Answer A) (ps : List ℕ) (a : A) → length ps ≡ n
    → ((rest : List ℕ) → body (ps ++ rest) ≡ got a rest) → Codes (λ bs. having n bs (body bs)) ps a
codes_block n body ps a long same =
    record {
      round = λ rest. rw (le-ltb (length (ps ++ rest)) n (simp length-append (omega arith))) (same rest);
      cut = λ k h. rw (lt-ltb (length (take k ps)) n (let fit : k ≤ length ps = omega arith in rw (length-take-le k ps fit) (omega arith))) refl;
    }

-- nothing
pub codes_got : {A : Type 0} (a : A) → Codes (λ bs. got a bs) [] a
codes_got a = record { round = λ rest. refl; cut = λ k h. absurd (omega arith) }

pub take_past : (ps bs : List ℕ) (k : ℕ) → length ps ≤ k → take k (ps ++ bs) ≡ ps ++ take (k - length ps) bs
take_past [] bs k h = ap (λ n. take n bs) (omega arith)
take_past (x ∷ ps) bs zero h = absurd (omega arith)
take_past (x ∷ ps) bs (suc k) h =
    let e : suc k - suc (length ps) ≡ k - length ps = omega arith in
    ap {B = List ℕ} (λ r. x ∷ r) (take_past ps bs k (omega arith)) ∙ rw e refl

-- one after another
pub codes_then :
    {A B : Type 0} (first : List ℕ → Answer A) (next : A → List ℕ → Answer B) (ps bs : List ℕ) (a : A) (b : B)
    → Codes first ps a → Codes (next a) bs b → Codes (λ x. after (first x) next) (ps ++ bs) b
codes_then first next ps bs a b p q =
    record {
      round = λ rest. rw (append_assoc ps bs rest, p.round (bs ++ rest)) (q.round rest);
      cut = λ k h. ⊎_elim (early k) (late k h) (cases_lt k (length ps));
    }
  where
    early : (k : ℕ) → k < length ps → after (first (take k (ps ++ bs))) next ≡ short
    early k lt = let le : k ≤ length ps = omega arith in rw (take-append-le k ps bs le, p.cut k lt) refl

    late : (k : ℕ) → k < length (ps ++ bs) → length ps ≤ k → after (first (take k (ps ++ bs))) next ≡ short
    late k h le = rw (take_past ps bs k le, p.round (take (k - length ps) bs)) (q.cut (k - length ps) (omega (arith, length-append ps bs)))

-- what was read, made into something else
pub codes_map :
    {A B : Type 0} (first : List ℕ → Answer A) (f : A → B) (ps : List ℕ) (a : A)
    → Codes first ps a → Codes (λ x. after (first x) (λ y r. got (f y) r)) ps (f a)
codes_map first f ps a p =
    record { round = λ rest. rw (p.round rest) refl; cut = λ k h. rw (p.cut k h) refl }

-- what was read, where it passes a test
pub codes_judged :
    {A : Type 0} (first : List ℕ → Answer A) (test : A → Bool) (ps : List ℕ) (a : A)
    → Codes first ps a → test a ≡ true → Codes (λ x. after (first x) (λ y r. if test y then got y r else out)) ps a
codes_judged first test ps a p passed =
    record { round = λ rest. rw (p.round rest, passed) refl; cut = λ k h. rw (p.cut k h) refl }

-- many
pub codes_times :
    {A : Type 0} (read : List ℕ → Answer A) (enc : A → List ℕ) (P : A → Type 0) → ((x : A) → P x → Codes read (enc x) x)
    → (xs : List A) → Each P xs → Codes (read_times read (length xs)) (flat_map enc xs) xs
codes_times read enc P one [] h = codes_got []
codes_times read enc P one (x ∷ xs) h =
    codes_then read _ (enc x) (flat_map enc xs) x (x ∷ xs) (one x h.0)
    (codes_map (read_times read (length xs)) (λ ys. x ∷ ys) (flat_map enc xs) xs (codes_times read enc P one xs h.1))

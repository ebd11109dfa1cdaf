-- A reading whose answers are in range, and whose bytes are the one encoding of what it read: blocks, one after another, many.
use Rattle.std.proofs.Common.{◌≡◌, ℕ, zero, suc, ◌≤◌, Bool, true, false, cond, if◌then◌else◌, ltb, List, [], ◌∷◌, ◌++◌, length, sym, refl, ap, ◌∙◌, subst, append_assoc, arith}
use Rattle.std.specs.List.{flat_map}
use Rattle.std.proofs.lemmas.Bool.{ltb-false}
use Rattle.bookings.specs.Ranges.{Each}
use Rattle.letters.specs.Answers.{Answer, got, short, out, after, read_times}
use Rattle.letters.specs.Format.{having, unless}
use Rattle.letters.specs.Laws.{Bytes}

-- behind the bytes ps, what is read is in range, and with ps its encoding
abbrev pub Exact : {A : Type 0} → List ℕ → (List ℕ → Answer A) → (A → List ℕ) → (A → Type 0) → Type 0
Exact {A} ps read enc P = (bs : List ℕ) (a : A) (r : List ℕ) → Bytes bs → read bs ≡ got a r → (ps ++ bs ≡ enc a ++ r) × (P a × Bytes r)

pub after-got :
    {A B : Type 0} (x : Answer A) (f : A → List ℕ → Answer B) (b : B) (s : List ℕ) → after x f ≡ got b s
    → (a : A) × ((r : List ℕ) × ((x ≡ got a r) × (f a r ≡ got b s)))
after-got (got a r) f b s h = (a, (r, (refl, h)))
after-got short f b s h = let z : ◌≡◌ {A = ℕ} 0 1 = cc in absurd (omega arith)
after-got out f b s h = let z : ◌≡◌ {A = ℕ} 0 1 = cc in absurd (omega arith)

pub unless-got : {A : Type 0} (t : Bool) (x : Answer A) (a : A) (r : List ℕ) → unless t x ≡ got a r → (t ≡ false) × (x ≡ got a r)
unless-got true x a r h = let z : ◌≡◌ {A = ℕ} 0 1 = cc in absurd (omega arith)
unless-got false x a r h = (refl, h)

pub having-got : {A : Type 0} (n : ℕ) (bs : List ℕ) (x : Answer A) (a : A) (r : List ℕ) → having n bs x ≡ got a r → (n ≤ length bs) × (x ≡ got a r)
having-got n bs x a r h = cut (ltb (length bs) n) refl h
  where
    cut : (t : Bool) → ltb (length bs) n ≡ t → cond t short x ≡ got a r → (n ≤ length bs) × (x ≡ got a r)
    cut true e h = let z : ◌≡◌ {A = ℕ} 0 1 = cc in absurd (omega arith)
    cut false e h = (ltb-false (length bs) n e, h)

pub exact_got : {A : Type 0} (ps : List ℕ) (v : A) (enc : A → List ℕ) (P : A → Type 0) → ps ≡ enc v → P v → Exact ps (λ bs. got v bs) enc P
exact_got ps v enc P same ok bs a r bytes h =
    let v-is : v ≡ a = cc in
    let r-is : bs ≡ r = cc in
    (ap (λ xs. xs ++ bs) same ∙ ap (λ x. enc x ++ bs) v-is ∙ ap (λ xs. enc a ++ xs) r-is, (subst P v-is ok, subst Bytes r-is bytes))

pub exact_then :
    {A B : Type 0} (ps : List ℕ) (first : List ℕ → Answer A) (enc : A → List ℕ) (P : A → Type 0) (next : A → List ℕ → Answer B) (all : B → List ℕ)
    (Q : B → Type 0)
    → Exact [] first enc P → ((a : A) → P a → Exact (ps ++ enc a) (next a) all Q) → Exact ps (λ bs. after (first bs) next) all Q
exact_then ps first enc P next all Q one more bs b s bytes h =
    let found = after-got (first bs) next b s h in
    let a = found.0 in
    let r = found.1.0 in
    let here = one bs a r bytes found.1.1.0 in
    let there = more a here.1.0 r b s here.1.1 found.1.1.1 in
    (ap (λ xs. ps ++ xs) here.0 ∙ sym (append_assoc ps (enc a) r) ∙ there.0, there.1)

pub exact_unless :
    {A : Type 0} (ps : List ℕ) (t : Bool) (x : List ℕ → Answer A) (enc : A → List ℕ) (P : A → Type 0)
    → (t ≡ false → Exact ps x enc P) → Exact ps (λ bs. unless t (x bs)) enc P
exact_unless ps t x enc P more bs a r bytes h = let off = unless-got t (x bs) a r h in more off.0 bs a r bytes off.1

pub exact_cond :
    {A : Type 0} (ps : List ℕ) (t : Bool) (x y : List ℕ → Answer A) (enc : A → List ℕ) (P : A → Type 0)
    → (t ≡ true → Exact ps x enc P) → (t ≡ false → Exact ps y enc P) → Exact ps (λ bs. cond t (x bs) (y bs)) enc P
exact_cond ps true x y enc P on off = on refl
exact_cond ps false x y enc P on off = off refl

pub exact_out : {A : Type 0} (ps : List ℕ) (enc : A → List ℕ) (P : A → Type 0) → Exact ps (λ bs. out) enc P
exact_out ps enc P bs a r bytes h = let z : ◌≡◌ {A = ℕ} 0 1 = cc in absurd (omega arith)

-- what was read, where it passes a test
pub exact_judged :
    {A : Type 0} (first : List ℕ → Answer A) (test : A → Bool) (enc : A → List ℕ) (P : A → Type 0) → Exact [] first enc P
    → Exact [] (λ bs. after (first bs) (λ a r. if test a then got a r else out)) enc (λ a. P a × (test a ≡ true))
exact_judged first test enc P one =
    exact_then [] first enc P _ enc (λ a. P a × (test a ≡ true)) one
    (λ a ok. exact_cond (enc a) (test a) (λ r. got a r) (λ r. out) enc _ (λ passed. exact_got (enc a) a enc _ refl (ok, passed)) (λ _. exact_out (enc a) enc _))

pub exact_times :
    {A : Type 0} (read : List ℕ → Answer A) (enc : A → List ℕ) (P : A → Type 0) → Exact [] read enc P
    → (n : ℕ) → Exact [] (read_times read n) (flat_map enc) (λ xs. (length xs ≡ n) × Each P xs)
exact_times read enc P one zero = exact_got [] [] (flat_map enc) _ refl (refl, tt)
exact_times read enc P one (suc n) =
    exact_then [] read enc P _ (flat_map enc) _ one
    (λ x x-ok.
    exact_then (enc x) (read_times read n) (flat_map enc) (λ xs. (length xs ≡ n) × Each P xs) _ (flat_map enc) _ (exact_times read enc P one n)
    (λ xs xs-ok. exact_got (enc x ++ flat_map enc xs) (x ∷ xs) (flat_map enc) _ refl (ap suc xs-ok.0, (x-ok, xs-ok.1))))

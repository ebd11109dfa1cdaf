-- Tests as types: what a true `&&`, `||` or `cond` gives, how to make one true, and cases by a test.
use Rattle.std.proofs.Common.{◌≡◌, ℕ, suc, ◌<◌, Bool, true, false, cond, not, ◌&&◌, ◌||◌, T, eqb, sym, refl, subst, arith, eqb→eq}
use lib.Dec.{eqb_refl}

pub by_test {ℓ} : {C : Type ℓ} (b : Bool) → (T b → C) → ((T b → ⊥) → C) → C
by_test true f g = f tt
by_test false f g = g (λ t. t)

pub and_makes : (a b : Bool) → T a → T b → T (a && b)
and_makes true b s t = t
and_makes false b s t = s

pub and_has : (a b : Bool) → T (a && b) → T a × T b
and_has true b t = (tt, t)
and_has false b t = (t, absurd t)

pub or_first : (a b : Bool) → T a → T (a || b)
or_first true b t = tt
or_first false b t = absurd t

pub or_second : (a b : Bool) → T b → T (a || b)
or_second true b t = tt
or_second false b t = t

pub or_either {ℓ} : {C : Type ℓ} (a b : Bool) → T (a || b) → (T a → C) → (T b → C) → C
or_either true b t f g = f tt
or_either false b t f g = g t

pub true_T : (b : Bool) → b ≡ true → T b
true_T b q = subst T (sym q) tt

pub T_true : (b : Bool) → T b → b ≡ true
T_true true t = refl
T_true false t = absurd t

pub not_not : (b : Bool) → (T (not b) → ⊥) → b ≡ true
not_not true never = refl
not_not false never = absurd (never tt)

pub cond_yes {ℓ} : {A : Type ℓ} (b : Bool) (x y : A) → T b → cond b x y ≡ x
cond_yes true x y t = refl
cond_yes false x y t = absurd t

pub cond_no {ℓ} : {A : Type ℓ} (b : Bool) (x y : A) → (T b → ⊥) → cond b x y ≡ y
cond_no true x y n = absurd (n tt)
cond_no false x y n = refl

-- what holds of both ways holds of a choice
pub cond_by {ℓ} : {A : Type ℓ} (Q : A → Type 0) (b : Bool) (x y : A) → (T b → Q x) → ((T b → ⊥) → Q y) → Q (cond b x y)
cond_by Q true x y f g = f tt
cond_by Q false x y f g = g (λ t. t)

-- two numbers are the same or apart
abbrev pub Apart : ℕ → ℕ → Type 0
Apart i j = T (eqb i j) → ⊥

pub by_same {ℓ} : {C : Type ℓ} (i j : ℕ) → (i ≡ j → C) → (Apart i j → C) → C
by_same i j f g = by_test (eqb i j) (λ t. f (eqb→eq i j t)) g

pub apart_turned : (i j : ℕ) → Apart i j → Apart j i
apart_turned i j n t = n (subst (λ (x : ℕ). T (eqb i x)) (sym (eqb→eq j i t)) (eqb_refl i))

pub below : (i c : ℕ) → i < suc c → Apart i c → i < c
below i c lt n =
    let ne : i ≡ c → ⊥ = λ p. n (subst (λ (x : ℕ). T (eqb i x)) p (eqb_refl i)) in
    omega arith

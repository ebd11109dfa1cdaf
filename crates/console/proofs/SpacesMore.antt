-- One space more changes no word.
use Rattle.std.proofs.Common.{◌≡◌, ℕ, Bool, true, false, eqb, List, [], ◌∷◌, ◌++◌, refl, ap}
use Rattle.console.specs.Words.{space, ended, words_after}

-- two texts have the same words behind the same byte, if they do behind every beginning
same_behind :
    (b : ℕ) (s t w : List ℕ) (is : Bool) → eqb b space ≡ is → ((v : List ℕ) → words_after v s ≡ words_after v t)
    → words_after w (b ∷ s) ≡ words_after w (b ∷ t)
same_behind b s t w true e same = simp e (ap (ended w) (same []))
same_behind b s t w false e same = simp e (same (w ++ b ∷ []))

pub double_space : (a b w : List ℕ) → words_after w (a ++ space ∷ space ∷ b) ≡ words_after w (a ++ space ∷ b)
double_space [] b w = refl
double_space (c ∷ a) b w =
    same_behind c (a ++ space ∷ space ∷ b) (a ++ space ∷ b) w (eqb c space) refl (λ v. double_space a b v)

pub last_space : (a w : List ℕ) → words_after w (a ++ space ∷ []) ≡ words_after w a
last_space [] w = refl
last_space (c ∷ a) w = same_behind c (a ++ space ∷ []) a w (eqb c space) refl (λ v. last_space a v)

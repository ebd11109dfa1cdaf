-- Of a series without end: what comes up to a time, and from then on.
use Rattle.std.proofs.Common.{◌≡◌, ℕ, zero, suc, ◌+◌, List, ◌∷◌, ◌++◌, ap, ◌∙◌, ap₂, arith}
use Rattle.network.specs.Fairness.{segment}

pub segment_append : {A : Type 0} (s : ℕ → A) (a b t : ℕ) → segment s t (a + b) ≡ segment s t a
    ++ segment s (t + a) b
segment_append s zero b t = ap₂ (λ (x y : ℕ). segment s x y) (omega arith) (omega arith)
segment_append {A} s (suc a) b t =
    let longer : suc a + b ≡ suc (a + b) = omega arith in
    let time : suc t + a ≡ t + suc a = omega arith in
    ap (segment s t) longer ∙ ap (λ (l : List A). s t ∷ l)
    (segment_append s a b (suc t) ∙ ap (λ (x : ℕ). segment s (suc t) a ++ segment s x b) time)

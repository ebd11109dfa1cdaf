-- The programs of all huts stay together, whichever of them does something.
use Rattle.std.proofs.Common.{◌≡◌, ◌≢◌, ℕ, ◌<◌, List, sym, subst, refl, inl, inr, arith}
use Rattle.std.proofs.lemmas.Bool.{cases_eq, eq-eqb, ne_eqb}
use Rattle.journal.specs.History.{Kept}
use Rattle.network.proofs.Mailed.{calls_after, mailed}
use Rattle.network.specs.Mail.{Mail, none}
use Rattle.network.specs.Net.{huts, put}
use Rattle.desk.specs.Composed.{BeginTogether, Program, StayTogether, says}

module _ {D : Type 0} (keeps : D → Kept → Type 0) (finds : D → List ℕ → Type 0) where
  each :
      (programs : ℕ → Program D) (m n : Mail) → ((j : ℕ) → j < huts → says keeps finds (programs j) (m.hut j)) → (i : ℕ) (now : Program D)
      → ((j : ℕ) → j ≢ i → n.hut j ≡ m.hut j) → says keeps finds now (n.hut i) → (j : ℕ) → j < huts → says keeps finds (put i now programs j) (n.hut j)
  each programs m n all i now others here j low = elim (cases_eq j i) [
    | inl same ↦ rw (eq-eqb j i same) (subst (λ h. says keeps finds now (n.hut h)) (sym same) here)
    | inr other ↦ rw (ne_eqb j i other) (subst (says keeps finds (programs j)) (sym (others j other)) (all j low))
  ]

  pub stay_together : StayTogether keeps finds
  stay_together programs m together i now n calls others here =
      let runs = calls_after together.0 calls in ((runs, each programs m n together.1 i now others here), mailed n runs)

  pub begin_together : BeginTogether keeps finds
  begin_together = (none, λ i low. (0, omega arith, refl))

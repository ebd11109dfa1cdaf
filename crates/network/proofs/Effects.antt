-- What the calls of a replica make of what it has kept.
use Rattle.std.proofs.Common.{◌≡◌, ℕ, ◌<◌, List, [], ◌∷◌, Option, Some, None, MatchOption, vec_capacity, refl, sym, ap, subst, ◌∙◌}
use Rattle.std.specs.Option.{option_map}
use Rattle.std.proofs.lemmas.Option.{none-some}
use Rattle.bookings.specs.Plain.{PlainEntry, PlainMark, plain_mark}
use Rattle.bookings.specs.declared.entry.Mark.{Mark}
use Rattle.entry_log.specs.Logs.{first_entry, first_mark}
use Rattle.journal.specs.History.{Kept, commits, synced}
use Rattle.journal.specs.Keeping.{InStep, Moves, state_by}
use Rattle.journal.specs.declared.keeper.Keeper.{Keeper}
use Rattle.network.specs.Effects.{commits_synced, first_of, synced_if}
use Rattle.network.proofs.Stages.{Steady, commits_steady}
use Rattle.replica.specs.Model.{State}

-- what is told of a commit tells whether it was synced
told_none : (es : List PlainEntry) (k : Kept) → None ≡ first_mark es → synced_if (first_entry es) k ≡ k
told_none [] k told = refl
told_none (e ∷ es) k told = absurd (none-some e.mark told)

told_some : (m : PlainMark) (es : List PlainEntry) (k : Kept) → Some m ≡ first_mark es → synced_if (first_entry es) k ≡ synced k
told_some m [] k told = absurd (none-some m (sym told))
told_some m (e ∷ es) k told = refl

-- what is committed is synced, and where there was nothing to commit nothing is
pub commit_moves :
    {J : Type 0} (keeps : J → List ℕ → ℕ → Type 0) (q p : Keeper J) (m : Option Mark) → option_map plain_mark m ≡ first_mark (state_by q).log.tentative
    → MatchOption m (Moves keeps q p commits) (λ _. Moves keeps q p (λ k. synced (commits k))) → Moves keeps q p commits_synced
commit_moves keeps q p None told moves k was =
    let first = told ∙ ap (λ (s : State). first_mark s.log.tentative) was.state in
    subst (InStep keeps p) (sym (told_none _ (commits k) first)) (moves k was)
commit_moves keeps q p (Some m) told moves k was =
    let first = told ∙ ap (λ (s : State). first_mark s.log.tentative) was.state in
    subst (InStep keeps p) (sym (told_some (plain_mark m) _ (commits k) first)) (moves k was)

pub commits_synced_steady : Steady commits_synced
commits_synced_steady k = either (first_of k)
  where
    either : (first : Option PlainEntry) → (synced_if first (commits k)).hut ≡ k.hut
    either None = commits_steady k
    either (Some e) = commits_steady k

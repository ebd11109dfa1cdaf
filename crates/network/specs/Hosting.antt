-- What the acts of a replica are for the guests of the model. No stage has guests: what `Stands` says of a stage does not speak of them, so that a run
-- which leads to it may be read again with any guest in it whose slip is the one that is shown.
use Rattle.std.specs.Prelude.{◌≡◌, ℕ, true, false, List, [], ◌∷◌, ◌++◌, MatchResult}
use Rattle.std.specs.declared.result.Result.{Result}
use Rattle.bookings.specs.Plain.{plain_kind}
use Rattle.entry_log.specs.declared.vector.Vector.{Vector}
use Rattle.network.specs.Net.{Event, MakesFor, Syncs, Visits, after, served}
use Rattle.network.specs.Stages.{hut_at, huts_of}
use Rattle.network.specs.Stands.{Stands}
use Rattle.network.specs.declared.act.Act.{Act}
use Rattle.network.specs.declared.act.Act.TheVariants as acts
use Rattle.network.specs.declared.act.Done.{Done}
use Rattle.network.specs.declared.act.Done.TheVariants as dones
use Rattle.network.specs.declared.stage.Stage.{Stage}
use Rattle.network.specs.declared.unplayed.Unplayed.{Unplayed}

-- the slip that is answered is the guest's after those events
abbrev pub Carries : Done → List Event → (guest : ℕ) → Type 0
Carries d es g = (v : Vector) × (d ≡ dones.Visited v) × (v.stamps ≡ ((after es).guest g).slip)

-- a guest comes to a hut with its slip: where it is served that is the model's visit; where it is not, the hut is synced, and no more
abbrev pub Visited : Stage → ℕ → Result Done Unplayed → List Event → (guest : ℕ) → Type 0
Visited t h r es g =
    MatchResult r
    (λ d. (served ((after es).guest g) ((after es).hut h) ≡ true) × Stands t (es ++ Visits g h ∷ []) × Carries d (es ++ Visits g h ∷ []) g)
    (λ _. (served ((after es).guest g) ((after es).hut h) ≡ false) × Stands t (es ++ Syncs h ∷ []))

-- what an act at a place is for a guest of the model, which comes with its slip, or has an entry made where it is served
abbrev pub ForGuest : Stage → Stage → ℕ → Act → Result Done Unplayed → List Event → (guest : ℕ) → Type 0
ForGuest s t i (acts.Visit slip) r es g = ((after es).guest g).slip ≡ slip.stamps → Visited t (hut_at (huts_of s) i) r es g
ForGuest s t i (acts.Make kind) r es g =
    served ((after es).guest g) ((after es).hut (hut_at (huts_of s) i)) ≡ true
    → MatchResult r (λ _. Stands t (es ++ MakesFor g (hut_at (huts_of s) i) (plain_kind kind) ∷ [])) (λ _. Stands t es)
ForGuest s t i acts.Commit r es g = Unit
ForGuest s t i acts.Sync r es g = Unit
ForGuest s t i (acts.Write has) r es g = Unit
ForGuest s t i (acts.Take letter) r es g = Unit
ForGuest s t i (acts.Cut letter len) r es g = Unit
ForGuest s t i (acts.Crash left) r es g = Unit

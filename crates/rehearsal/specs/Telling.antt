-- What is kept at a place tells the replica there, and what a crash may leave of its journal. The laws of a trait are given by these proofs, so they
-- stand here.
use Rattle.std.proofs.Common.{◌≡◌, ℕ, ◌<◌, ◌≤◌, List, length, take, ap, subst, ◌∙◌}
use Rattle.journal.specs.Finding.{FoundOf}
use Rattle.journal.specs.History.{Kept, state_in}
use Rattle.journal.specs.Keeping.{state_by}
use Rattle.network.proofs.Stages.{at_view}
use Rattle.network.specs.Stages.{Hut, hut_at, huts_of, state_at}
use Rattle.replica.specs.Model.{State, fresh}
use Rattle.rehearsal.specs.Carrying.{FoundAt, KeptAt}
use Rattle.rehearsal.specs.declared.cast.Cast.{Cast}

place_within : (c : Cast) → c.current < length (huts_of c.rehearsal.stage)
place_within c = subst (λ n. c.current < n) c.rehearsal.stage.keepers.ok.0 c.within

pub cast_told : (c : Cast) (k : Kept) → KeptAt (huts_of c.rehearsal.stage) c.current k → state_at (huts_of c.rehearsal.stage) c.current ≡ state_in k
cast_told c k (kept, follows, is) =
    let qs = huts_of c.rehearsal.stage in
    at_view (λ q. state_by q) (fresh 0) (λ (s : State). s ≡ state_in (kept (hut_at qs c.current))) qs c.current (place_within c)
    (λ (q : Hut). (follows.in_step c.current q (place_within c)).state)
    ∙ ap state_in is

pub cast_found : (c : Cast) (k : Kept) → KeptAt (huts_of c.rehearsal.stage) c.current k → (found : List ℕ) → FoundAt (huts_of c.rehearsal.stage) c.current found → FoundOf k found
cast_found c k (kept, follows, is) found (q, (n, least, first)) =
    let has = (follows.in_step c.current q (place_within c)).bytes.1 in
    subst (λ (x : Kept). FoundOf x found) is (n, subst (λ settled. settled ≤ n) has.1 least, first ∙ ap (take n) has.0)

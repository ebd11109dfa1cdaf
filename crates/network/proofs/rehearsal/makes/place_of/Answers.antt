use Rattle.std.proofs.Common.{◌≡◌, ◌≢◌, rules, tests}
use Rattle.std.proofs.lemmas.Iterator.{YieldsList-from_slice, IsFirst-from_position}
use Rattle.journal.specs.Keeping.{state_by}
use Rattle.network.specs.Stages.{Hut}
use Rattle.network.proofs.Huts.{hut_told}
use Rattle.network.proofs.rehearsal.makes.place_of.Goals as goal

pub returns : goal.returns
returns c =
    hut_told c.args.hut c.args.keepers.now c.position.result
    (IsFirst-from_position _ _ _ (λ (q : Hut). (state_by q).hut ≡ c.args.hut) (λ (q : Hut). (state_by q).hut ≢ c.args.hut) c.position.ensures.ran (YieldsList-from_slice c.args.keepers.now cc)
    (λ x q called. search (rules, tests)) (λ x q called. search (rules, tests)))

use Rattle.std.proofs.Common.{ap, rules}
use Rattle.bookings.specs.declared.entry.Choice.{Choice}
use Rattle.bookings.specs.Outcomes.{plain_grant, plain_outcome}
use Rattle.bookings.specs.Plain.{plain_choice}
use Rattle.bookings.proofs.Back.{few_release}
use Rattle.bookings.proofs.Ranged.{stay_ok}
use Rattle.bookings.proofs.undo.take_back.Goals as goal

pub release_beds-requires-clause-held : goal.release_beds-requires-clause-held
release_beds-requires-clause-held c = c.requires.covered 0 (plain_grant c.in-Holds.grant) (ap plain_outcome c.in-Holds.is)

pub reinstate-requires-clause-few : goal.reinstate-requires-clause-few
reinstate-requires-clause-few c =
    let freed = λ (d : Choice). few_release c.args.booked.now (plain_choice d) c.requires.long (stay_ok d.stay) c.requires.few in
    search (rules, freed)

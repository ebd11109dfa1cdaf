use Rattle.std.proofs.Common.{map}
use Rattle.std.proofs.lemmas.List.{map-set}
use Rattle.bookings.specs.Outcomes.{plain_outcome}
use Rattle.bookings.specs.Plain.{plain_mark}
use Rattle.bookings.specs.Views.{plain_standing}
use Rattle.bookings.proofs.Deeds.{cancel_found}
use Rattle.bookings.proofs.effects.cancel.Goals as goal

pub release_beds-requires-clause-held : goal.release_beds-requires-clause-held
release_beds-requires-clause-held c = c.requires.covered _ _ c.in-Some.ensures.there.1

pub returns : goal.returns
returns c = λ beds.
    cancel_found (record { beds = beds; booked = c.args.booked.now; marks = map plain_mark c.args.marks.now; outcomes = map plain_outcome c.args.outcomes.now }) (plain_standing c.in-Some.found) _ _ _ c.in-Some.ensures.value
    c.release_beds.ensures (map-set plain_outcome c.args.outcomes.now c.in-Some.found.place _)

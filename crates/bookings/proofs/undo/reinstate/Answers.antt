use Rattle.std.proofs.Common.{map}
use Rattle.std.proofs.lemmas.List.{map-set}
use Rattle.bookings.specs.Outcomes.{plain_grant, plain_outcome}
use Rattle.bookings.proofs.Back.{reinstate_some}
use Rattle.bookings.proofs.undo.reinstate.Goals as goal

pub returns : goal.returns
returns c = λ beds.
    reinstate_some c.args.place (record { beds = beds; booked = c.args.booked.now; outcomes = map plain_outcome c.args.outcomes.now }) (plain_grant c.in-Some.grant) _ _ c.in-Some.ensures.value c.claim_beds.ensures
    (map-set plain_outcome c.args.outcomes.now c.args.place _)

use Rattle.std.proofs.Common.{◌+◌, sym, arith}
use Rattle.bookings.specs.Nights.{first}
use Rattle.bookings.specs.Outcomes.{plain_grant}
use Rattle.bookings.specs.Plain.{plain_stay, plain_choices}
use Rattle.bookings.proofs.Fit.{free-at, first-is_free}
use Rattle.bookings.proofs.effects.grant_first.Goals as goal

-- what is free is no more than there are beds, which fit
pub claim_beds-requires-clause-fits : goal.claim_beds-requires-clause-fits
claim_beds-requires-clause-fits c =
    let choice = c.in_ok-grant.grant.choice in
    let from = first (plain_stay choice.stay) in
    let free =
    first-is_free c.args.beds.now c.args.booked.now c.args.replaces 0 (plain_grant c.in_ok-grant.grant) (plain_choices c.args.choices.now) (sym c.in_ok-grant.ensures) in
    λ k h. omega (arith, free-at c.args.beds.now c.args.booked.now from choice.stay.nights choice.beds k free h, c.type_inv.beds (from + k), choice.beds_ok)

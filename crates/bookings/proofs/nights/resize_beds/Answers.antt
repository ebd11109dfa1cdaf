use Rattle.std.proofs.Common.{◌-◌, rules}
use Rattle.bookings.specs.Nights.{first}
use Rattle.bookings.specs.Plain.{plain_stay}
use Rattle.bookings.proofs.Over.{part_raised}
use Rattle.bookings.proofs.nights.resize_beds.Goals as goal

pub returns-clause-after : goal.returns-clause-after
returns-clause-after c =
    let stay = c.args.supply.now.stay in
    rw c.from-wanted.ensures at
    (part_raised c.from-wanted.result c.args.beds.now c.args.booked.now c.nights_of-booked.result.now c.loop-n.nights c.places_of.result.start (first (plain_stay stay)) (c.places_of.result.end - c.places_of.result.start) stay.nights c.loop-n.n
    (search rules) (search rules) (search rules) (search rules) (search rules) c.loop-n.invariant)

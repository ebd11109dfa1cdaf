use Rattle.std.proofs.Common.{◌≡◌, ◌+◌, ◌-◌, ◌<◌, length, get_or, arith, below_more, rules}
use Rattle.std.proofs.lemmas.List.{length_push}
use Rattle.std.proofs.lemmas.Slice.Zip.{zip_turn, zip_end}
use Rattle.bookings.specs.Nights.{first}
use Rattle.bookings.specs.Plain.{plain_stay}
use Rattle.bookings.proofs.Fit.{free_there, not_free, free_from, first_yes, first_no}
use Rattle.bookings.proofs.free.first_free.Goals as goal
use Rattle.bookings.proofs.free.first_free.Goals.{In-Some}

-- what is free on the night that the loop is at
free_now :
    (c : In-Some)
    → (length c.loop-beds.yielded < c.index-listed-i.result.stay.nights)
    × (get_or c.args.beds.now (first (plain_stay c.index-listed-i.result.stay) + length c.loop-beds.yielded) 0 - get_or c.args.booked.now (first (plain_stay c.index-listed-i.result.stay) + length c.loop-beds.yielded) 0 ≡ c.in-Some.beds.now - c.in-Some.booked.now)
free_now c =
    let stay = c.index-listed-i.result.stay in
    let there = c.nights_of-there.result.now in
    let taken = c.nights_of-taken.result.now in
    let turn = zip_turn there taken c.loop-beds.yielded c.into_iter-beds-iterator.result c.loop-beds.beds-iterator c.next.new.self c.next.result (search rules) (search rules) c.loop-beds.yielded_by (c.in-Some.beds, c.in-Some.booked) c.in-Some.is c.next.ensures.steps in
    let upto : length c.loop-beds.yielded < stay.nights = omega (arith, turn.0, c.nights_of-there.ensures.many) in
    (upto, free_there c.args.beds.now c.args.booked.now there taken (first (plain_stay stay)) stay.nights (length c.loop-beds.yielded) c.in-Some.beds.now c.in-Some.booked.now c.nights_of-there.ensures.numbers c.nights_of-taken.ensures.numbers upto (turn.2 0) (turn.3 0))

pub loop-beds-preserved : goal.loop-beds-preserved
loop-beds-preserved c =
    let now = (free_now (goal.at.loop-beds-preserved c).In-Some).1 in
    let more = below_more _ (length c.loop-beds.yielded) c.loop-beds.invariant (omega (arith, now, c.saturating_sub.ensures, c.if-saturating_sub-from.false)) in
    λ k h. more k (rw length_push at h)

pub choices-preserved : goal.choices-preserved
choices-preserved c =
    let now = free_now (goal.at.choices-preserved c).In-Some in
    search (rules, not_free, first_no)

pub returns-in-choices : goal.returns-in-choices
returns-in-choices c =
    let many = zip_end c.nights_of-there.result.now c.nights_of-taken.result.now c.loop-beds.yielded c.into_iter-beds-iterator.result c.loop-beds.beds-iterator c.next.new.self c.next.result (search rules) (search rules) c.loop-beds.yielded_by c.in-None.is c.next.ensures.steps in
    search (rules, free_from, first_yes)

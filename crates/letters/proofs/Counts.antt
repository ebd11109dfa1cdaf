-- How many choices a value of the code has.
use Rattle.std.proofs.Common.{◌≡◌, ◌≤◌, length, sym, ◌∙◌, arith, length-take-le}
use lib.ListN.{length-map}
use Rattle.bookings.specs.declared.entry.Choices.{Choices}
use Rattle.bookings.specs.Plain.{plain_choice, plain_choices, listed}

pub count_is : (cs : Choices) → cs.count ≡ length (plain_choices cs)
count_is cs =
    let fit : cs.count ≤ length cs.all = omega arith in
    sym (length-map (listed cs) plain_choice ∙ length-take-le cs.count cs.all fit)

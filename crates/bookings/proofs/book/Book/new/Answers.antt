use Rattle.std.proofs.Common.{map, sym, ap, subst, rules}
use Rattle.bookings.specs.Outcomes.{plain_outcome}
use Rattle.bookings.specs.Plain.{plain_mark}
use Rattle.bookings.specs.Reached.{Reached}
use Rattle.bookings.proofs.Reach.{reached_empty}
use Rattle.bookings.proofs.Whole.{same_book}
use Rattle.bookings.proofs.book.Book.new.Goals as goal

pub invariant_of-result : goal.invariant_of-result
invariant_of-result c =
    let empty =
    same_book c.in_ok-beds.ensures c.in_ok-booked.ensures (ap (map plain_mark) c.in_ok-marks.ensures.items) (ap (map plain_outcome) c.in_ok-outcomes.ensures.items) in
    record { reached = subst Reached (sym empty) reached_empty; room = search rules }

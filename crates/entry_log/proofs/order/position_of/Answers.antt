use Rattle.std.proofs.Common.{◌≡◌, true, false, rules, tests}
use Rattle.std.proofs.lemmas.Iterator.{YieldsList-from_slice, IsFirst-from_position}
use Rattle.bookings.specs.Books.{same_mark}
use Rattle.bookings.specs.Plain.{plain_mark}
use Rattle.bookings.specs.declared.entry.Entry.{Entry}
use Rattle.entry_log.proofs.Places.{position_told}
use Rattle.entry_log.proofs.order.position_of.Goals as goal

pub returns : goal.returns
returns c =
    let m = plain_mark c.args.mark.now in
    position_told m c.args.part.now c.position.result
    (IsFirst-from_position _ _ _ (λ (e : Entry). same_mark m (plain_mark e.mark) ≡ true) (λ (e : Entry). same_mark m (plain_mark e.mark) ≡ false) c.position.ensures.ran (YieldsList-from_slice c.args.part.now cc)
    (λ x q called. search (rules, tests)) (λ x q called. search (rules, tests)))

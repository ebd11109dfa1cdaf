use Rattle.std.proofs.Common.{arith}
use Rattle.bookings.specs.Plain.{plain_choices}
use Rattle.letters.proofs.Counts.{count_is}
use Rattle.letters.proofs.Sizes.{length_choices}
use Rattle.letters.proofs.writer.lengths.entry_size.Goals as goal

pub returns-in-Book : goal.returns-in-Book
returns-in-Book c =
    let cs = c.in-Book.choices in
    record { value = rw c.in-Book.is (omega (arith, count_is cs, length_choices (plain_choices cs))); small = omega (arith, cs.few) }

pub returns-in-Change : goal.returns-in-Change
returns-in-Change c =
    let cs = c.in-Change.choices in
    record { value = rw c.in-Change.is (omega (arith, count_is cs, length_choices (plain_choices cs))); small = omega (arith, cs.few) }

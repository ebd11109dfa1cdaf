use Rattle.std.proofs.Common.{length}
use Rattle.bookings.specs.Plain.{plain_choice}
use Rattle.letters.specs.Format.{read_choice}
use Rattle.letters.specs.RangeTests.{choice_in_range}
use Rattle.letters.proofs.Judged.{Filled}
use Rattle.letters.proofs.reader.Reader.choices_into.Given as goal

abbrev pub invariant-loop-place : goal.invariant-loop-place
invariant-loop-place l =
    Filled read_choice choice_in_range plain_choice (length l.initial.places) l.initial.self.rest.now l.place-index l.in_range l.places l.self.rest.now

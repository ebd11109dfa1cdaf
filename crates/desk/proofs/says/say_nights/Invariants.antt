use Rattle.std.specs.Io.KnownBytes.{Appends}
use Rattle.bookings.specs.Books.{book_of}
use Rattle.entry_log.specs.Logs.{all_of}
use Rattle.replica.specs.Views.{state_of}
use Rattle.desk.specs.Said.{nights_lines}
use Rattle.desk.proofs.says.say_nights.Given as goal

abbrev pub invariant-loop-night : goal.invariant-loop-night
invariant-loop-night g l =
    let w = g.W.Write in
    Appends (w.contents l.initial.out) (w.contents l.out) (nights_lines (book_of (all_of (state_of l.replica).log)) l.hut l.night)

use Rattle.std.proofs.Common.{map, take}
use Rattle.std.specs.Io.KnownBytes.{Appends}
use Rattle.bookings.specs.Plain.{plain}
use Rattle.desk.specs.Said.{texts, logged_line}
use Rattle.desk.proofs.says.say_entries.Given as goal

abbrev pub invariant-loop-place : goal.invariant-loop-place
invariant-loop-place g l =
    let w = g.W.Write in
    Appends (w.contents l.initial.out) (w.contents l.out) (texts (logged_line l.committed) 0 (take l.place (map plain l.entries)))

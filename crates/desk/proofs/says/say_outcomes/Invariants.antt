use Rattle.std.proofs.Common.{take}
use Rattle.std.specs.Io.KnownBytes.{Appends}
use Rattle.desk.specs.Said.{texts, outcome_line}
use Rattle.desk.proofs.says.say_outcomes.Given as goal

abbrev pub invariant-loop-outcome : goal.invariant-loop-outcome
invariant-loop-outcome g l =
    let w = g.W.Write in Appends (w.contents l.initial.out) (w.contents l.out) (texts outcome_line 0 (take l.outcome-index l.outcomes))

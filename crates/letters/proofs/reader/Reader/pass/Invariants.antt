use Rattle.letters.specs.Rows.{OwnRow}
use Rattle.letters.proofs.Rowing.{Passed}
use Rattle.letters.proofs.reader.Reader.pass.Given as goal

abbrev pub invariant-loop-i : goal.invariant-loop-i
invariant-loop-i g l =
    let read = g.V.Decoded.reading in
    let bs = l.initial.self.rest.now in
    Passed read l.count l.i bs l.self.rest.now × OwnRow read l.i bs l.self.rest.now

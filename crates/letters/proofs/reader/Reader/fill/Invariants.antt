use Rattle.std.proofs.Common.{◌≡◌, ◌-◌, map, length, take}
use Rattle.letters.specs.Answers.{read_times}
use Rattle.letters.proofs.Times.{joins}
use Rattle.letters.proofs.reader.Reader.fill.Given as goal

abbrev pub invariant-loop-place : goal.invariant-loop-place
invariant-loop-place g l =
    let v = g.V.Decoded in
    let n = length l.initial.places in
    read_times v.reading n l.initial.self.rest.now ≡ joins (map v.plain (take l.place-index l.places)) (read_times v.reading (n - l.place-index) l.self.rest.now)

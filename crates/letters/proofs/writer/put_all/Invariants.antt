use Rattle.letters.proofs.Puts.{Writes, Holds}
use Rattle.letters.proofs.writer.put_all.Given as goal

abbrev pub invariant-loop-value : goal.invariant-loop-value
invariant-loop-value g l =
    let v = g.V.Coded in Writes v.encoding v.plain l.initial.out l.values l.out l.value-index × Holds v.Fits v.plain l.values l.value-index

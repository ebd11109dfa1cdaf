use Rattle.letters.proofs.Sizes.{Sums}
use Rattle.letters.proofs.writer.lengths.sizes.Given as goal

abbrev pub invariant-loop-value : goal.invariant-loop-value
invariant-loop-value g l = let v = g.V.Coded in Sums v.encoding v.plain l.values l.sum l.value-index

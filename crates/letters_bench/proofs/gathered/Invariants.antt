use Rattle.std.proofs.Common.{length}
use Rattle.letters.specs.Items.{left}
use Rattle.letters_bench.proofs.gathered.Given as goal

abbrev pub decreases-loop-item : goal.decreases-loop-item
decreases-loop-item l = length (left l.item-iterator)

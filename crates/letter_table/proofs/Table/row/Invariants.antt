use Rattle.std.proofs.Common.{length}
use Rattle.letters.specs.Items.{left}
use Rattle.letter_table.proofs.Table.row.Given as goal

abbrev pub decreases-loop-item : goal.decreases-loop-item
decreases-loop-item g l = length (left l.item-iterator)

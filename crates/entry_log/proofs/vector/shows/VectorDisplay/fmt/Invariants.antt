use Rattle.std.proofs.Common.{◌++◌, get_or, take, decimal}
use Rattle.std.specs.Fmt.{IsPlainFormatter, HasWritten}
use Rattle.entry_log.specs.Texts.{stamps_behind}
use Rattle.entry_log.proofs.vector.shows.VectorDisplay.fmt.Given as goal

abbrev pub invariant-loop-stamp : goal.invariant-loop-stamp
invariant-loop-stamp g l =
    IsPlainFormatter l.fn.f
    → HasWritten g.W.Write.write_str_gives l.fn.f (decimal (get_or l.self.stamps 0 0) ++ stamps_behind (take l.stamp-index l.stamp-items)) l.f

use Rattle.std.proofs.Common.{take}
use Rattle.letters.specs.Buffers.{Written}
use Rattle.letters.proofs.writer.put.Given as goal

abbrev pub invariant-loop-byte : goal.invariant-loop-byte
invariant-loop-byte l = Written l.initial.out l.out (take l.byte-index l.part)

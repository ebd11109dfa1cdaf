use Rattle.std.proofs.Common.{arith}
use Rattle.letters.proofs.Rowing.{ends_more}
use Rattle.letters.proofs.RowParts.{own_more}
use Rattle.letters.proofs.reader.Reader.pass.Goals as goal

pub loop-i-preserved : goal.loop-i-preserved
loop-i-preserved g c = (
  ends_more g.V.Decoded.reading c.args.count c.loop-i.i _ _ _ _ (omega arith) c.loop-i.invariant.0 c.in-Ok.ensures.value,
  own_more g.V.Decoded.reading _ c.loop-i.i _ _ _ c.loop-i.invariant.1 c.in-Ok.ensures.part,
)

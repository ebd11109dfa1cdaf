use Rattle.std.proofs.Common.{length, arith}
use Rattle.letters.proofs.Times.{times_more}
use Rattle.letters.proofs.reader.Reader.fill.Goals as goal

pub loop-place-preserved : goal.loop-place-preserved
loop-place-preserved g c =
    let v = g.V.Decoded in
    times_more v.reading v.plain (length c.args.places.now) c.loop-place.place-index _ _ _ c.loop-place.places c.in_ok-place.field-0 (omega (arith, c.loop-place-test.true, c.loop-place.auto.places)) (omega (arith, c.loop-place.auto.places)) c.loop-place.invariant c.in_ok-place.ensures.value

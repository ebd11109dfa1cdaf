use Rattle.letters.proofs.Puts.{room_next}
use Rattle.letters.proofs.writer.put_all.Goals as goal

pub write-requires : goal.write-requires
write-requires g c =
    let v = g.V.Coded in
    room_next v.encoding v.plain c.args.out.now c.args.values.now c.loop-value.out c.loop-value.value-index c.value-item.result c.value-item.result c.loop-value-test.true
    c.value-item.is
    c.requires
    c.loop-value.invariant.0

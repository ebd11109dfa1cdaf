use Rattle.std.proofs.Common.{[], ◌∷◌, get_or, take, sym, take_all}
use Rattle.std.proofs.lemmas.List.{take_more}
use Rattle.letters.proofs.Puts.{written_then, written_as}
use Rattle.letters.proofs.writer.put.Goals as goal

pub loop-byte-preserved : goal.loop-byte-preserved
loop-byte-preserved c =
    let part = c.args.part.now in
    let i = c.loop-byte.byte-index in
    let next = get_or part i 0 ∷ [] in
    written_as c.args.out.now c.push_reserved.new.self _ _ (sym (take_more part i 0 c.loop-byte-test.true))
    (written_then c.args.out.now c.loop-byte.out c.push_reserved.new.self (take i part) next c.loop-byte.invariant
    (record { items = c.push_reserved.ensures.items; len = c.push_reserved.ensures.len; capacity = c.push_reserved.ensures.capacity }))

pub returns : goal.returns
returns c =
    written_as c.args.out.now c.loop-byte.out _ _ (take_all c.loop-byte.byte-index c.args.part.now c.loop-byte-test.false) c.loop-byte.invariant

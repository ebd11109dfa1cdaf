use Rattle.std.proofs.Common.{◌/◌, [], ◌++◌, map, length, refl, ap, ◌∙◌, arith}
use Rattle.std.proofs.lemmas.List.{take_all}
use Rattle.console.proofs.HexOn.{length_bytes}
use Rattle.console.proofs.HexPairs.{pair_byte, bytes_by_pairs, hex_digits, pair_digits, pairs_on}
use Rattle.console.proofs.hex.Hex.decode.Goals as goal

pub returns-then-capacity-len-clause-room : goal.returns-then-capacity-len-clause-room
returns-then-capacity-len-clause-room c = omega (arith, c.as_chunks.ensures.front_len, length_bytes c.args.self.digits.now)

pub value-requires : goal.value-requires
value-requires c =
    let w = c.args.self.digits.now in
    rw c.as_chunks.ensures.front
    (pair_digits (length w / 2) w c.loop-high.high-index [] refl (omega (arith, c.as_chunks.ensures.front_len)) (hex_digits w c.args.self.whole)).0

pub value-requires-in-loop-high : goal.value-requires-in-loop-high
value-requires-in-loop-high c =
    let w = c.args.self.digits.now in
    rw c.as_chunks.ensures.front
    (pair_digits (length w / 2) w c.loop-high.high-index [] refl (omega (arith, c.as_chunks.ensures.front_len)) (hex_digits w c.args.self.whole)).1

pub loop-high-preserved : goal.loop-high-preserved
loop-high-preserved c =
    let inv = c.loop-high.invariant in (
      pairs_on c.as_chunks.result.0.now c.loop-high.high-index _ _ _ _ c.loop-high-test.true inv.0
          (rw (c.value.ensures.value, c.value-in-loop-high.ensures.value) refl) c.push_reserved.ensures.items,
      omega (arith, c.push_reserved.ensures.len, inv.1),
      c.push_reserved.ensures.capacity ∙ inv.2,
    )

pub returns-clause-items : goal.returns-clause-items
returns-clause-items c =
    let w = c.args.self.digits.now in
    c.loop-high.invariant.0
    ∙ ap (λ ps. c.args.out.now.items ++ map pair_byte ps) (take_all c.loop-high.high-index _ c.loop-high-test.false ∙ c.as_chunks.ensures.front)
    ∙ ap (λ bs. c.args.out.now.items ++ bs) (bytes_by_pairs (length w / 2) w refl)

pub returns-clause-room : goal.returns-clause-room
returns-clause-room c = omega (arith, c.as_chunks.ensures.front_len, length_bytes c.args.self.digits.now, c.loop-high.invariant.1)

use Rattle.std.proofs.Common.{◌≡◌, ◌+◌, ◌++◌, map, take, vec_items, vec_len, vec_capacity}
use Rattle.console.proofs.HexPairs.{pair_byte}
use Rattle.console.proofs.hex.Hex.decode.Given as goal

abbrev pub invariant-loop-high : goal.invariant-loop-high
invariant-loop-high l =
    (vec_items l.out ≡ vec_items l.initial.out ++ map pair_byte (take l.high-index l.pairs))
    × (vec_len l.out ≡ vec_len l.initial.out + l.high-index) × (vec_capacity l.out ≡ vec_capacity l.initial.out)

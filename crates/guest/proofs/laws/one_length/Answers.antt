use Rattle.std.proofs.Common.{arith}
use Rattle.guest.proofs.Stamps.{four_bytes_each}
use Rattle.guest.proofs.laws.one_length.Goals as goal

pub returns : goal.returns
returns c = λ s sixteen. omega (arith, four_bytes_each s, sixteen)

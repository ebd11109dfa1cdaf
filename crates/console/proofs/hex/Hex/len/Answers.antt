use Rattle.std.proofs.Common.{sym}
use Rattle.console.proofs.HexOn.{length_bytes}
use Rattle.console.proofs.hex.Hex.len.Goals as goal

pub returns : goal.returns
returns c = sym (length_bytes c.args.self.digits.now)

use Rattle.std.proofs.Common.{rules}
use Rattle.letters.proofs.Bytes.{bytes_typed}
use Rattle.letters.proofs.reader.Reader.one.Goals as goal

pub returns-clause-bytes : goal.returns-clause-bytes
returns-clause-bytes c = bytes_typed _ (search rules)

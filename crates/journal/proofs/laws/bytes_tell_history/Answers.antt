use Rattle.journal.proofs.Opening.{bytes_tell_history_lem}
use Rattle.journal.proofs.laws.bytes_tell_history.Goals as goal

pub returns : goal.returns
returns c = bytes_tell_history_lem

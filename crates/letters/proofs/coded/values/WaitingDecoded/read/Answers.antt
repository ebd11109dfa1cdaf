use Rattle.entry_log.specs.Waits.{plain_waiting}
use Rattle.letters.specs.Letters.{read_waiting}
use Rattle.letters.proofs.Parts.{own_part, own_waiting}
use Rattle.letters.proofs.coded.values.WaitingDecoded.read.Goals as goal

pub returns-clause-part : goal.returns-clause-part
returns-clause-part c = own_part read_waiting plain_waiting _ _ _ c.waiting.result own_waiting c.waiting.ensures

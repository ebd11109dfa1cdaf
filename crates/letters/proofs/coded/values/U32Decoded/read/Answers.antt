use Rattle.letters.specs.Format.{read_four}
use Rattle.letters.proofs.Parts.{own_part, own_four}
use Rattle.letters.proofs.coded.values.U32Decoded.read.Goals as goal

pub returns-clause-part : goal.returns-clause-part
returns-clause-part c = own_part read_four (λ n. n) _ _ _ c.four.result own_four c.four.ensures

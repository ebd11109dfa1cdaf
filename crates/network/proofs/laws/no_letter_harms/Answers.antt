use Rattle.network.proofs.Harmless.{no_letter_harms_lem}
use Rattle.network.proofs.laws.no_letter_harms.Goals as goal

pub returns : goal.returns
returns c = no_letter_harms_lem

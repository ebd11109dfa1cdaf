use Rattle.letters.proofs.Lawful.{letter_injective_lem}
use Rattle.letters.proofs.laws.letter_injective.Goals as goal

pub returns : goal.returns
returns c = letter_injective_lem

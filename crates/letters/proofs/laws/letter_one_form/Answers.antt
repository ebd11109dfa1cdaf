use Rattle.letters.proofs.OneLetter.{letter_one_form_lem}
use Rattle.letters.proofs.laws.letter_one_form.Goals as goal

pub returns : goal.returns
returns c = letter_one_form_lem

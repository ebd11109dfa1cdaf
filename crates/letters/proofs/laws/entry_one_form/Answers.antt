use Rattle.letters.proofs.OneEntry.{entry_one_form_lem}
use Rattle.letters.proofs.laws.entry_one_form.Goals as goal

pub returns : goal.returns
returns c = entry_one_form_lem

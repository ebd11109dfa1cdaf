use Rattle.guest.proofs.Stamps.{stamps_told}
use Rattle.guest.proofs.laws.one_form.Goals as goal

pub returns : goal.returns
returns c = stamps_told

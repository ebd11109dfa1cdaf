use Rattle.digest.proofs.Padding.{padding_fits_lem}
use Rattle.digest.proofs.laws.padding_fits.Goals as goal

pub returns : goal.returns
returns c = padding_fits_lem

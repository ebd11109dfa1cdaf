use Rattle.network.proofs.AbstractReached.{abstract_sound}
use Rattle.network.proofs.laws.abstract_sound.Goals as goal

pub returns : goal.returns
returns c = abstract_sound

use Rattle.letters.proofs.Round.{entry_round_trip_lem}
use Rattle.letters.proofs.laws.entry_round_trip.Goals as goal

pub returns : goal.returns
returns c = entry_round_trip_lem

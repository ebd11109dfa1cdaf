use Rattle.letters.proofs.Lawful.{letter_round_trip_lem}
use Rattle.letters.proofs.laws.letter_round_trip.Goals as goal

pub returns : goal.returns
returns c = letter_round_trip_lem

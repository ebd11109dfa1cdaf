use Rattle.network.proofs.Cases.{six_cases, six_cases_played}
use Rattle.network.proofs.laws.six_cases.Goals as goal

pub returns-clause-model : goal.returns-clause-model
returns-clause-model c = six_cases

pub returns-clause-played : goal.returns-clause-played
returns-clause-played c = six_cases_played

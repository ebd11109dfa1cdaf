use Rattle.network.proofs.LowestRefusals.{lowest_refusal}
use Rattle.network.proofs.laws.lowest_refusal.Goals as goal

pub returns : goal.returns
returns c = lowest_refusal

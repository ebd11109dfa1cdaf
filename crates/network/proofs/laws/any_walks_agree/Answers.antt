use Rattle.network.proofs.WalksAgree.{any_walks_agree}
use Rattle.network.proofs.laws.any_walks_agree.Goals as goal

pub returns : goal.returns
returns c = any_walks_agree

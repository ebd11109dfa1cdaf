use Rattle.network.proofs.Reached.{reached_promises}
use Rattle.rehearsal.proofs.cast.Cast.take.Goals as goal

pub returns-in_err-letter-clause-promised : goal.returns-in_err-letter-clause-promised
returns-in_err-letter-clause-promised c = λ honest. reached_promises c.args.self.now.rehearsal.stage (c.args.self.now.rehearsal.reached honest)

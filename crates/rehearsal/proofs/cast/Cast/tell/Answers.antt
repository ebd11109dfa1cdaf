use Rattle.network.proofs.Reached.{reached_promises}
use Rattle.rehearsal.proofs.cast.Cast.tell.Goals as goal

pub returns-in_err-at-clause-promised : goal.returns-in_err-at-clause-promised
returns-in_err-at-clause-promised c = λ honest. reached_promises c.args.self.now.rehearsal.stage (c.args.self.now.rehearsal.reached honest)

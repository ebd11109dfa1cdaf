use Rattle.digest.proofs.Schedules.{schedule_recurs_lem}
use Rattle.digest.proofs.laws.schedule_recurs.Goals as goal

pub returns : goal.returns
returns c = schedule_recurs_lem

use Rattle.bookings.specs.Plain.{plain_mark}
use Rattle.entry_log.proofs.Known.{has_found}
use Rattle.entry_log.specs.Logs.{all_of}
use Rattle.entry_log.specs.Views.{log_in}
use Rattle.replica.proofs.replica.Replica.knows.Goals as goal

pub returns : goal.returns
returns c = let found = has_found (plain_mark c.args.mark.now) 0 (all_of (log_in c.args.self.now.log)) in cc

use Rattle.bookings.specs.Plain.{plain_mark}
use Rattle.entry_log.specs.Views.{log_in}
use Rattle.entry_log.proofs.Putting.{has_both}
use Rattle.entry_log.proofs.log.Log.settle.Goals as goal

pub settle_new-requires-clause-new : goal.settle_new-requires-clause-new
settle_new-requires-clause-new c = has_both (plain_mark c.args.entry.mark) (log_in c.args.self.now).committed (log_in c.args.self.now).tentative c.requires.new c.in-None.ensures

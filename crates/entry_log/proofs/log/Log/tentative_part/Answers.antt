use Rattle.std.proofs.Common.{vec_items}
use Rattle.entry_log.proofs.Views.{end_is}
use Rattle.entry_log.proofs.log.Log.tentative_part.Goals as goal

pub returns : goal.returns
returns c = end_is c.deref.result.now (vec_items c.args.self.now.entries) c.args.self.now.committed c.deref.ensures.value

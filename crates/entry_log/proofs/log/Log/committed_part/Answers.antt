use Rattle.std.proofs.Common.{map, take, vec_items, sym, ap, ◌∙◌}
use Rattle.std.proofs.lemmas.List.{take-map}
use Rattle.bookings.specs.Plain.{plain}
use Rattle.entry_log.proofs.log.Log.committed_part.Goals as goal

pub returns : goal.returns
returns c = ap (λ l. map plain (take c.args.self.now.committed l)) c.deref.ensures.value ∙ sym (take-map plain c.args.self.now.committed (vec_items c.args.self.now.entries))

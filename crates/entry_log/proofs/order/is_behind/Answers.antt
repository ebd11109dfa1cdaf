use Rattle.std.proofs.Common.{sym, ap, ◌∙◌, not}
use Rattle.bookings.specs.Plain.{plain_mark}
use Rattle.entry_log.proofs.Places.{last_decides}
use Rattle.entry_log.proofs.order.is_behind.Goals as goal

pub returns-in-Some : goal.returns-in-Some
returns-in-Some c =
    ap not c.is_before.ensures ∙ last_decides (plain_mark c.args.mark.now) c.args.part.now c.in-Some.last.now c.requires (sym c.in-Some.ensures.value)

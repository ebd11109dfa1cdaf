use Rattle.std.proofs.Common.{sym, ap, ◌∙◌}
use Rattle.entry_log.specs.Logs.{first_entry}
use Rattle.entry_log.proofs.Views.{first_decides}
use Rattle.entry_log.proofs.log.Log.is_next.Goals as goal

pub returns : goal.returns
returns c =
    let part = ap first_entry c.tentative_part.ensures in
    let decides = first_decides c.tentative_part.result.now c.first.result c.args.entry c.first.ensures.item.3 in
    record { sound = λ yes. sym part ∙ decides.0 (sym c.eq.ensures ∙ yes); complete = λ is. c.eq.ensures ∙ decides.1 (part ∙ is) }

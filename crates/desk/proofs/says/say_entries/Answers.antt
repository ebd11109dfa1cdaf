use Rattle.std.proofs.Common.{ap, ◌∙◌, ◌++◌, map, take}
use Rattle.bookings.specs.Plain.{plain}
use Rattle.desk.specs.Said.{texts, logged_line, line_of}
use Rattle.desk.proofs.Lines.{begun, gone_on, texts_none, entries_more}
use Rattle.desk.proofs.says.say_entries.Goals as goal

pub loop-place-init : goal.loop-place-init
loop-place-init g c = begun _ _ (texts_none (logged_line c.args.committed) 0)

pub loop-place-preserved : goal.loop-place-preserved
loop-place-preserved g c =
    gone_on _ _ _ _ _ _ c.loop-place.invariant c.in_ok-say_line.ensures
    (ap (λ a. texts (logged_line c.args.committed) 0 (take c.loop-place.place (map plain c.args.entries.now)) ++ line_of a) c.logged.ensures
    ∙ entries_more c.args.committed c.args.entries.now c.loop-place.place _ c.loop-place-test.true c.index-entries-place.is)

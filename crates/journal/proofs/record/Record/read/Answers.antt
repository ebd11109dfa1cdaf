use Rattle.std.proofs.Common.{◌≡◌, rules}
use Rattle.bookings.specs.Plain.{plain}
use Rattle.letters.specs.Answers.{got}
use Rattle.journal.specs.History.{Tentative, Committed}
use Rattle.journal.specs.Records.{read_record}
use Rattle.journal.proofs.RecordForms.{exact_record}
use Rattle.journal.proofs.record.Record.read.Goals as goal

pub returns-in_ok-entry-in-1-clause-form : goal.returns-in_ok-entry-in-1-clause-form
returns-in_ok-entry-in-1-clause-form c =
    let read : read_record c.args.reader.now.rest.now ≡ got (Committed (plain c.in_ok-entry-in-1.field-0)) c.entry.new.self.rest.now = search rules in
    let one = exact_record _ _ _ c.one.ensures.bytes read in
    (one.0, one.1.0)

pub returns-in_ok-entry-in-2-clause-form : goal.returns-in_ok-entry-in-2-clause-form
returns-in_ok-entry-in-2-clause-form c =
    let read : read_record c.args.reader.now.rest.now ≡ got (Tentative (plain c.in_ok-entry-in-2.field-0)) c.entry-in-2.new.self.rest.now = search rules in
    let one = exact_record _ _ _ c.one.ensures.bytes read in
    (one.0, one.1.0)

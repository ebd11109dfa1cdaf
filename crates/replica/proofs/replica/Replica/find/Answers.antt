use Rattle.std.proofs.Common.{leb, get_or, sym, ap, ◌∙◌}
use Rattle.bookings.specs.Books.{place_from}
use Rattle.bookings.specs.Plain.{plain_mark}
use Rattle.bookings.specs.Views.{book_in}
use Rattle.entry_log.specs.Logs.{all_of}
use Rattle.entry_log.specs.Views.{log_in}
use Rattle.replica.proofs.Stepped.{step_marks, unreached}
use Rattle.replica.proofs.replica.Replica.find.Goals as goal

pub returns-then-not-reaches : goal.returns-then-not-reaches
returns-then-not-reaches c =
    let mark = c.args.mark.now in
    sym (unreached (plain_mark mark) (all_of (log_in c.args.self.now.log)) mark.hut_ok (ap (λ v. leb mark.stamp (get_or v mark.hut 0)) (sym c.args.self.now.headed.2) ∙ sym c.if-not-reaches.ensures))

pub returns : goal.returns
returns c =
    c.find.ensures ∙ ap (place_from 0 (plain_mark c.args.mark.now)) (step_marks (book_in c.args.self.now.book) (all_of (log_in c.args.self.now.log)) c.args.self.now.in_step)

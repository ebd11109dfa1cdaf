use Rattle.std.proofs.Common.{ltb, get_or, rules, sym, ap, ◌∙◌, arith}
use Rattle.std.proofs.lemmas.Option.{MatchOption-at_none, MatchOption-at_some}
use Rattle.std.proofs.lemmas.Result.{err_from_is_err_and}
use Rattle.bookings.proofs.Find.{place_is}
use Rattle.bookings.proofs.Reach.{reached_sound}
use Rattle.bookings.specs.Books.{PlainBook, place_from}
use Rattle.bookings.specs.Outcomes.{nothing}
use Rattle.bookings.specs.Plain.{plain_mark}
use Rattle.bookings.specs.Views.{book_in}
use Rattle.entry_log.specs.Logs.{all_of}
use Rattle.entry_log.specs.Views.{log_in}
use Rattle.replica.proofs.Stepped.{step_is, step_marks}
use Rattle.replica.proofs.replica.Replica.got.Goals as goal

pub returns-in_err-place : goal.returns-in_err-place
returns-in_err-place c =
    let marks = step_marks (book_in c.args.self.now.book) (all_of (log_in c.args.self.now.log)) c.args.self.now.in_step in
    let p = err_from_is_err_and c.from_residual.result c.from_residual.ensures.1 in
    rw p.1 (search rules, sym (sym c.in_err-place.ensures.ok_part ∙ c.find.ensures ∙ ap (place_from 0 (plain_mark c.args.mark.now)) marks))

-- a mark that is found has an outcome
pub returns-in_err-outcome : goal.returns-in_err-outcome
returns-in_err-outcome c =
    let book = book_in c.args.self.now.book in
    let found = place_is (plain_mark c.args.mark.now) 0 c.in_ok-place.place book.marks (sym c.find.ensures ∙ c.in_ok-place.ensures.ok_part) in
    let behind = MatchOption-at_none _ _ c.in_err-outcome.ensures.ok_part c.outcome.ensures in
    absurd (omega (arith, found.0, behind, (reached_sound book c.args.self.now.book.reached).1))

pub returns : goal.returns
returns c =
    let book = book_in c.args.self.now.book in
    let es = all_of (log_in c.args.self.now.log) in
    let marks = step_marks book es c.args.self.now.in_step in
    let same = step_is book es c.args.self.now.in_step in (
      c.in_ok-place.place,
      sym (sym c.in_ok-place.ensures.ok_part ∙ c.find.ensures ∙ ap (place_from 0 (plain_mark c.args.mark.now)) marks),
      ap (ltb c.in_ok-place.place) c.committed.ensures,
      (MatchOption-at_some _ _ _ c.in_ok-outcome.ensures.ok_part c.outcome.ensures).1 ∙ ap (λ (b : PlainBook). get_or b.outcomes c.in_ok-place.place nothing) same,
    )

use Rattle.std.proofs.Common.{sym, ap, ◌∙◌}
use Rattle.console.specs.Requests.{asked_mark}
use Rattle.replica.specs.Model.{marks_of}
use Rattle.replica.specs.Views.{state_of}
use Rattle.bookings.specs.Books.{place_from}
use Rattle.desk.proofs.Gotten.{got_is}
use Rattle.desk.proofs.answers.got.Goals as goal

pub returns : goal.returns
returns c =
    let s = state_of c.args.replica.now in
    let known = c.in_ok-known.ensures in
    let told = c.in_ok-told.ensures in (
      (known.0, known.1),
      got_is s (asked_mark c.args.mark.now) _ _ _ _ told.0 (ap (λ m. place_from 0 m (marks_of s)) (sym known.2) ∙ told.1) told.2 told.3 c.from.ensures
          c.from-2.ensures,
    )

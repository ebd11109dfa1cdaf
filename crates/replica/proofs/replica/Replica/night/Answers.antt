use Rattle.std.proofs.Common.{get_or, ap, ◌∙◌}
use Rattle.std.proofs.lemmas.Result.{MatchResult-weaker}
use Rattle.bookings.specs.Books.{PlainBook}
use Rattle.bookings.specs.Nights.{place_of}
use Rattle.bookings.specs.Views.{book_in}
use Rattle.entry_log.specs.Logs.{all_of}
use Rattle.entry_log.specs.Views.{log_in}
use Rattle.replica.proofs.Stepped.{step_is}
use Rattle.replica.proofs.replica.Replica.night.Goals as goal

pub returns : goal.returns
returns c =
    let same = step_is (book_in c.args.self.now.book) (all_of (log_in c.args.self.now.log)) c.args.self.now.in_step in
    MatchResult-weaker c.night.result c.night.ensures
    (λ n told. (told.0, told.1, told.2 ∙ ap (λ (b : PlainBook). get_or b.beds (place_of c.args.hut c.args.night) 0) same, told.3 ∙ ap (λ (b : PlainBook). get_or b.booked (place_of c.args.hut c.args.night) 0) same))
    (λ e why. why)

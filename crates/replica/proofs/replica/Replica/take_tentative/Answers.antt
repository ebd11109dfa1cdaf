use Rattle.std.proofs.Common.{◌≡◌, ◌+◌, ◌<◌, leb, length, sym, ap, ◌∙◌, arith}
use Rattle.bookings.specs.declared.book.TheConstants.{CAPACITY}
use Rattle.replica.specs.declared.head.TheConstants.{LAST_STAMP}
use lib.ListN.{length-map}
use Rattle.std.proofs.lemmas.Bool.{or_parts, leb-false}
use Rattle.bookings.specs.Books.{book_of}
use Rattle.bookings.specs.Plain.{plain}
use Rattle.bookings.specs.Views.{book_in}
use Rattle.entry_log.specs.Logs.{all_of, top, add_tentative}
use Rattle.entry_log.specs.Vectors.{vector_of, noted}
use Rattle.entry_log.specs.Views.{log_in}
use Rattle.replica.proofs.Taking.{shares_front, place_within, front_same, tentative-length, tentative-top, tentative_vector}
use Rattle.replica.proofs.replica.Replica.take_tentative.Goals as goal
use Rattle.replica.proofs.replica.Replica.take_tentative.Goals.{After-insert-place}

module _ (c : After-insert-place) where
  room : length (all_of (log_in c.args.self.now.log)) < CAPACITY
  room =
      omega (arith, leb-false CAPACITY _ (or_parts (leb CAPACITY (length (all_of (log_in c.args.self.now.log)))) (leb LAST_STAMP c.args.entry.mark.stamp) (sym c.if-has_no_room.ensures)).0)

  after : all_of (log_in c.insert-place.new.self) ≡ all_of (add_tentative (plain c.args.entry) (log_in c.args.self.now.log))
  after = ap all_of c.insert-place.ensures.log

pub redo_log-requires : goal.redo_log-requires
redo_log-requires c =
    let was = c.args.self.now in
    let l = log_in was.log in
    let e = plain c.args.entry in
    let at = (goal.at.redo_log-requires c).After-insert-place in
    let long = ap length (c.as_slice.ensures ∙ after at) ∙ tentative-length e l in
    let count = length-map c.as_slice.result.now plain in
    record {
      within = omega (arith, place_within e l, c.insert-place.ensures.place);
      room = omega (arith, room at);
      front = shares_front was.log (book_in was.book) was.in_step c.insert-place.ensures.place (c.as_slice.ensures ∙ after at) (front_same e l);
    }

pub invariant_of-self : goal.invariant_of-self
invariant_of-self c =
    let was = c.args.self.now in
    let l = log_in was.log in
    let e = plain c.args.entry in
    let at = (goal.at.invariant_of-self c).After-insert-place in record {
      headed = (
        c.with-self.ensures.entries ∙ ap (λ n. n + 1) was.headed.0 ∙ sym (ap length (after at) ∙ tentative-length e l),
        omega (arith, c.with-self.ensures.top, was.headed.1, ap top (after at), tentative-top e l),
        c.with-self.ensures.seen ∙ ap (noted e.mark) was.headed.2 ∙ sym (ap vector_of (after at) ∙ tentative_vector e l c.args.entry.mark.hut_ok),
      );
      in_step = ∣ c.redo_log.ensures ∙ ap book_of c.as_slice.ensures ∣₁;
    }

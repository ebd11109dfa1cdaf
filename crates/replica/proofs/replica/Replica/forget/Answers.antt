use Rattle.std.proofs.Common.{map, length, sym, refl, ap, ◌∙◌, arith}
use lib.ListN.{length-map}
use Rattle.bookings.specs.Books.{book_of}
use Rattle.bookings.specs.Plain.{plain}
use Rattle.bookings.specs.Views.{book_in}
use Rattle.entry_log.specs.Logs.{all_of, top}
use Rattle.entry_log.specs.Vectors.{vector_of}
use Rattle.entry_log.proofs.Stamps.{vector_none}
use Rattle.replica.proofs.Taking.{shares_front}
use Rattle.replica.proofs.replica.Replica.forget.Goals as goal

pub redo_log-requires : goal.redo_log-requires
redo_log-requires c =
    let was = c.args.self.now in
    let none = c.as_slice.ensures ∙ ap all_of c.clear.ensures in
    let size = length-map c.as_slice.result.now plain in
    record {
      within = omega arith;
      room = omega (arith, size, ap length none);
      front =
          shares_front was.log (book_in was.book) {place = 0} {at = 0} {es = map plain c.as_slice.result.now} {fs = map plain c.as_slice.result.now} was.in_step refl refl refl;
    }

pub invariant_of-self : goal.invariant_of-self
invariant_of-self c =
    let none = ap all_of c.clear.ensures in record {
      headed = (c.empty-self.ensures.entries ∙ sym (ap length none), c.empty-self.ensures.top ∙ sym (ap top none), c.empty-self.ensures.seen ∙ vector_none ∙ sym (ap vector_of none));
      in_step = ∣ c.redo_log.ensures ∙ ap book_of c.as_slice.ensures ∣₁;
    }

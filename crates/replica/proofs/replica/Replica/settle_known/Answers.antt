use Rattle.std.proofs.Common.{length, sym, ap, ◌∙◌, arith, length-append}
use lib.ListN.{length-map}
use Rattle.bookings.specs.Books.{book_of}
use Rattle.bookings.specs.Plain.{plain}
use Rattle.bookings.specs.Views.{book_in}
use Rattle.entry_log.specs.Logs.{all_of, top}
use Rattle.entry_log.specs.Vectors.{vector_of}
use Rattle.entry_log.specs.Views.{log_in}
use Rattle.replica.proofs.Committing.{committed_front, known_length, known_top, known_vector}
use Rattle.replica.proofs.Taking.{shares_front, log_once, log_few}
use Rattle.replica.proofs.replica.Replica.settle_known.Goals as goal

pub redo_log-requires : goal.redo_log-requires
redo_log-requires c =
    let was = c.args.self.now in
    let l = log_in was.log in
    let e = plain c.args.entry in
    let after = ap all_of c.settle.ensures in
    let long = known_length e l c.requires.known (log_once was.log) in
    let count = ap length (c.as_slice.ensures ∙ after) in
    let shown = length-map c.as_slice.result.now plain in
    record {
      within = omega (arith, c.committed-place.ensures, length-append l.committed l.tentative);
      room = omega (arith, log_few was.log);
      front = shares_front was.log (book_in was.book) was.in_step c.committed-place.ensures (c.as_slice.ensures ∙ after) (committed_front e l);
    }

pub invariant_of-self : goal.invariant_of-self
invariant_of-self c =
    let was = c.args.self.now in
    let l = log_in was.log in
    let e = plain c.args.entry in
    let after = ap all_of c.settle.ensures in record {
      headed = (
        was.headed.0 ∙ sym (ap length after ∙ known_length e l c.requires.known (log_once was.log)),
        was.headed.1 ∙ sym (ap top after ∙ known_top e l c.requires.known),
        was.headed.2 ∙ sym (ap vector_of after ∙ known_vector e l c.requires.known),
      );
      in_step = ∣ c.redo_log.ensures ∙ ap book_of c.as_slice.ensures ∣₁;
    }

use Rattle.std.proofs.Common.{◌+◌, length, sym, ap, ◌∙◌, arith, length-append}
use lib.ListN.{length-map}
use Rattle.bookings.specs.Books.{book_of}
use Rattle.bookings.specs.Plain.{plain}
use Rattle.bookings.specs.Views.{book_in}
use Rattle.entry_log.proofs.Putting.{has_parts}
use Rattle.entry_log.specs.Logs.{all_of, top}
use Rattle.entry_log.specs.Vectors.{vector_of, noted}
use Rattle.entry_log.specs.Views.{log_in}
use Rattle.replica.proofs.Committing.{committed_front, new_length, new_top, new_vector}
use Rattle.replica.proofs.Taking.{shares_front}
use Rattle.replica.proofs.replica.Replica.settle_new.Goals as goal

pub settle-requires : goal.settle-requires
settle-requires c =
    let l = log_in c.args.self.now.log in
    record { new = (has_parts (plain c.args.entry).mark l.committed l.tentative c.requires.new).0; room = λ _. c.requires.room }

pub redo_log-requires : goal.redo_log-requires
redo_log-requires c =
    let was = c.args.self.now in
    let l = log_in was.log in
    let e = plain c.args.entry in
    let new = (has_parts e.mark l.committed l.tentative c.requires.new).1 in
    let after = ap all_of c.settle.ensures in
    let long = new_length e l new in
    let count = ap length (c.as_slice.ensures ∙ after) in
    let shown = length-map c.as_slice.result.now plain in
    record {
      within = omega (arith, c.committed-place.ensures, length-append l.committed l.tentative);
      room = omega (arith, c.requires.room);
      front = shares_front was.log (book_in was.book) was.in_step c.committed-place.ensures (c.as_slice.ensures ∙ after) (committed_front e l);
    }

pub invariant_of-self : goal.invariant_of-self
invariant_of-self c =
    let was = c.args.self.now in
    let l = log_in was.log in
    let e = plain c.args.entry in
    let new = (has_parts e.mark l.committed l.tentative c.requires.new).1 in
    let after = ap all_of c.settle.ensures in record {
      headed = (
        c.with-self.ensures.entries ∙ ap (λ n. n + 1) was.headed.0 ∙ sym (ap length after ∙ new_length e l new),
        omega (arith, c.with-self.ensures.top, was.headed.1, ap top after, new_top e l new),
        c.with-self.ensures.seen ∙ ap (noted e.mark) was.headed.2 ∙ sym (ap vector_of after ∙ new_vector e l new c.args.entry.mark.hut_ok),
      );
      in_step = ∣ c.redo_log.ensures ∙ ap book_of c.as_slice.ensures ∣₁;
    }

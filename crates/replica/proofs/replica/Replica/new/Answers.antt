use Rattle.std.proofs.Common.{length, sym, ap, ◌∙◌}
use Rattle.bookings.specs.Books.{book_of}
use Rattle.entry_log.proofs.Stamps.{vector_none}
use Rattle.entry_log.specs.Logs.{all_of, top}
use Rattle.entry_log.specs.Vectors.{vector_of}
use Rattle.replica.proofs.replica.Replica.new.Goals as goal

pub invariant_of-result : goal.invariant_of-result
invariant_of-result c =
    let none = ap all_of c.in_ok-log.ensures in
    let head = c.in_ok-head.ensures in record {
      headed = (head.1 ∙ sym (ap length none), head.2 ∙ sym (ap top none), head.3 ∙ vector_none ∙ sym (ap vector_of none));
      in_step = ∣ c.in_ok-book.ensures ∙ sym (ap book_of none) ∣₁;
    }

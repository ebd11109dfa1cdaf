-- What an entry has got, told with its mark.
use Rattle.std.proofs.Common.{◌≡◌, ℕ, Bool, length, Some, nat_lt, slice_index_or, refl}
use Rattle.bookings.specs.Books.{book_of, place_from}
use Rattle.bookings.specs.Outcomes.{PlainOutcome, nothing}
use Rattle.bookings.specs.Plain.{PlainMark}
use Rattle.console.specs.Answers.{standing_of, got_of}
use Rattle.console.specs.Requests.{raw_mark}
use Rattle.console.specs.declared.answer.Answer.TheVariants as answers
use Rattle.console.specs.declared.answer.Got.{Got}
use Rattle.console.specs.declared.answer.Standing.{Standing}
use Rattle.entry_log.specs.Logs.{all_of}
use Rattle.replica.specs.Model.{State, marks_of}
use Rattle.desk.specs.Answers.{got_in}

pub got_is :
    (s : State) (m : PlainMark) (outcome : PlainOutcome) (committed : Bool) (standing : Standing) (got : Got) (p : ℕ)
    → place_from 0 m (marks_of s) ≡ Some p → committed ≡ nat_lt p (length s.log.committed)
    → outcome ≡ slice_index_or (book_of (all_of s.log)).outcomes p nothing → standing ≡ standing_of committed → got ≡ got_of outcome
    → got_in s m ≡ Some (answers.Got (raw_mark m) standing got)
got_is s m outcome committed standing got p found when what standing-is got-is = rw (found, got-is, what, standing-is, when) refl

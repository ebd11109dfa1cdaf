-- What a replica's book and log say, as answers.
use Rattle.std.specs.Prelude.{◌≡◌, ℕ, Bool, true, false, cond, ◌&&◌, ◌⊎◌, List, length, Some, None, Option, ◌==◌, nat_lt, slice_index, slice_index_or}
use Rattle.bookings.specs.Books.{PlainBook, book_of, place_from}
use Rattle.bookings.specs.Nights.{place_of}
use Rattle.bookings.specs.Outcomes.{nothing}
use Rattle.bookings.specs.Plain.{PlainMark}
use Rattle.bookings.specs.Ranges.{MarkOk}
use Rattle.bookings.specs.declared.limits.TheConstants.{INITIAL_BEDS}
use Rattle.console.specs.Answers.{standing_of, got_of}
use Rattle.console.specs.Checks.{Fits32, StampsFit}
use Rattle.console.specs.Requests.{raw_mark}
use Rattle.console.specs.declared.answer.Answer.{Answer}
use Rattle.console.specs.declared.answer.Answer.TheVariants as answers
use Rattle.entry_log.specs.Logs.{all_of}
use Rattle.entry_log.specs.declared.vector.Vector.{Vector}
use Rattle.replica.specs.Model.{State, marks_of, serves, slip_after}

-- what the entry with a mark has got, if it is known
abbrev pub got_at : State → PlainMark → Option ℕ → Option Answer
got_at s m None = None
got_at s m (Some p) =
    Some (answers.Got (raw_mark m) (standing_of (nat_lt p (length s.log.committed))) (got_of (slice_index_or (book_of (all_of s.log)).outcomes p nothing)))

abbrev pub got_in : State → PlainMark → Option Answer
got_in s m = got_at s m (place_from 0 m (marks_of s))

-- a mark that can be asked for
abbrev pub AskedOk : PlainMark → Type 0
AskedOk m = MarkOk m × Fits32 m.stamp

-- refused by 2 where the mark is out of range, and by 9 where it is not known
abbrev pub GotRefused : State → PlainMark → ℕ → Type 0
GotRefused s m n = ((n ≡ 2) × (AskedOk m → ⊥)) ⊎ (AskedOk m × (n ≡ 9) × (got_in s m ≡ None))

abbrev pub night_told : PlainBook → ℕ → ℕ → Answer
night_told b hut night = answers.Night hut night (slice_index b.beds (place_of hut night)) (slice_index b.booked (place_of hut night))

-- a night is as it was in the first book
abbrev pub is_plain : PlainBook → ℕ → ℕ → Bool
is_plain b hut night = slice_index b.beds (place_of hut night) == INITIAL_BEDS && slice_index b.booked (place_of hut night) == 0

-- a night is listed unless it is as in the first book
abbrev pub noted_on : PlainBook → ℕ → ℕ → Option Answer
noted_on b hut night = cond (is_plain b hut night) None (Some (night_told b hut night))

-- what is said of a mark that was committed, and where there was none
abbrev pub committed_at : ℕ → Option PlainMark → Answer
committed_at place None = answers.NothingTentative
committed_at place (Some m) = answers.Inked (raw_mark m) place

-- a guest with a slip in range, which knows no more than the replica, has all that it knows noted on it
abbrev pub ServedBy : State → List ℕ → Answer → Type 0
ServedBy s slip a = StampsFit slip × (serves slip s ≡ true) × ((v : Vector) × (a ≡ answers.Served v) × (v.stamps ≡ slip_after slip s))

-- refused by 2 where the slip is out of range, and by 7 where it knows more
abbrev pub ServeRefused : State → List ℕ → ℕ → Type 0
ServeRefused s slip n = ((n ≡ 2) × (StampsFit slip → ⊥)) ⊎ (StampsFit slip × (n ≡ 7) × (serves slip s ≡ false))

-- how many entries a replica has, when it is opened, and how many bytes were cut off
abbrev pub opened_of : State → ℕ → Answer
opened_of s bytes =
    answers.Opened (record { hut = s.hut; committed = length s.log.committed; tentative = length s.log.tentative; cut = bytes })

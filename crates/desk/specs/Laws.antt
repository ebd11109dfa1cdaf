-- What holds of a desk's answers, in the words of what was asked and of what a replica knows.
use Rattle.std.specs.Prelude.{◌≡◌, ℕ, ◌+◌, ◌<◌, true, not, ◌⊎◌, List, map, length, count_by, Some, slice_index_or}
use Rattle.bookings.specs.Plain.{PlainMark, PlainEntry}
use Rattle.bookings.specs.declared.limits.TheConstants.{HUTS, NIGHTS}
use Rattle.console.specs.Answers.{got_of, standing_of}
use Rattle.console.specs.Checks.{Fits32, StampsFit, RequestOk}
use Rattle.console.specs.Requests.{asked, asked_mark, raw_mark}
use Rattle.console.specs.declared.answer.Answer.{Answer}
use Rattle.console.specs.declared.answer.Answer.TheVariants as answers
use Rattle.console.specs.declared.answer.letters.Taking.TheVariants as takings
use Rattle.console.specs.declared.command.Command.{Command}
use Rattle.console.specs.declared.command.Command.TheVariants as commands
use Rattle.entry_log.specs.Logs.{all_of}
use Rattle.entry_log.specs.Waits.{PlainWaiting}
use Rattle.journal.specs.History.{Kept, state_in}
use Rattle.letters.specs.Counting.{Says}
use Rattle.letters.specs.Items.{items_of}
use Rattle.letters.specs.Laws.{Bytes}
use Rattle.letters.specs.Letters.{heard, read_letter}
use Rattle.network.specs.Net.{Event, after, huts}
use Rattle.network.specs.Refusing.{HasMark, Lowest, MakeWhy, SaysMore}
use Rattle.network.specs.Replicas.{committed_in, entries_in}
use Rattle.network.specs.Shown.{CommittedAt, came_at, committed_later, later_than, shown_by}
use Rattle.network.specs.Taking.{outcomes_of, plain_outcome}
use Rattle.network.specs.declared.outcome.Outcome.{Outcome}
use Rattle.replica.specs.Model.{State, leader}
use Rattle.desk.specs.Answers.{AskedOk, got_in}
use Rattle.desk.specs.Replies.{Denied, Told}
use Rattle.desk.specs.Said.{counts, is_skipped, logged_line}
use Rattle.desk.specs.declared.reply.Reply.{Reply}

-- why a line is refused: by each number the condition, of what the replica knew before the line and
-- what it knows when it has synced
abbrev pub LineWhy : State → State → Command → ℕ → Type 0
LineWhy was is (commands.Make q) n = ((n ≡ 2) × (RequestOk (asked q) → ⊥)) ⊎ MakeWhy (asked q) was n
LineWhy was is commands.Ink n = (n ≡ 6) × (was.hut ≡ leader was.log.committed → ⊥)
LineWhy was is (commands.Letter c v) n = (n ≡ 2) × (Fits32 c × StampsFit v.all → ⊥)
LineWhy was is (commands.ShowNight hut night) n = (n ≡ 2) × ((hut < HUTS) × (night < NIGHTS) → ⊥)
LineWhy was is (commands.Got m) n =
    ((n ≡ 2) × (AskedOk (asked_mark m) → ⊥))
    ⊎ ((n ≡ 9) × (HasMark (asked_mark m) (all_of is.log) → ⊥))
LineWhy was is (commands.Serve slip) n =
    ((n ≡ 2) × (StampsFit slip.all → ⊥)) ⊎ ((n ≡ 7) × SaysMore slip.all is)
LineWhy was is _ n = ⊥

-- LAW: a line is refused by the lowest number whose condition holds, and is done only where none
-- holds.
abbrev pub LineByLowest : Type 0
LineByLowest =
    (was is : State) (c : Command)
    → ((n : ℕ) → Denied was is c n → Lowest (LineWhy was is c) n)
    × ((r : Reply) → Told was is c r → (n : ℕ) → LineWhy was is c n → ⊥)

-- how many entries were taken, and how many skipped
abbrev pub taken_of : List Outcome → ℕ
taken_of os = count_by (λ o. not (is_skipped o)) os

abbrev pub skipped_of : List Outcome → ℕ
skipped_of os = count_by is_skipped os

-- LAW: the counts that are printed of a letter add up to the entries that its count fields say: so
-- many were taken, so many skipped, and so many kept out.
abbrev pub PrintedCountsAddUp : Type 0
PrintedCountsAddUp =
    (bs : List ℕ) (k : Kept) (os : List Outcome) (place : ℕ) (cs : List PlainEntry)
    (ws : List PlainWaiting) (out : ℕ)
    → Bytes bs → read_letter bs ≡ heard place cs ws out
    → map plain_outcome os ≡ outcomes_of (items_of (read_letter bs)) k
    → (counts os out ≡ takings.Counts (taken_of os) (skipped_of os) out)
    × ((said : ℕ) × Says bs place cs ws said × (taken_of os + skipped_of os + out ≡ said))

-- the line that `line` prints of the entry at a place
abbrev pub printed_at : Kept → ℕ → PlainEntry → List ℕ
printed_at k place d =
    logged_line (length (committed_in k)) place (slice_index_or (entries_in k) place d)

-- what `got` tells of a committed entry at a place
abbrev pub told_committed : Kept → PlainMark → ℕ → Answer
told_committed k m place =
    answers.Got (raw_mark m) (standing_of true) (got_of (came_at (entries_in k) place))

-- LAW: what `line` prints of a committed entry every hut prints, ever after, that has as many
-- committed; and of its mark `got` says there that it is committed, and what the log of that hut
-- makes of it.
abbrev pub PrintedStays : List Event → Type 0
PrintedStays es =
    (i place : ℕ) → i < huts → place < length (shown_by es i)
    → (later : List Event) (j : ℕ) → place < length (committed_later es i later j)
    → ((d : PlainEntry)
    → printed_at ((later_than es i later).hut j) place d ≡ printed_at ((after es).hut i) place d)
    × ((m : PlainMark) → CommittedAt (state_in ((after es).hut i)) m place
    → got_in (state_in ((later_than es i later).hut j)) m
    ≡ Some (told_committed ((later_than es i later).hut j) m place))

-- What is told of a line, by what the replica knew before it and what it knows then.
use Rattle.std.specs.Prelude.{◌≡◌, ℕ, ◌-◌, ◌<◌, true, false, ◌⊎◌, cond, List, length, nat_lt, None, Some, Ok}
use Rattle.std.specs.declared.result.Result.{Result}
use Rattle.bookings.specs.Books.{book_of}
use Rattle.bookings.specs.Refusals.{number_of}
use Rattle.bookings.specs.declared.limits.TheConstants.{HUTS, NIGHTS}
use Rattle.bookings.specs.declared.refusal.Refusal.TheVariants.{Damaged}
use Rattle.console.specs.Checks.{Fits32, StampsFit, RequestOk}
use Rattle.console.specs.Requests.{asked, asked_mark, raw_mark}
use Rattle.console.specs.declared.answer.Answer.{Answer}
use Rattle.console.specs.declared.answer.Answer.TheVariants as answers
use Rattle.console.specs.declared.answer.letters.Taking.TheVariants.{Rejected}
use Rattle.console.specs.declared.answer.starts.Usage.TheVariants.{Hut}
use Rattle.console.specs.declared.command.Command.{Command}
use Rattle.console.specs.declared.command.Command.TheVariants as commands
use Rattle.entry_log.specs.Logs.{all_of, first_mark}
use Rattle.entry_log.specs.Vectors.{vector_of}
use Rattle.entry_log.specs.declared.vector.Vector.{Vector}
use Rattle.letters.specs.declared.limits.TheConstants.{LETTER_ROOM}
use Rattle.network.specs.declared.unplayed.Unplayed.{Unplayed}
use Rattle.network.specs.declared.unplayed.Unplayed.TheVariants as unplayed
use Rattle.replica.specs.Model.{State, make_refusal, next_mark, is_primary}
use Rattle.desk.specs.Answers.{AskedOk, GotRefused, got_in, night_told, committed_at, ServedBy, ServeRefused}
use Rattle.desk.specs.declared.reply.Reply.{Reply}
use Rattle.desk.specs.declared.reply.Reply.TheVariants as replies

-- what is shown of a replica
abbrev pub Shown : State → Command → Reply → Type 0
Shown s commands.Have r =
    (v : Vector) × (r ≡ replies.Line (answers.Have (length s.log.committed) v)) × (v.stamps ≡ vector_of (all_of s.log))
Shown s (commands.ShowNight h n) r = (h < HUTS) × (n < NIGHTS) × (r ≡ replies.Line (night_told (book_of (all_of s.log)) h n))
Shown s commands.Show r = r ≡ replies.Book
Shown s commands.Line r = r ≡ replies.Log
Shown s (commands.Got m) r = AskedOk (asked_mark m) × ((a : Answer) × (r ≡ replies.Line a) × (got_in s (asked_mark m) ≡ Some a))
Shown s (commands.Serve slip) r = (a : Answer) × (r ≡ replies.Line a) × ServedBy s slip.all a
Shown s _ r = r ≡ replies.Nothing

-- by which number it is not shown, and just when
abbrev pub Hidden : State → Command → ℕ → Type 0
Hidden s (commands.ShowNight h n) number = (number ≡ 2) × ((h < HUTS) × (n < NIGHTS) → ⊥)
Hidden s (commands.Got m) number = GotRefused s (asked_mark m) number
Hidden s (commands.Serve slip) number = ServeRefused s slip.all number
Hidden s _ number = ⊥

-- a line that is done; of a letter that came, or that was longer than any letter
abbrev pub Told : State → State → Command → Reply → Type 0
Told was is (commands.Make q) r =
    RequestOk (asked q) × (make_refusal (asked q) was ≡ None) × (r ≡ replies.Line (answers.Made (raw_mark (next_mark was))))
Told was is commands.Ink r =
    (is_primary was ≡ true) × (r ≡ replies.Line (committed_at (length is.log.committed - 1) (first_mark was.log.tentative)))
Told was is (commands.Letter c v) r = Fits32 c × StampsFit v.all × (r ≡ replies.Letter)
Told was is commands.Take r = (r ≡ replies.Takings) ⊎ (r ≡ replies.Line (answers.Take (Rejected Damaged)))
Told was is commands.Help r = r ≡ replies.Line (answers.Usage Hut)
Told was is c r = Shown is c r

-- a letter that was typed: what came of it, unless it has more bytes than any letter, and is damaged
abbrev pub TypedTold : List ℕ → Result Reply Unplayed → Type 0
TypedTold bs r = r ≡ Ok (cond (nat_lt LETTER_ROOM (length bs)) (replies.Line (answers.Take (Rejected Damaged))) replies.Takings)

-- by which number it is refused, and just when
abbrev pub Denied : State → State → Command → ℕ → Type 0
Denied was is (commands.Make q) n = ((n ≡ 2) × (RequestOk (asked q) → ⊥)) ⊎ (RequestOk (asked q) × (make_refusal (asked q) was ≡ Some n))
Denied was is commands.Ink n = (is_primary was ≡ false) × (n ≡ 6)
Denied was is (commands.Letter c v) n = (n ≡ 2) × (Fits32 c × StampsFit v.all → ⊥)
Denied was is commands.Take n = ⊥
Denied was is commands.Help n = ⊥
Denied was is c n = Hidden is c n

-- only a letter that is written can want memory
abbrev pub Writes : Command → Type 0
Writes (commands.Letter c v) = Unit {0}
Writes _ = ⊥

-- why a line is not done: refused, or the journal failed, and is shut then; of a letter that was to be written nothing more is said
abbrev pub Untold : State → State → Type 0 → Command → Unplayed → Type 0
Untold was is shut c unplayed.Memory = Writes c
Untold was is shut c (unplayed.Refused why) = Denied was is c (number_of why)
Untold was is shut c (unplayed.Failed fault) = Writes c ⊎ shut

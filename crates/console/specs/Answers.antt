-- The text of an answer.
use Rattle.std.specs.Prelude.{ℕ, ◌+◌, ◌-◌, Bool, true, false, List, ◌++◌, codes, decimal}
use Rattle.bookings.specs.declared.entry.Kind.{Kind}
use Rattle.bookings.specs.declared.entry.Kind.TheVariants as entries
use Rattle.bookings.specs.Outcomes.{PlainGrant, PlainOutcome, holds, nothing, cancelled, changed, freed, resized}
use Rattle.bookings.specs.Refusals.{number_of}
use Rattle.bookings.specs.Texts.{reason_text}
use Rattle.entry_log.specs.Texts.{vector_text}
use Rattle.console.specs.Requests.{raw_mark}
use Rattle.console.specs.Texts.{raw_mark_text}
use Rattle.console.specs.declared.answer.Answer.{Answer}
use Rattle.console.specs.declared.answer.Answer.TheVariants as answers
use Rattle.console.specs.declared.answer.Got.{Got}
use Rattle.console.specs.declared.answer.Got.TheVariants as gots
use Rattle.console.specs.declared.answer.KindName.{KindName}
use Rattle.console.specs.declared.answer.KindName.TheVariants as kinds
use Rattle.console.specs.declared.answer.Standing.{Standing}
use Rattle.console.specs.declared.answer.Standing.TheVariants as standings
use Rattle.console.specs.declared.command.Expected.{Expected}
use Rattle.console.specs.declared.command.Expected.TheVariants as expected
use Rattle.console.specs.LetterAnswers.{carried_text, taking_text, opened_text, usage_text}
use Rattle.console.specs.declared.verb.Verb.{Verb}
use Rattle.console.specs.declared.verb.Verb.TheVariants as verbs

abbrev pub standing_text : Standing → List ℕ
standing_text standings.Tentative = codes "in pencil"
standing_text standings.Committed = codes "in ink"

abbrev pub kind_text : KindName → List ℕ
kind_text kinds.Book = codes "book"
kind_text kinds.Cancel = codes "cancel"
kind_text kinds.Change = codes "change"
kind_text kinds.Beds = codes "beds"

abbrev pub kind_name_of : Kind → KindName
kind_name_of (entries.Book g cs) = kinds.Book
kind_name_of (entries.Cancel m) = kinds.Cancel
kind_name_of (entries.Change m cs) = kinds.Change
kind_name_of (entries.Beds s) = kinds.Beds

abbrev pub standing_of : Bool → Standing
standing_of true = standings.Committed
standing_of false = standings.Tentative

-- a choice, counted from 1, with its first and its last night
abbrev pub choice_told : PlainGrant → Got
choice_told g =
    gots.Choice (g.number + 1) g.choice.stay.hut g.choice.stay.night (g.choice.stay.night + g.choice.stay.nights - 1) g.choice.beds

abbrev pub got_of : PlainOutcome → Got
got_of (holds g) = choice_told g
got_of nothing = gots.Nothing
got_of (cancelled g) = gots.Cancelled
got_of (changed g m) = gots.ChangedBy (raw_mark m)
got_of (freed p) = gots.NotABooking
got_of (resized s were) = gots.NotABooking

-- a verb with what stands behind it
abbrev pub form_text : Verb → List ℕ
form_text verbs.Huts = codes "huts, then one to four huts"
form_text verbs.At = codes "at I"
form_text verbs.Book = codes "book G, then up to four choices H N K B"
form_text verbs.Cancel = codes "cancel S H"
form_text verbs.Change = codes "change S H, then up to four choices H N K B"
form_text verbs.Beds = codes "beds H N K B"
form_text verbs.Ink = codes "ink"
form_text verbs.Have = codes "have"
form_text verbs.Show = codes "show, or show H N"
form_text verbs.Line = codes "line"
form_text verbs.Got = codes "got S H"
form_text verbs.Serve = codes "serve S0 .. S15"
form_text verbs.Letter = codes "letter C S0 .. S15"
form_text verbs.Walk = codes "walk I J"
form_text verbs.Lose = codes "lose I J"
form_text verbs.Again = codes "again K J"
form_text verbs.Cut = codes "cut K J N"
form_text verbs.Stop = codes "stop I N"
form_text verbs.Help = codes "help"

abbrev pub expected_text : Expected → List ℕ
expected_text expected.Command = codes "expected a command: huts, at, book, cancel, change, beds, ink, have, letter, take, show, line, got, serve, walk, lose, again, cut, stop or help"
expected_text expected.HutCommand = codes "expected a command: book, cancel, change, beds, ink, have, letter, take, show, line, got, serve or help"
expected_text (expected.Form v) = codes "expected: " ++ form_text v
expected_text expected.Take = codes "expected: take HEX"
expected_text expected.HutsFirst = codes "expected huts first"
expected_text expected.HutsOnce = codes "expected huts only once"

abbrev pub got_text : Got → List ℕ
got_text (gots.Choice c h a b k) =
    codes "choice " ++ (decimal c ++ (codes ": hut " ++ (decimal h ++ (codes ", nights " ++ (decimal a ++ (codes " to " ++ (decimal b ++ (codes ", " ++ (decimal k ++ codes " beds")))))))))
got_text gots.Nothing = codes "nothing"
got_text gots.Cancelled = codes "cancelled"
got_text (gots.ChangedBy m) = codes "changed by " ++ raw_mark_text m
got_text gots.NotABooking = codes "not a booking"

abbrev pub answer_text : Answer → List ℕ
answer_text (answers.Made m) = codes "made " ++ raw_mark_text m
answer_text (answers.Refused why) = codes "refused " ++ (decimal (number_of why) ++ (codes ": " ++ reason_text why))
answer_text (answers.Inked m p) = codes "inked " ++ (raw_mark_text m ++ (codes " at " ++ decimal p))
answer_text answers.NothingTentative = codes "nothing in pencil"
answer_text (answers.Have c v) = codes "have " ++ (decimal c ++ (codes " " ++ vector_text v.stamps))
answer_text (answers.Night h n b k) =
    codes "hut " ++ (decimal h ++ (codes " night " ++ (decimal n ++ (codes ": " ++ (decimal b ++ (codes " beds, " ++ (decimal k ++ codes " booked")))))))
answer_text answers.EndOfBook = codes "end of book"
answer_text (answers.Logged p m t k) = decimal p ++ (codes ": " ++ (raw_mark_text m ++ (codes " " ++ (standing_text t ++ (codes " " ++ kind_text k)))))
answer_text answers.EndOfLog = codes "end of line"
answer_text (answers.Got m t g) = raw_mark_text m ++ (codes " " ++ (standing_text t ++ (codes ": " ++ got_text g)))
answer_text (answers.Served v) = codes "served " ++ vector_text v.stamps
answer_text (answers.Letter c) = carried_text c
answer_text (answers.Take t) = taking_text t
answer_text (answers.Opened o) = opened_text o
answer_text (answers.Usage u) = usage_text u
answer_text (answers.Error e) = codes "error: " ++ expected_text e

-- The lines that are written for what is told.
use Rattle.std.specs.Prelude.{ℕ, zero, suc, ◌+◌, ◌-◌, Bool, true, false, cond, List, [], ◌∷◌, ◌++◌, length, count_by, None, Some, Option, nat_lt}
use Rattle.bookings.specs.Books.{PlainBook, book_of}
use Rattle.bookings.specs.Plain.{PlainKind, book, cancel, change, supply, PlainEntry, plain_mark}
use Rattle.bookings.specs.declared.limits.TheConstants.{HUTS, NIGHTS}
use Rattle.bookings.specs.declared.refusal.Refusal.TheVariants.{Damaged, OutOfRange}
use Rattle.console.specs.Answers.{answer_text, standing_of}
use Rattle.console.specs.LetterAnswers.{letter_text}
use Rattle.console.specs.Requests.{raw_mark}
use Rattle.console.specs.declared.answer.Answer.{Answer}
use Rattle.console.specs.declared.answer.Answer.TheVariants as answers
use Rattle.console.specs.declared.answer.KindName.{KindName}
use Rattle.console.specs.declared.answer.KindName.TheVariants as kinds
use Rattle.console.specs.declared.answer.letters.Taking.{Taking}
use Rattle.console.specs.declared.answer.letters.Taking.TheVariants as takings
use Rattle.entry_log.specs.Logs.{all_of}
use Rattle.network.specs.declared.outcome.Outcome.{Outcome}
use Rattle.network.specs.declared.outcome.Outcome.TheVariants as outcomes
use Rattle.replica.specs.Model.{State}
use Rattle.desk.specs.Answers.{noted_on}
use Rattle.desk.specs.declared.reply.Reply.{Reply}
use Rattle.desk.specs.declared.reply.Reply.TheVariants as replies

-- an answer's line
abbrev pub line_of : Answer → List ℕ
line_of a = answer_text a ++ (10 ∷ [])

abbrev pub line_if : Option Answer → List ℕ
line_if None = []
line_if (Some a) = line_of a

-- the lines of a list, one behind the other, where the first is at a place
unfoldable pub texts : {A : Type 0} → (ℕ → A → List ℕ) → ℕ → List A → List ℕ
texts f p [] = []
texts f p (x ∷ xs) = f p x ++ texts f (p + 1) xs

-- WHAT CAME OF A LETTER

abbrev pub taking_of : Outcome → Taking
taking_of (outcomes.Committed place m) = takings.Committed (raw_mark (plain_mark m)) place
taking_of (outcomes.Tentative m) = takings.Tentative (raw_mark (plain_mark m))
taking_of (outcomes.Skipped why m) = takings.Skipped why (raw_mark (plain_mark m))

abbrev pub is_skipped : Outcome → Bool
is_skipped (outcomes.Committed place m) = false
is_skipped (outcomes.Tentative m) = false
is_skipped (outcomes.Skipped why m) = true

abbrev pub outcome_line : ℕ → Outcome → List ℕ
outcome_line p o = line_of (answers.Take (taking_of o))

abbrev pub counts : List Outcome → ℕ → Taking
counts os out = takings.Counts (length os - count_by is_skipped os) (count_by is_skipped os) out

-- a line for all that is kept out, if there is any
abbrev pub out_line : ℕ → List ℕ
out_line out = cond (nat_lt 0 out) (line_of (answers.Take (takings.Rejected OutOfRange))) []

-- a line for each entry, and the counts; or one for a letter that was damaged
abbrev pub takings_lines : List Outcome → Option ℕ → List ℕ
takings_lines os None = line_of (answers.Take (takings.Rejected Damaged))
takings_lines os (Some out) = (texts outcome_line 0 os ++ out_line out) ++ line_of (answers.Take (counts os out))

-- THE BOOK

-- the first n nights of a hut, and the nights of the first n huts
unfoldable pub nights_lines : PlainBook → ℕ → ℕ → List ℕ
nights_lines b hut zero = []
nights_lines b hut (suc n) = nights_lines b hut n ++ line_if (noted_on b hut n)

unfoldable pub huts_lines : PlainBook → ℕ → List ℕ
huts_lines b zero = []
huts_lines b (suc n) = huts_lines b n ++ nights_lines b n NIGHTS

abbrev pub book_lines : State → List ℕ
book_lines s = huts_lines (book_of (all_of s.log)) HUTS ++ line_of answers.EndOfBook

-- THE LOG

abbrev pub name_of : PlainKind → KindName
name_of (book g cs) = kinds.Book
name_of (cancel m) = kinds.Cancel
name_of (change m cs) = kinds.Change
name_of (supply c) = kinds.Beds

abbrev pub logged_line : (committed : ℕ) → ℕ → PlainEntry → List ℕ
logged_line committed p e = line_of (answers.Logged p (raw_mark e.mark) (standing_of (nat_lt p committed)) (name_of e.kind))

abbrev pub log_lines : State → List ℕ
log_lines s = texts (logged_line (length s.log.committed)) 0 (all_of s.log) ++ line_of answers.EndOfLog

-- ALL

-- what is written for a reply, by what the replica knows, what came of the last letter, and the bytes of the page
abbrev pub reply_lines : State → List Outcome → Option ℕ → List ℕ → Reply → List ℕ
reply_lines s os out page replies.Nothing = []
reply_lines s os out page (replies.Line a) = line_of a
reply_lines s os out page replies.Letter = letter_text page ++ (10 ∷ [])
reply_lines s os out page replies.Takings = takings_lines os out
reply_lines s os out page replies.Book = book_lines s
reply_lines s os out page replies.Log = log_lines s

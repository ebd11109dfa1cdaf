-- Six cases that wardens ask about, as rows of a table: after some events something is asked of a hut, and it answers.
use Rattle.std.specs.Prelude.{◌≡◌, ℕ, ◌<◌, cond, List, [], ◌∷◌, ◌++◌, length, get_or, Some, None, Option, nat_lt, slice_index, slice_index_or}
use Rattle.std.specs.List.{All}
use Rattle.bookings.specs.Books.{PlainBook, book_of, place_from}
use Rattle.bookings.specs.Nights.{place_of}
use Rattle.bookings.specs.Outcomes.{PlainOutcome, holds, nothing}
use Rattle.bookings.specs.Plain.{PlainMark, PlainChoice, PlainKind, book, cancel, change, supply}
use Rattle.entry_log.specs.Logs.{all_of}
use Rattle.entry_log.specs.Vectors.{no_stamps, noted}
use Rattle.journal.specs.History.{state_in}
use Rattle.replica.specs.Model.{State, marks_of, serves}
use Rattle.network.specs.Items.{Letter, refusal_of}
use Rattle.network.specs.Net.{Event, Makes, Commits, Syncs, Writes, Takes, after}
use Rattle.network.specs.Stages.{huts_of, hut_at, state_at}
use Rattle.network.specs.Stands.{Stands}
use Rattle.network.specs.declared.stage.Stage.{Stage}

-- `Gets m`: what the entry with a mark has got; `Night hut night`: the beds of a hut on a night, and how many are booked; `Hears nth`: what comes
-- of the first item of a letter, of those written, from 0; `Serves slip`: whether a guest with that slip is served
pub data Question : Type 0 where
  Gets : PlainMark → Question
  Night : (hut night : ℕ) → Question
  Hears : (nth : ℕ) → Question
  Serves : List ℕ → Question

pub data Answer : Type 0 where
  tentative : PlainOutcome → Answer
  committed : PlainOutcome → Answer
  unknown : Answer
  beds : (there booked : ℕ) → Answer
  done : Answer
  refused : ℕ → Answer

abbrev pub outcome_at : State → ℕ → PlainOutcome
outcome_at s p = slice_index_or (book_of (all_of s.log)).outcomes p nothing

abbrev pub got_at : State → Option ℕ → Answer
got_at s None = unknown
got_at s (Some p) = cond (nat_lt p (length s.log.committed)) (committed (outcome_at s p)) (tentative (outcome_at s p))

abbrev pub night_of : PlainBook → ℕ → Answer
night_of b place = beds (slice_index b.beds place) (slice_index b.booked place)

abbrev pub unless_by : Option ℕ → Answer
unless_by None = done
unless_by (Some number) = refused number

abbrev pub first_heard : State → Letter → Answer
first_heard s [] = done
first_heard s (w ∷ ws) = unless_by (refusal_of w s)

-- what a replica answers, where these letters were written so far
abbrev pub asked : State → List Letter → Question → Answer
asked s sent (Gets m) = got_at s (place_from 0 m (marks_of s))
asked s sent (Night hut night) = night_of (book_of (all_of s.log)) (place_of hut night)
asked s sent (Hears nth) = first_heard s (get_or sent nth [])
asked s sent (Serves slip) = cond (serves slip s) done (refused 7)

-- after these events the hut that is asked gives that answer
pub record Row : Type 0 where
  pub events : List Event
  pub hut : ℕ
  pub question : Question
  pub answer : Answer

abbrev pub answer_of : Row → Answer
answer_of r = asked (state_in ((after r.events).hut r.hut)) (after r.events).sent r.question

-- in words of the cases
abbrev pub mark : (stamp hut : ℕ) → PlainMark
mark stamp hut = record { stamp = stamp; hut = hut }

-- so many beds of a hut, from night 9 on
abbrev pub stay : (hut nights wanted : ℕ) → PlainChoice
stay hut nights wanted = record { stay = record { hut = hut; night = 9; nights = nights }; beds = wanted }

abbrev pub five : PlainChoice
five = stay 5 1 20

abbrev pub six : PlainChoice
six = stay 6 1 20

abbrev pub got : ℕ → PlainChoice → PlainOutcome
got number c = holds (record { number = number; choice = c; replaces = None })

-- the vector of one who knows one mark
abbrev pub knows : PlainMark → List ℕ
knows m = noted m no_stamps

-- what a hut does, each with all that it syncs: an entry is made; the primary commits; a letter for what another has comes to it
abbrev pub made : ℕ → PlainKind → List Event
made hut kind = Makes hut kind ∷ Syncs hut ∷ []

abbrev pub commit : List Event
commit = Commits 0 ∷ Syncs 0 ∷ []

abbrev pub walked : (from to count : ℕ) → (has : List ℕ) → (nth : ℕ) → List Event
walked from to count has nth = Syncs to ∷ Writes from count has ∷ Takes to nth ∷ []

-- A: two huts book the same beds, the second with another choice, and then each hears of the other's
abbrev pub alike : List Event
alike =
    made 1 (book 1 (five ∷ [])) ++ made 2 (book 2 (five ∷ six ∷ []))
    ++ walked 1 2 0 (knows (mark 1 2)) 0 ++ walked 2 1 0 (knows (mark 1 1)) 1

-- B: the primary hears of the second alone and commits it, and then hears of the first and commits it too
abbrev pub late : List Event
late =
    made 1 (book 1 (five ∷ [])) ++ made 2 (book 2 (five ∷ six ∷ []))
    ++ walked 2 0 0 no_stamps 0 ++ commit ++ walked 1 0 1 (knows (mark 1 2)) 1 ++ commit

-- C: hut 3 books; hut 7, which has heard of it, cancels, and writes a letter for one that says to know the booking
abbrev pub gone_first : List Event
gone_first =
    made 3 (book 1 (five ∷ [])) ++ walked 3 7 0 no_stamps 0 ++ made 7 (cancel (mark 1 3)) ++ Writes 7 0 (knows (mark 1 3)) ∷ []

-- D: hut 5 is to have 10 beds on two nights, on the first of which 20 are booked
abbrev pub cut_back : List Event
cut_back = made 0 (book 1 (five ∷ [])) ++ made 0 (supply (stay 5 2 10))

-- E: a booking is to be changed for beds that are not free
abbrev pub kept : List Event
kept = made 0 (book 1 (five ∷ [])) ++ made 0 (book 2 (six ∷ [])) ++ made 0 (change (mark 1 0) (six ∷ []))

-- F: hut 1 has heard of the first entry of hut 7, and no more
abbrev pub behind : List Event
behind = made 7 (book 1 (five ∷ [])) ++ walked 7 1 0 no_stamps 0

abbrev pub row : List Event → ℕ → Question → Answer → Row
row es hut q a = record { events = es; hut = hut; question = q; answer = a }

-- A, at both huts: the first has hut 5, the second hut 6. B: the second has hut 5, the first has got nothing. C: the cancellation is skipped by 5.
-- D: 20 beds and 10. E: the booking keeps its beds, the change has got nothing. F: a guest that knows the second entry of hut 7 is not served, by 7.
abbrev pub table : List Row
table =
    row alike 1 (Gets (mark 1 1)) (tentative (got 0 five))
    ∷ row alike 1 (Gets (mark 1 2)) (tentative (got 1 six))
    ∷ row alike 2 (Gets (mark 1 1)) (tentative (got 0 five))
    ∷ row alike 2 (Gets (mark 1 2)) (tentative (got 1 six))
    ∷ row late 0 (Gets (mark 1 2)) (committed (got 0 five))
    ∷ row late 0 (Gets (mark 1 1)) (committed nothing)
    ∷ row gone_first 0 (Hears 1) (refused 5)
    ∷ row cut_back 0 (Night 5 9) (beds 20 20)
    ∷ row cut_back 0 (Night 5 10) (beds 10 0)
    ∷ row kept 0 (Gets (mark 1 0)) (tentative (got 0 five))
    ∷ row kept 0 (Gets (mark 3 0)) (tentative nothing)
    ∷ row behind 1 (Serves (knows (mark 2 7))) (refused 7)
    ∷ []

-- LAW: after the events of each row the model answers as the row says.
abbrev pub SixCases : Type 0
SixCases = All (λ r. answer_of r ≡ r.answer) table

-- so does the replica of that hut in every rehearsal that the events have led to
abbrev pub Played : Row → Type 0
Played r =
    (s : Stage) (p : ℕ) → Stands s r.events → p < length (huts_of s) → hut_at (huts_of s) p ≡ r.hut
    → asked (state_at (huts_of s) p) (after r.events).sent r.question ≡ r.answer

-- LAW: what was played as the events of a row say shows what the row says.
abbrev pub SixCasesPlayed : Type 0
SixCasesPlayed = All Played table

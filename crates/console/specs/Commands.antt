-- What a line says.
use Rattle.std.specs.Prelude.{ℕ, ◌+◌, cond, List, [], ◌∷◌, length, take, drop, Some, None, Ok, Err, codes, Option, Result, ◌==◌, nat_lt, slice_index}
use Rattle.std.specs.Option.{option_map}
use Rattle.std.specs.Str.{bytes_eq}
use Rattle.bookings.specs.Plain.{PlainMark, PlainChoice, PlainKind, book, cancel, change, supply}
use Rattle.bookings.specs.declared.limits.TheConstants.{HUTS, MAX_REHEARSAL_HUTS}
use Rattle.console.specs.declared.command.Asked.{Asked}
use Rattle.console.specs.declared.command.Command.{Command}
use Rattle.console.specs.declared.command.Command.TheVariants as commands
use Rattle.console.specs.declared.command.Expected.{Expected}
use Rattle.console.specs.declared.command.Expected.TheVariants as expected
use Rattle.console.specs.declared.verb.Verb.{Verb}
use Rattle.console.specs.declared.verb.Verb.TheVariants.{Huts, At, Book, Cancel, Change, Beds, Ink, Have, Show, Line, Got, Serve, Letter, Walk, Lose, Again, Cut, Stop, Help}
use Rattle.console.specs.Hexes.{is_hex, bytes_of}
use Rattle.console.specs.Languages.{Language, by_words_in, told_as, alone_in, sixteen_in}
use Rattle.console.specs.Requests.{mark_of, choice_of, choices_of, asked_mark, asked}
use Rattle.console.specs.Verbs.{verb_of}
use Rattle.console.specs.Words.{words}

pub data Said : Type 0 where
  pass : Said
  huts : List ℕ → Said
  at : ℕ → Said
  make : PlainKind → Said
  ink : Said
  have : Said
  show_night : ℕ → ℕ → Said
  show : Said
  log : Said
  got : PlainMark → Said
  serve : List ℕ → Said
  letter : ℕ → List ℕ → Said
  taken : List ℕ → Said
  walk : ℕ → ℕ → Said
  lose : ℕ → ℕ → Said
  again : ℕ → ℕ → Said
  cut : ℕ → ℕ → ℕ → Said
  stop : ℕ → ℕ → Said
  help : Said

-- a command, without its layout, and the bytes of the letter that its line brings
abbrev pub said : List ℕ → Command → Said
said bytes commands.Pass = pass
said bytes (commands.Huts ns) = huts (take ns.count ns.all)
said bytes (commands.At h) = at h
said bytes (commands.Make r) = make (asked r)
said bytes commands.Ink = ink
said bytes commands.Have = have
said bytes (commands.ShowNight h n) = show_night h n
said bytes commands.Show = show
said bytes commands.Line = log
said bytes (commands.Got m) = got (asked_mark m)
said bytes (commands.Serve v) = serve v.all
said bytes (commands.Letter c v) = letter c v.all
said bytes commands.Take = taken bytes
said bytes (commands.Walk i j) = walk i j
said bytes (commands.Lose i j) = lose i j
said bytes (commands.Again k j) = again k j
said bytes (commands.Cut k j n) = cut k j n
said bytes (commands.Stop i n) = stop i n
said bytes commands.Help = help

-- what numbers say behind each verb, if their count is right
abbrev pub huts_of : List ℕ → Option Said
huts_of ns = cond (length ns == 0) None (cond (nat_lt MAX_REHEARSAL_HUTS (length ns)) None (Some (huts ns)))

abbrev pub at_of : List ℕ → Option Said
at_of ns = cond (length ns == 1) (Some (at (slice_index ns 0))) None

abbrev pub book_with : ℕ → Option (List PlainChoice) → Option Said
book_with g None = None
book_with g (Some cs) = Some (make (book g cs))

abbrev pub book_of : List ℕ → Option Said
book_of ns = cond (length ns == 0) None (book_with (slice_index ns 0) (choices_of (drop 1 ns)))

abbrev pub cancel_of : List ℕ → Option Said
cancel_of ns = cond (length ns == 2) (Some (make (cancel (mark_of (slice_index ns 0) (slice_index ns 1))))) None

abbrev pub change_with : PlainMark → Option (List PlainChoice) → Option Said
change_with m None = None
change_with m (Some cs) = Some (make (change m cs))

abbrev pub change_of : List ℕ → Option Said
change_of ns = cond (nat_lt (length ns) 2) None (change_with (mark_of (slice_index ns 0) (slice_index ns 1)) (choices_of (drop 2 ns)))

abbrev pub beds_of : List ℕ → Option Said
beds_of ns =
    cond (length ns == 4) (Some (make (supply (choice_of (slice_index ns 0) (slice_index ns 1) (slice_index ns 2) (slice_index ns 3))))) None

-- of a verb that stands alone
abbrev pub alone_of : Said → List ℕ → Option Said
alone_of s ns = alone_in s ns

abbrev pub show_of : List ℕ → Option Said
show_of ns = cond (length ns == 0) (Some show) (cond (length ns == 2) (Some (show_night (slice_index ns 0) (slice_index ns 1))) None)

abbrev pub got_of : List ℕ → Option Said
got_of ns = cond (length ns == 2) (Some (got (mark_of (slice_index ns 0) (slice_index ns 1)))) None

abbrev pub serve_of : List ℕ → Option Said
serve_of ns = sixteen_in serve ns

abbrev pub letter_of : List ℕ → Option Said
letter_of ns = cond (length ns == 1 + HUTS) (Some (letter (slice_index ns 0) (drop 1 ns))) None

abbrev pub walk_of : List ℕ → Option Said
walk_of ns = cond (length ns == 2) (Some (walk (slice_index ns 0) (slice_index ns 1))) None

abbrev pub lose_of : List ℕ → Option Said
lose_of ns = cond (length ns == 2) (Some (lose (slice_index ns 0) (slice_index ns 1))) None

abbrev pub again_of : List ℕ → Option Said
again_of ns = cond (length ns == 2) (Some (again (slice_index ns 0) (slice_index ns 1))) None

abbrev pub cut_of : List ℕ → Option Said
cut_of ns = cond (length ns == 3) (Some (cut (slice_index ns 0) (slice_index ns 1) (slice_index ns 2))) None

abbrev pub stop_of : List ℕ → Option Said
stop_of ns = cond (length ns == 2) (Some (stop (slice_index ns 0) (slice_index ns 1))) None

abbrev pub said_by : Verb → List ℕ → Option Said
said_by Huts ns = huts_of ns
said_by At ns = at_of ns
said_by Book ns = book_of ns
said_by Cancel ns = cancel_of ns
said_by Change ns = change_of ns
said_by Beds ns = beds_of ns
said_by Ink ns = alone_of ink ns
said_by Have ns = alone_of have ns
said_by Show ns = show_of ns
said_by Line ns = alone_of log ns
said_by Got ns = got_of ns
said_by Serve ns = serve_of ns
said_by Letter ns = letter_of ns
said_by Walk ns = walk_of ns
said_by Lose ns = lose_of ns
said_by Again ns = again_of ns
said_by Cut ns = cut_of ns
said_by Stop ns = stop_of ns
said_by Help ns = alone_of help ns

abbrev pub hut_lines : Language Verb Said Expected
hut_lines = record { pass = pass; verb_of = verb_of; said_by = said_by; no_verb = expected.Command; no_form = expected.Form }

abbrev pub take_name : List ℕ
take_name = codes "take"

-- what stands behind that name
abbrev pub behind_take : List (List ℕ) → Option (List (List ℕ))
behind_take [] = None
behind_take (w ∷ ws) = cond (bytes_eq w take_name) (Some ws) None

-- a letter is one word of hexadecimal digits
abbrev pub taken_by : List (List ℕ) → Result Said Expected
taken_by [] = Err expected.Take
taken_by (w ∷ []) = cond (is_hex w) (Ok (taken (bytes_of w))) (Err expected.Take)
taken_by (w ∷ v ∷ ws) = Err expected.Take

-- a line brings a letter, or says something in its language
abbrev pub or_taken : Option (List (List ℕ)) → Result Said Expected → Result Said Expected
or_taken None r = r
or_taken (Some ws) r = taken_by ws

abbrev pub by_words : {V : Type 0} → Language V Said Expected → List (List ℕ) → Result Said Expected
by_words l ws = or_taken (behind_take ws) (by_words_in l ws)

abbrev pub parsed : List ℕ → Result Said Expected
parsed line = by_words hut_lines (words line)

-- of a line that brings no letter
abbrev pub plainly : Result Command Expected → Result Said Expected
plainly r = told_as (said []) r

abbrev pub told : Asked → Result Said Expected
told a = told_as (said (bytes_of a.letter.digits.now)) a.command

abbrev pub said_if : Option Command → Option Said
said_if c = option_map (said []) c

-- What a line says to a slip, and the line that a command is written as.
use Rattle.std.specs.Prelude.{◌≡◌, ℕ, List, [], length, None, codes, Option, Result}
use Rattle.std.specs.Option.{option_map}
use Rattle.bookings.specs.Ranges.{Each}
use Rattle.bookings.specs.declared.limits.TheConstants.{HUTS}
use Rattle.console.specs.declared.slip.SlipCommand.{SlipCommand}
use Rattle.console.specs.declared.slip.SlipCommand.TheVariants as commands
use Rattle.console.specs.declared.slip.SlipExpected.{SlipExpected}
use Rattle.console.specs.declared.slip.SlipExpected.TheVariants as expected
use Rattle.console.specs.declared.slip.SlipVerb.{SlipVerb}
use Rattle.console.specs.declared.slip.SlipVerb.TheVariants.{Slip, May, Add, Help}
use Rattle.console.specs.Languages.{Language, parsed_in, told_as, named_or, alone_in, sixteen_in, written_by, SpacesDoNotMatterIn, CommentsSayNothingIn}
use Rattle.console.specs.Lines.{TenDigits}

pub data SlipSaid : Type 0 where
  pass : SlipSaid
  slip : SlipSaid
  may : List ℕ → SlipSaid
  add : List ℕ → SlipSaid
  help : SlipSaid

-- a command, without its layout
abbrev pub slip_said : SlipCommand → SlipSaid
slip_said commands.Pass = pass
slip_said commands.Slip = slip
slip_said (commands.May v) = may v.all
slip_said (commands.Add v) = add v.all
slip_said commands.Help = help

abbrev pub slip_said_if : Option SlipCommand → Option SlipSaid
slip_said_if c = option_map slip_said c

abbrev pub slip_told : Result SlipCommand SlipExpected → Result SlipSaid SlipExpected
slip_told r = told_as slip_said r

-- the word that a verb is written as
abbrev pub slip_name_of : SlipVerb → List ℕ
slip_name_of Slip = codes "slip"
slip_name_of May = codes "may"
slip_name_of Add = codes "add"
slip_name_of Help = codes "help"

abbrev pub slip_or_else : SlipVerb → List ℕ → Option SlipVerb → Option SlipVerb
slip_or_else v w o = named_or slip_name_of v w o

abbrev pub slip_verb_of : List ℕ → Option SlipVerb
slip_verb_of w = slip_or_else Slip w (slip_or_else May w (slip_or_else Add w (slip_or_else Help w None)))

-- what numbers say behind each verb, if their count is right
abbrev pub slip_by : SlipVerb → List ℕ → Option SlipSaid
slip_by Slip ns = alone_in slip ns
slip_by May ns = sixteen_in may ns
slip_by Add ns = sixteen_in add ns
slip_by Help ns = alone_in help ns

abbrev pub slip_lines : Language SlipVerb SlipSaid SlipExpected
slip_lines = record { pass = pass; verb_of = slip_verb_of; said_by = slip_by; no_verb = expected.Command; no_form = expected.Form }

abbrev pub slip_parsed : List ℕ → Result SlipSaid SlipExpected
slip_parsed line = parsed_in slip_lines line

-- a verb and numbers, with single spaces between them
abbrev pub slip_written : SlipVerb → List ℕ → List ℕ
slip_written v ns = written_by (slip_name_of v) ns

abbrev pub slip_line_of : SlipSaid → List ℕ
slip_line_of pass = []
slip_line_of slip = slip_written Slip []
slip_line_of (may ns) = slip_written May ns
slip_line_of (add ns) = slip_written Add ns
slip_line_of help = slip_written Help []

abbrev pub SlipSayable : SlipSaid → Type 0
SlipSayable pass = Unit {0}
SlipSayable slip = Unit {0}
SlipSayable (may ns) = Each TenDigits ns × (length ns ≡ HUTS)
SlipSayable (add ns) = Each TenDigits ns × (length ns ≡ HUTS)
SlipSayable help = Unit {0}

-- one space more, between words, in front or behind, changes nothing
abbrev pub SlipSpacesDoNotMatter : Type 0
SlipSpacesDoNotMatter = SpacesDoNotMatterIn slip_parsed

-- 35 is '#'
abbrev pub SlipCommentsSayNothing : Type 0
SlipCommentsSayNothing = CommentsSayNothingIn slip_parsed pass

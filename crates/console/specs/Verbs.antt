-- Which word asks for what.
use Rattle.std.specs.Prelude.{ℕ, List, None, codes, Option}
use Rattle.console.specs.Languages.{named_or}
use Rattle.console.specs.declared.verb.Verb.{Verb}
use Rattle.console.specs.declared.verb.Verb.TheVariants.{Huts, At, Book, Cancel, Change, Beds, Ink, Have, Show, Line, Got, Serve, Letter, Walk, Lose, Again, Cut, Stop, Help}

-- the word that a verb is written as
abbrev pub name_of : Verb → List ℕ
name_of Huts = codes "huts"
name_of At = codes "at"
name_of Book = codes "book"
name_of Cancel = codes "cancel"
name_of Change = codes "change"
name_of Beds = codes "beds"
name_of Ink = codes "ink"
name_of Have = codes "have"
name_of Show = codes "show"
name_of Line = codes "line"
name_of Got = codes "got"
name_of Serve = codes "serve"
name_of Letter = codes "letter"
name_of Walk = codes "walk"
name_of Lose = codes "lose"
name_of Again = codes "again"
name_of Cut = codes "cut"
name_of Stop = codes "stop"
name_of Help = codes "help"

abbrev pub or_else : Verb → List ℕ → Option Verb → Option Verb
or_else v w o = named_or name_of v w o

abbrev pub letter_verb_of : List ℕ → Option Verb
letter_verb_of w =
    or_else Letter w (or_else Walk w (or_else Lose w (or_else Again w (or_else Cut w (or_else Stop w (or_else Help w None))))))

abbrev pub other_verb_of : List ℕ → Option Verb
other_verb_of w = or_else Ink w (or_else Have w (or_else Show w (or_else Line w (or_else Got w (or_else Serve w (letter_verb_of w))))))

abbrev pub verb_of : List ℕ → Option Verb
verb_of w = or_else Huts w (or_else At w (or_else Book w (or_else Cancel w (or_else Change w (or_else Beds w (other_verb_of w))))))

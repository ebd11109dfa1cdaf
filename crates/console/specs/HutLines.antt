-- What a line says to a hut, which knows nothing of rehearsals.
use Rattle.std.specs.Prelude.{ℕ, Bool, true, false, cond, List, Some, None, Option, Result}
use Rattle.console.specs.declared.command.Expected.{Expected}
use Rattle.console.specs.declared.command.Expected.TheVariants as expected
use Rattle.console.specs.declared.line.hut.HutVerb.{HutVerb}
use Rattle.console.specs.declared.verb.Verb.{Verb}
use Rattle.console.specs.declared.verb.Verb.TheVariants.{Huts, At, Book, Cancel, Change, Beds, Ink, Have, Show, Line, Got, Serve, Letter, Walk, Lose, Again, Cut, Stop, Help}
use Rattle.console.specs.Commands.{Said, pass, huts, at, make, ink, have, show_night, show, log, got, serve, letter, taken, walk, lose, again, cut, stop, help, said_by, by_words}
use Rattle.console.specs.Languages.{Language}
use Rattle.console.specs.Verbs.{verb_of}
use Rattle.console.specs.Words.{words}

abbrev pub hut_says : Said → Bool
hut_says pass = true
hut_says (huts x) = false
hut_says (at x) = false
hut_says (make x) = true
hut_says ink = true
hut_says have = true
hut_says (show_night x y) = true
hut_says show = true
hut_says log = true
hut_says (got x) = true
hut_says (serve x) = true
hut_says (letter x y) = true
hut_says (taken x) = true
hut_says (walk x y) = false
hut_says (lose x y) = false
hut_says (again x y) = false
hut_says (cut x y z) = false
hut_says (stop x y) = false
hut_says help = true

abbrev pub hut_reads : Verb → Bool
hut_reads Huts = false
hut_reads At = false
hut_reads Book = true
hut_reads Cancel = true
hut_reads Change = true
hut_reads Beds = true
hut_reads Ink = true
hut_reads Have = true
hut_reads Show = true
hut_reads Line = true
hut_reads Got = true
hut_reads Serve = true
hut_reads Letter = true
hut_reads Walk = false
hut_reads Lose = false
hut_reads Again = false
hut_reads Cut = false
hut_reads Stop = false
hut_reads Help = true

abbrev pub of_hut : Option Verb → Option HutVerb
of_hut None = None
of_hut (Some v) = cond (hut_reads v) (Some (record { verb = v })) None

abbrev pub own_lines : Language HutVerb Said Expected
own_lines =
    record { pass = pass; verb_of = λ w. of_hut (verb_of w); said_by = λ v ns. said_by v.verb ns; no_verb = expected.HutCommand; no_form = λ v. expected.Form v.verb }

abbrev pub hut_parsed : List ℕ → Result Said Expected
hut_parsed line = by_words own_lines (words line)

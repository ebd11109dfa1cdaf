-- The text of what is said about letters, and at the start.
use Rattle.std.specs.Prelude.{ℕ, cond, List, [], ◌++◌, codes, decimal, ◌==◌}
use Rattle.bookings.specs.Refusals.{number_of}
use Rattle.bookings.specs.Texts.{reason_text}
use Rattle.console.specs.declared.answer.letters.Carried.{Carried}
use Rattle.console.specs.declared.answer.letters.Carried.TheVariants as carries
use Rattle.console.specs.declared.answer.letters.Taking.{Taking}
use Rattle.console.specs.declared.answer.letters.Taking.TheVariants as takings
use Rattle.console.specs.declared.answer.starts.Opened.{Opened}
use Rattle.console.specs.declared.answer.starts.Usage.{Usage}
use Rattle.console.specs.declared.answer.starts.Usage.TheVariants as usages
use Rattle.console.specs.Hexes.{hex_text}
use Rattle.console.specs.Texts.{raw_mark_text}

-- what befalls letter k
abbrev pub carried_text : Carried → List ℕ
carried_text (carries.Walked k i j) = codes "letter " ++ (decimal k ++ (codes " from " ++ (decimal i ++ (codes " to " ++ decimal j))))
carried_text (carries.Lost k i j) =
    codes "letter " ++ (decimal k ++ (codes " from " ++ (decimal i ++ (codes " to " ++ (decimal j ++ codes " lost")))))
carried_text (carries.Again k j) = codes "letter " ++ (decimal k ++ (codes " again to " ++ decimal j))
carried_text (carries.Cut k n j) = codes "letter " ++ (decimal k ++ (codes " cut to " ++ (decimal n ++ (codes " to " ++ decimal j))))

abbrev pub taking_text : Taking → List ℕ
taking_text (takings.Committed m p) = codes "taken in ink " ++ (raw_mark_text m ++ (codes " at " ++ decimal p))
taking_text (takings.Tentative m) = codes "taken in pencil " ++ raw_mark_text m
taking_text (takings.Skipped why m) = codes "passed over " ++ (decimal (number_of why) ++ (codes ": " ++ raw_mark_text m))
taking_text (takings.Rejected why) = codes "kept out " ++ (decimal (number_of why) ++ (codes ": " ++ reason_text why))
taking_text (takings.Counts a b c) =
    codes "taken " ++ (decimal a ++ (codes ", passed over " ++ (decimal b ++ (codes ", kept out " ++ decimal c))))

-- nothing, where nothing was cut off
abbrev pub cut_text : ℕ → List ℕ
cut_text n = cond (n == 0) [] (codes ", " ++ (decimal n ++ codes " bytes cut off"))

-- the line that brings a letter
abbrev pub letter_text : List ℕ → List ℕ
letter_text bytes = codes "letter " ++ hex_text bytes

abbrev pub opened_text : Opened → List ℕ
opened_text o =
    codes "hut " ++ (decimal o.hut ++ (codes ": " ++ (decimal o.committed ++ (codes " in ink, " ++ (decimal o.tentative ++ (codes " in pencil" ++ cut_text o.cut))))))

-- a line for each command
abbrev pub usage_text : Usage → List ℕ
usage_text usages.Hut = codes "book G, then up to four choices H N K B\ncancel S H\nchange S H, then up to four choices H N K B\nbeds H N K B\nink\nhave\nletter C S0 .. S15\ntake HEX\nshow, or show H N\nline\ngot S H\nserve S0 .. S15\nhelp"
usage_text usages.Rehearsal = codes "huts, then one to four huts\nat I\nwalk I J\nlose I J\nagain K J\ncut K J N\nstop I N"

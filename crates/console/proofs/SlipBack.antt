-- A command of a slip that is written down is read back as that command.
use Rattle.std.proofs.Common.{◌≡◌, ℕ, ◌≤◌, List, [], ◌∷◌, ◌++◌, length, Ok, refl, ◌∙◌, arith, eq-eqb}
use Rattle.bookings.specs.Ranges.{Each}
use Rattle.bookings.specs.declared.limits.TheConstants.{HUTS}
use Rattle.console.specs.declared.numbers.TheConstants.{MAX_NUMBERS}
use Rattle.console.specs.declared.slip.SlipVerb.{SlipVerb}
use Rattle.console.specs.declared.slip.SlipVerb.TheVariants.{Slip, May, Add, Help}
use Rattle.console.specs.Languages.{with_numbers_in, in_form_in, by_words_in}
use Rattle.console.specs.Lines.{TenDigits}
use Rattle.console.specs.Numbers.{numbers_of}
use Rattle.console.specs.Slips.{SlipSaid, pass, slip, may, add, help, slip_name_of, slip_by, slip_lines, slip_parsed, slip_written, slip_line_of, SlipSayable}
use Rattle.console.specs.Words.{spaced, words}
use Rattle.console.proofs.Languages.{written_says}
use Rattle.console.proofs.WrittenWords.{word_then}

name_then : (v : SlipVerb) (ws : List (List ℕ)) → words (spaced ws) ≡ ws → words (slip_name_of v ++ spaced ws) ≡ slip_name_of v ∷ ws
name_then Slip ws further = word_then _ _ [] ws tt further
name_then May ws further = word_then _ _ [] ws tt further
name_then Add ws further = word_then _ _ [] ws tt further
name_then Help ws further = word_then _ _ [] ws tt further

name_says : (v : SlipVerb) (ws : List (List ℕ)) → by_words_in slip_lines (slip_name_of v ∷ ws) ≡ in_form_in slip_lines v (with_numbers_in slip_lines v (numbers_of MAX_NUMBERS ws))
name_says Slip ws = refl
name_says May ws = refl
name_says Add ws = refl
name_says Help ws = refl

says : (v : SlipVerb) (ns : List ℕ) → length ns ≤ MAX_NUMBERS → Each TenDigits ns → slip_parsed (slip_written v ns) ≡ in_form_in slip_lines v (slip_by v ns)
says v ns few all = written_says slip_lines (by_words_in slip_lines) (slip_name_of v) v ns (name_then v) (name_says v) few all

pub slip_lines_read_back : (s : SlipSaid) → SlipSayable s → slip_parsed (slip_line_of s) ≡ Ok s
slip_lines_read_back pass h = refl
slip_lines_read_back slip h = says Slip [] (omega arith) tt
slip_lines_read_back (may ns) h = says May ns (omega arith) h.0 ∙ rw (eq-eqb (length ns) HUTS h.1) refl
slip_lines_read_back (add ns) h = says Add ns (omega arith) h.0 ∙ rw (eq-eqb (length ns) HUTS h.1) refl
slip_lines_read_back help h = says Help [] (omega arith) tt

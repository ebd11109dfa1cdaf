use Rattle.std.proofs.Common.{take}
use Rattle.std.specs.Fmt.{IsPlainFormatter, HasWritten}
use Rattle.console.specs.LetterAnswers.{letter_text}
use Rattle.console.proofs.answer.letter.LetterDisplay.fmt.Given as goal

abbrev pub invariant-loop-byte : goal.invariant-loop-byte
invariant-loop-byte g l = IsPlainFormatter {W = g.row.W.Denot} l.fn.f → HasWritten {W = g.row.W.Denot} g.W.Write.write_str_gives l.fn.f (letter_text (take l.byte-index l.byte-items)) l.f

-- The text of an answer of a slip.
use Rattle.std.specs.Prelude.{ℕ, List, ◌++◌, codes}
use Rattle.console.specs.declared.answer.Answer.TheVariants.{Refused}
use Rattle.console.specs.declared.slip.SlipAnswer.{SlipAnswer}
use Rattle.console.specs.declared.slip.SlipAnswer.TheVariants as answers
use Rattle.console.specs.declared.slip.SlipExpected.{SlipExpected}
use Rattle.console.specs.declared.slip.SlipExpected.TheVariants as expected
use Rattle.console.specs.declared.slip.SlipVerb.{SlipVerb}
use Rattle.console.specs.declared.slip.SlipVerb.TheVariants.{Slip, May, Add, Help}
use Rattle.console.specs.Answers.{answer_text}
use Rattle.entry_log.specs.Texts.{vector_text}

-- a verb with what stands behind it
abbrev pub slip_form_text : SlipVerb → List ℕ
slip_form_text Slip = codes "slip"
slip_form_text May = codes "may S0 .. S15"
slip_form_text Add = codes "add S0 .. S15"
slip_form_text Help = codes "help"

abbrev pub slip_expected_text : SlipExpected → List ℕ
slip_expected_text expected.Command = codes "expected a command: slip, may, add or help"
slip_expected_text (expected.Form v) = codes "expected: " ++ slip_form_text v

-- a refusal reads as everywhere
abbrev pub slip_answer_text : SlipAnswer → List ℕ
slip_answer_text (answers.Slip v) = codes "slip " ++ vector_text v.stamps
slip_answer_text answers.Yes = codes "yes"
slip_answer_text (answers.Refused why) = answer_text (Refused why)
slip_answer_text answers.Usage = codes "slip\nmay S0 .. S15\nadd S0 .. S15\nhelp"
slip_answer_text (answers.Error e) = codes "error: " ++ slip_expected_text e

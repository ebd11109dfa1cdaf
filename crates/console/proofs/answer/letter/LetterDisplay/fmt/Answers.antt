use Rattle.std.proofs.Common.{◌++◌, codes, ap, rules}
use Rattle.std.proofs.Output.{has_written_append, has_written_of_eq}
use Rattle.std.proofs.lemmas.List.{take_all}
use Rattle.console.specs.LetterAnswers.{letter_text}
use Rattle.console.proofs.HexText.{hex_text_none, hex_text_more}
use Rattle.console.proofs.answer.letter.LetterDisplay.fmt.Goals as goal

pub loop-byte-init : goal.loop-byte-init
loop-byte-init g c = λ plain. has_written_of_eq _ _ _ _ _ (ap (λ t. codes "letter " ++ t) hex_text_none) (search rules)

pub loop-byte-preserved : goal.loop-byte-preserved
loop-byte-preserved g c = λ plain.
    has_written_of_eq _ _ _ _ _
    (ap (λ t. codes "letter " ++ t) (hex_text_more c.args.self.now.bytes.now c.loop-byte.byte-index c.loop-byte-test.true (search rules)))
    (has_written_append _ _ _ _ _ _ (c.loop-byte.invariant plain) (search rules))

pub returns-clause-writes : goal.returns-clause-writes
returns-clause-writes g c = λ plain ok.
    has_written_of_eq _ _ _ _ _ (ap letter_text (take_all c.loop-byte.byte-index c.args.self.now.bytes.now c.loop-byte-test.false)) (c.loop-byte.invariant plain)

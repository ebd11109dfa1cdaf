use Rattle.console.proofs.SaidBy.{letter_says}
use Rattle.console.proofs.forms.letter.Goals as goal

pub returns : goal.returns
returns c =
    letter_says c.args.numbers.now _ _ _ c.in_ok-committed.ensures.cases.0 c.in_ok-vector.ensures.0 c.in_ok-vector.ensures.1

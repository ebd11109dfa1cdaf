use Rattle.std.proofs.Common.{arith}
use Rattle.console.proofs.SaidBy.{change_says}
use Rattle.console.proofs.forms.change.Goals as goal

pub returns-in_err-choices : goal.returns-in_err-choices
returns-in_err-choices c =
    let mark = c.in_ok-mark.ensures in
    rw c.from_residual-in_err-choices.ensures (change_says c.args.numbers.now _ _ _ (omega (arith, mark.2)) mark.0 mark.1 c.in_err-choices.ensures)

pub returns : goal.returns
returns c =
    let mark = c.in_ok-mark.ensures in
    change_says c.args.numbers.now _ _ _ (omega (arith, mark.2)) mark.0 mark.1 c.in_ok-choices.ensures

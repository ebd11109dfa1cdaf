use Rattle.console.proofs.SaidBy.{book_says}
use Rattle.console.proofs.forms.book.Goals as goal

pub returns-in_err-choices : goal.returns-in_err-choices
returns-in_err-choices c =
    rw c.from_residual-in_err-choices.ensures (book_says c.args.numbers.now _ _ _ c.in_ok-guest.ensures.cases.0 c.in_err-choices.ensures)

pub returns : goal.returns
returns c = book_says c.args.numbers.now _ _ _ c.in_ok-guest.ensures.cases.0 c.in_ok-choices.ensures

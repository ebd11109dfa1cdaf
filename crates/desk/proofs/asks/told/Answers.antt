use Rattle.std.proofs.Common.{refl, subst, sym, ap}
use Rattle.desk.specs.Replies.{Shown}
use Rattle.desk.specs.declared.reply.Reply.TheVariants.{Line}
use Rattle.replica.specs.Views.{state_of}
use Rattle.desk.proofs.asks.told.Goals as goal

pub returns-in-Have : goal.returns-in-Have
returns-in-Have c =
    let had = c.have.ensures in
    subst (λ command. Shown (state_of c.args.replica.now) command (Line c.have.result)) (sym c.in-Have.is) (had.0, ap Line had.1, had.2)

pub returns-in_ok-served-in-Serve : goal.returns-in_ok-served-in-Serve
returns-in_ok-served-in-Serve c =
    let answer = c.in_ok-served-in-Serve.field-0 in
    subst (λ command. Shown (state_of c.args.replica.now) command (Line answer)) (sym c.in-Serve.is)
    (answer, refl, c.in_ok-served-in-Serve.ensures)

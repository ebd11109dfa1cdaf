use Rattle.std.proofs.Common.{◌≡◌, rules, subst}
use Rattle.console.specs.Hexes.{bytes_of}
use Rattle.journal.specs.Finding.{FindsOf}
use Rattle.network.specs.Taking.{take_bytes}
use Rattle.desk.proofs.Resting.{only_fails, passed_on}
use Rattle.desk.proofs.asks.hear.Goals as goal

pub returns-in_err-hear-clause-keeps : goal.returns-in_err-hear-clause-keeps
returns-in_err-hear-clause-keeps g c = λ k kept.
    let e = c.in_err-hear.field-0.0 in
    let typed : c.bytes.result.now ≡ bytes_of c.args.letter.digits.now = search rules in
    passed_on c.from_residual.result e _ _ c.from_residual.ensures.1
    (only_fails (g.D.Desk.keeps c.hear.new.self) k k _ _ _ e c.in_err-hear.ensures.answer (c.in_err-hear.ensures.keeps k kept)
    (λ f. subst (λ bs. FindsOf (g.D.Desk.finds c.hear.new.self) (take_bytes bs k)) typed f))

use Rattle.std.proofs.Common.{sym, refl, ap, ◌∙◌}
use Rattle.replica.specs.Model.{serves, slip_after}
use Rattle.replica.specs.Views.{state_of}
use Rattle.desk.proofs.answers.served.Goals as goal

pub returns : goal.returns
returns c =
    let s = state_of c.args.replica.now in
    let fit = c.in_ok-slip.ensures in
    let done = c.in_ok-after.ensures in
    let noted = done.1 ∙ ap (λ v. slip_after v s) fit.1 in
    (fit.0, sym (ap (λ v. serves v s) fit.1) ∙ done.0, (c.in_ok-after.after, refl, noted))

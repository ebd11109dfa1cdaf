use Rattle.std.proofs.Common.{refl, rules, vec_items, sym, ap, ◌∙◌}
use Rattle.bookings.specs.Plain.{plain_kind}
use Rattle.journal.specs.History.{synced, makes}
use Rattle.replica.specs.Model.{make_refusal, next_mark}
use Rattle.network.proofs.Stages.{state_here, turned, turned_back, handed_on, makes_steady}
use Rattle.network.proofs.stage.Stage.make.Goals as goal

pub returns-in_err-make-clause-kept : goal.returns-in_err-make-clause-kept
returns-in_err-make-clause-kept c =
    handed_on _ _ _ c.args.at c.from_residual.result c.in_err-make.field-0.0 c.from_residual.ensures.1
    (turned_back (vec_items c.args.self.now.keepers) c.args.at c.index_mut.result.now c.make.new.self (search rules) c.index_mut.ensures.value c.make.ensures.room _ c.in_err-make.field-0.0 c.in_err-make.ensures.kept c.in_err-make.ensures.sure)

pub returns-clause-answer : goal.returns-clause-answer
returns-clause-answer c =
    let here = state_here (vec_items c.args.self.now.keepers) c.args.at c.index_mut.result.now (search rules) c.index_mut.ensures.value in
    let told = c.in_ok-make.ensures.answer in
    (c.in_ok-make.field-0, refl, ap (make_refusal (plain_kind c.args.kind)) here ∙ told.0, told.1 ∙ ap next_mark (sym here))

pub returns-clause-kept : goal.returns-clause-kept
returns-clause-kept c =
    turned (vec_items c.args.self.now.keepers) c.args.at c.index_mut.result.now c.make.new.self (search rules) c.index_mut.ensures.value c.make.ensures.room
    (λ k. synced (makes (plain_kind c.args.kind) k)) (makes_steady (plain_kind c.args.kind)) c.in_ok-make.ensures.kept

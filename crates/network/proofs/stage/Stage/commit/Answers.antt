use Rattle.std.proofs.Common.{refl, rules, vec_items, sym, ap, ◌∙◌}
use Rattle.entry_log.specs.Logs.{first_mark}
use Rattle.replica.specs.Model.{State, is_primary}
use Rattle.journal.specs.Keeping.{InMemory}
use Rattle.network.specs.Effects.{commits_synced}
use Rattle.network.proofs.Effects.{commit_moves, commits_synced_steady}
use Rattle.network.proofs.Stages.{state_here, turned, turned_back, handed_on}
use Rattle.network.proofs.stage.Stage.commit.Goals as goal

pub returns-in_err-commit-clause-kept : goal.returns-in_err-commit-clause-kept
returns-in_err-commit-clause-kept c =
    handed_on _ _ _ c.args.at c.from_residual.result c.in_err-commit.field-0.0 c.from_residual.ensures.1
    (turned_back (vec_items c.args.self.now.keepers) c.args.at c.index_mut.result.now c.commit.new.self (search rules) c.index_mut.ensures.value c.commit.ensures.room _ c.in_err-commit.field-0.0 c.in_err-commit.ensures.kept c.in_err-commit.ensures.sure)

pub returns-clause-answer : goal.returns-clause-answer
returns-clause-answer c =
    let here = state_here (vec_items c.args.self.now.keepers) c.args.at c.index_mut.result.now (search rules) c.index_mut.ensures.value in
    let told = c.in_ok-commit.ensures.answer in
    (c.in_ok-commit.field-0, refl, ap is_primary here ∙ told.0, told.1 ∙ ap (λ (s : State). first_mark s.log.tentative) (sym here))

pub returns-clause-kept : goal.returns-clause-kept
returns-clause-kept c =
    let q = c.index_mut.result.now in
    turned (vec_items c.args.self.now.keepers) c.args.at q c.commit.new.self (search rules) c.index_mut.ensures.value c.commit.ensures.room commits_synced commits_synced_steady
    (commit_moves InMemory q c.commit.new.self c.in_ok-commit.field-0 c.in_ok-commit.ensures.answer.1 c.in_ok-commit.ensures.kept)

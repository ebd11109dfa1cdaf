use Rattle.std.proofs.Common.{◌≡◌, refl, rules, vec_items, sym, ap, ◌∙◌}
use Rattle.std.proofs.lemmas.Result.{err_from_is_err_and}
use Rattle.std.proofs.lemmas.Option.{MatchOption-at_some}
use Rattle.journal.specs.History.{synced}
use Rattle.replica.specs.Model.{serves, slip_after}
use Rattle.replica.specs.Views.{state_of}
use Rattle.network.specs.Stages.{state_at}
use Rattle.network.proofs.Stages.{state_here, turned}
use Rattle.network.proofs.stage.Stage.visit.Goals as goal

pub returns-in_err-serve-clause-kept : goal.returns-in_err-serve-clause-kept
returns-in_err-serve-clause-kept c =
    let p = err_from_is_err_and c.from_residual-in_err-serve.result c.from_residual-in_err-serve.ensures.1 in
    rw (p.1, p.2) (turned (vec_items c.args.self.now.keepers) c.args.at c.index_mut-keeper.result.now c.sync.new.self (search rules) c.index_mut-keeper.ensures.value c.sync.ensures.room synced (λ k. refl) c.in_ok-sync.ensures.kept)

pub returns-clause-answer : goal.returns-clause-answer
returns-clause-answer c =
    let qs = vec_items c.args.self.now.keepers in
    let shown = (MatchOption-at_some _ _ _ c.in_ok-replica.ensures.ok_part c.shown.ensures).0 in
    let same : state_of c.in_ok-replica.replica.now ≡ state_at qs c.args.at =
    ap state_of (shown ∙ c.in_ok-sync.ensures.replica) ∙ sym (state_here qs c.args.at c.index_mut-keeper.result.now (search rules) c.index_mut-keeper.ensures.value)
    in (
      c.in_ok-serve.field-0,
      refl,
      ap (serves c.args.slip.stamps) (sym same) ∙ c.in_ok-serve.ensures.0,
      c.in_ok-serve.ensures.1 ∙ ap (slip_after c.args.slip.stamps) same,
    )

pub returns-clause-kept : goal.returns-clause-kept
returns-clause-kept c = turned (vec_items c.args.self.now.keepers) c.args.at c.index_mut-keeper.result.now c.sync.new.self (search rules) c.index_mut-keeper.ensures.value c.sync.ensures.room synced (λ k. refl) c.in_ok-sync.ensures.kept

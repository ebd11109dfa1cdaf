use Rattle.network.specs.Effects.{commits_synced}
use Rattle.desk.proofs.Resting.{found_committed, only_fails, passed_on}
use Rattle.desk.proofs.asks.commit.Goals as goal

pub returns-in_err-sync-clause-keeps : goal.returns-in_err-sync-clause-keeps
returns-in_err-sync-clause-keeps g c = λ k kept.
    let e = c.in_err-sync.field-0.0 in
    passed_on c.from_residual-in_err-sync.result e _ _ c.from_residual-in_err-sync.ensures.1
    (only_fails (g.D.Desk.keeps c.sync.new.self) (commits_synced k) k _ _ _ e c.in_err-sync.ensures.answer
    (c.in_err-sync.ensures.keeps (commits_synced k) (c.in_ok-first.ensures.keeps k kept))
    (found_committed (g.D.Desk.finds c.sync.new.self) k))

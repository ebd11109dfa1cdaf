use Rattle.std.proofs.Common.{refl, rules, vec_items}
use Rattle.journal.specs.History.{synced}
use Rattle.network.proofs.Stages.{turned}
use Rattle.network.proofs.stage.Stage.sync.Goals as goal

pub returns-clause-kept : goal.returns-clause-kept
returns-clause-kept c = turned (vec_items c.args.self.now.keepers) c.args.at c.index_mut.result.now c.sync.new.self (search rules) c.index_mut.ensures.value c.sync.ensures.room synced (λ k. refl) c.in_ok-sync.ensures.kept

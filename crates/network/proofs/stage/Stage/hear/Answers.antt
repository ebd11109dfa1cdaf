use Rattle.std.proofs.Common.{rules, vec_items}
use Rattle.network.specs.Taking.{take_bytes}
use Rattle.network.proofs.Stages.{turned, heard_steady}
use Rattle.network.proofs.stage.Stage.hear.Goals as goal

pub returns-clause-kept : goal.returns-clause-kept
returns-clause-kept c =
    turned (vec_items c.args.self.now.keepers) c.args.at c.index_mut.result.now c.take.new.keeper (search rules) c.index_mut.ensures.value c.take.ensures.room (take_bytes c.args.bytes.now) (heard_steady c.args.bytes.now) c.in_ok-take.ensures.kept

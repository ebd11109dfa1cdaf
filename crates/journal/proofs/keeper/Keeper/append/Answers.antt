use Rattle.std.proofs.Common.{arith}
use Rattle.journal.specs.Views.{plain_record}
use Rattle.journal.proofs.RecordForms.{record_small, record_ranged}
use Rattle.journal.proofs.keeper.Keeper.append.Goals as goal

pub write-requires : goal.write-requires
write-requires g c =
    omega (arith, record_small (plain_record c.args.record.now) (record_ranged c.args.record.now), c.clear.ensures.len, c.clear.ensures.capacity, c.args.self.now.room)

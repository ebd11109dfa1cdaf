use Rattle.std.proofs.Common.{rules}
use Rattle.entry_log.proofs.Rooms.{rotated_first}
use Rattle.entry_log.proofs.room.put_first.Goals as goal

pub returns : goal.returns
returns c = search (rules, rotated_first)

use Rattle.entry_log.proofs.Rooms.{moved_is}
use Rattle.entry_log.proofs.room.move_to.Goals as goal

pub returns : goal.returns
returns c = moved_is c.args.entries.now c.put_first.new.part c.args.place c.args.last c.args.entry c.requires.order c.requires.within c.put_first.ensures

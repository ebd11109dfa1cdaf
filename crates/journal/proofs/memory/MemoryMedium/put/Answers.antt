use Rattle.std.proofs.Common.{vec_items, refl, rules, arith}
use Rattle.journal.proofs.Finding.{first_synced, synced_first}
use Rattle.journal.proofs.Parts.{first_stays}
use Rattle.journal.proofs.memory.MemoryMedium.put.Goals as goal

pub returns : goal.returns
returns c = record {
  holds = λ bs n t e. (search rules, e.1);
  finds = λ bs n t e. search rules;
  lasts = λ bs first.
      let was = c.args.self.now in
      let stayed = first_synced bs (vec_items was.held) was.settled (omega (arith, was.within)) first in
      synced_first bs _ _ stayed.0 (first_stays bs (vec_items was.held) c.args.more.now _ (omega (arith, stayed.0, was.within)) (search rules) stayed.1);
  room = c.extend_from_slice.ensures.capacity;
  sure = λ bs n e h. refl;
}

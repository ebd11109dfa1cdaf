use Rattle.std.proofs.Common.{vec_items, refl, arith, rules}
use Rattle.journal.proofs.Finding.{first_synced, synced_first}
use Rattle.journal.proofs.Parts.{first_of_cut}
use Rattle.journal.proofs.memory.MemoryMedium.cut.Goals as goal

pub returns : goal.returns
returns c = record {
  holds = λ bs n t h e. (search rules, omega arith);
  finds = λ bs n t h e. search rules;
  lasts = λ bs h first.
      let was = c.args.self.now in
      let stayed = first_synced bs (vec_items was.held) was.settled (omega (arith, was.within)) first in
      synced_first bs _ _ (omega (arith, stayed.0, h)) (first_of_cut bs (vec_items was.held) _ c.args.left h c.truncate.ensures.items stayed.1);
  room = omega (arith, c.truncate.ensures.capacity);
  sure = λ h. refl;
}

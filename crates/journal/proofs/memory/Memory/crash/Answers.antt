use Rattle.std.proofs.Common.{◌+◌, vec_items, refl, arith, rules}
use Rattle.journal.proofs.Parts.{take_capped}
use Rattle.journal.proofs.memory.Memory.crash.Goals as goal

pub returns : goal.returns
returns c = record {
  held =
      let e = take_capped (c.args.self.now.settled + c.args.kept) 18446744073709551615 (vec_items c.args.self.now.held) (search rules) in cc;
  settled = refl;
  found =
      let e = take_capped (c.args.self.now.settled + c.args.kept) 18446744073709551615 (vec_items c.args.self.now.held) (search rules) in
      (c.args.self.now.settled + c.args.kept, omega arith, cc);
  room = c.truncate.ensures.capacity;
}

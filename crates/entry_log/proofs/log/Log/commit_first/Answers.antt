use Rattle.std.proofs.Common.{map, vec_items}
use Rattle.bookings.specs.Plain.{plain}
use Rattle.entry_log.proofs.Settling.{next_ascends, next_committed_lem}
use Rattle.entry_log.proofs.Views.{first_there}
use Rattle.entry_log.proofs.log.Log.commit_first.Goals as goal

pub invariant_of-self-clause-sorted : goal.invariant_of-self-clause-sorted
invariant_of-self-clause-sorted c =
    let was = c.args.self.now in
    let e = c.in_ok-mark.field-0.now in
    let there = first_there c.tentative_part.result.now (map plain (vec_items was.entries)) was.committed e c.tentative_part.ensures c.in_ok-mark.ensures.item.3.0 (c.in_ok-mark.ensures.item.3.1 e) in
    next_ascends _ was.committed (plain e) there.0 there.1 was.sorted

pub returns-clause-log : goal.returns-clause-log
returns-clause-log c =
    let was = c.args.self.now in
    let e = c.in_ok-mark.field-0.now in
    let xs = map plain (vec_items was.entries) in
    let there = first_there c.tentative_part.result.now xs was.committed e c.tentative_part.ensures c.in_ok-mark.ensures.item.3.0 (c.in_ok-mark.ensures.item.3.1 e) in
    next_committed_lem xs was.committed (plain e) there.0 there.1 was.once

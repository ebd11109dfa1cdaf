use Rattle.std.proofs.Common.{◌≡◌, true, sym, refl, rules}
use Rattle.bookings.specs.Plain.{plain, plain_mark}
use Rattle.entry_log.proofs.Putting.{has_parts, has_second}
use Rattle.entry_log.specs.Logs.{has}
use Rattle.entry_log.specs.Views.{log_in}
use Rattle.replica.proofs.Committing.{first_known, first_uncommitted}
use Rattle.replica.proofs.Taking.{log_once}
use Rattle.replica.proofs.replica.Replica.take_committed.Goals as goal
use Rattle.replica.proofs.replica.Replica.take_committed.Goals.{Then-knows, Else-knows}

-- it is not committed, and where it is known it is tentative
tentative : (c : Then-knows) → has (plain_mark c.args.entry.mark) (log_in c.args.self.now.log).tentative ≡ true
tentative c =
    let l = log_in c.args.self.now.log in
    has_second (plain_mark c.args.entry.mark) l.committed l.tentative (sym c.if-knows.ensures) (sym c.if-has_committed.ensures)

pub settle_known-requires : goal.settle_known-requires
settle_known-requires c = record { new = sym c.if-has_committed.ensures; known = tentative (goal.at.settle_known-requires c).Then-knows }

pub returns-then-knows : goal.returns-then-knows
returns-then-knows c = let there = tentative (goal.at.returns-then-knows c).Then-knows in search rules

pub returns-then-has_no_room : goal.returns-then-has_no_room
returns-then-has_no_room c =
    let l = log_in c.args.self.now.log in
    let new = (has_parts (plain_mark c.args.entry.mark) l.committed l.tentative (sym c.if-knows.ensures)).1 in
    search rules

pub returns-then-is_next : goal.returns-then-is_next
returns-then-is_next c =
    let l = log_in c.args.self.now.log in
    let first = c.is_next.ensures.sound c.if-is_next.true in
    let there = first_known l l.tentative (plain c.args.entry) refl first in
    let old = first_uncommitted l (plain c.args.entry) first (log_once c.args.self.now.log) in
    search rules

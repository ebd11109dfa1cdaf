use Rattle.std.proofs.Common.{sym, ap, ◌+◌, ◌∙◌, length}
use Rattle.bookings.specs.Plain.{plain_mark}
use Rattle.entry_log.proofs.Places.{parts_sorted, spot_far, spot_near}
use Rattle.entry_log.proofs.order.spot_of.Goals as goal

pub is_behind-requires-2 : goal.is_behind-requires-2
is_behind-requires-2 c =
    (parts_sorted (plain_mark c.args.mark.now) c.args.part.now c.split_at.result.0.now c.split_at.result.1.now c.split_at.ensures.by_index.0 c.requires).0

pub halve_to-requires : goal.halve_to-requires
halve_to-requires c =
    (parts_sorted (plain_mark c.args.mark.now) c.args.part.now c.split_at.result.0.now c.split_at.result.1.now c.split_at.ensures.by_index.0 c.requires).1

pub halve_to-requires-else-is_behind-2 : goal.halve_to-requires-else-is_behind-2
halve_to-requires-else-is_behind-2 c =
    (parts_sorted (plain_mark c.args.mark.now) c.args.part.now c.split_at.result.0.now c.split_at.result.1.now c.split_at.ensures.by_index.0 c.requires).0

pub returns-then-is_behind-2 : goal.returns-then-is_behind-2
returns-then-is_behind-2 c =
    ap (λ n. length c.split_at.result.0.now + n) c.halve_to.ensures.value
    ∙ spot_near (plain_mark c.args.mark.now) c.args.part.now c.split_at.result.0.now c.split_at.result.1.now c.split_at.ensures.by_index.0
    (sym c.is_behind-2.ensures ∙ c.if-is_behind-2.true)

pub returns-else-is_behind-2 : goal.returns-else-is_behind-2
returns-else-is_behind-2 c =
    c.halve_to-else-is_behind-2.ensures.value
    ∙ spot_far (plain_mark c.args.mark.now) c.args.part.now c.split_at.result.0.now c.split_at.result.1.now c.split_at.ensures.by_index.0
    (sym c.is_behind-2.ensures ∙ c.if-is_behind-2.false)

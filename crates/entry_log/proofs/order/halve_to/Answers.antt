use Rattle.std.proofs.Common.{not, rules}
use Rattle.std.proofs.lemmas.List.Sorted.{IsPartitionPoint-from_clause}
use Rattle.bookings.specs.Plain.{plain_mark}
use Rattle.entry_log.specs.Order.{before}
use Rattle.entry_log.proofs.Places.{partitioned, spot_point}
use Rattle.entry_log.proofs.order.halve_to.Goals as goal

pub returns-clause-value : goal.returns-clause-value
returns-clause-value c =
    let m = plain_mark c.args.mark.now in
    let point =
    IsPartitionPoint-from_clause (λ e. not (before m (plain_mark e.mark))) c.args.part.now c.partition_point.result c.partition_point.ensures.partitioned
    (λ i j d. partitioned m c.args.part.now i j d c.requires) (λ a r f called. search rules) in
    spot_point m c.args.part.now c.partition_point.result c.requires c.partition_point.ensures.bound point.0 point.1

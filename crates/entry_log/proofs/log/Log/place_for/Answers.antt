use Rattle.std.proofs.Common.{◌≡◌, ◌+◌, ◌-◌, ◌≤◌, map, length, drop, vec_items, vec_len, ap, ◌∙◌, arith, length-drop, rules}
use lib.ListN.{length-map}
use Rattle.bookings.specs.Plain.{plain, plain_mark}
use Rattle.entry_log.specs.Logs.{spot}
use Rattle.entry_log.specs.Order.{ascends}
use Rattle.entry_log.proofs.Marks.{spot_within}
use Rattle.entry_log.proofs.log.Log.place_for.Goals as goal
use Rattle.entry_log.proofs.log.Log.place_for.Goals.{After-spot_of}

pub spot_of-requires : goal.spot_of-requires
spot_of-requires c = ap ascends c.tentative_part.ensures ∙ c.args.self.now.sorted

found : (c : After-spot_of) → c.spot_of.result ≡ spot (plain_mark c.args.mark.now) (drop c.args.self.now.committed (map plain (vec_items c.args.self.now.entries)))
found c = c.spot_of.ensures ∙ ap (spot (plain_mark c.args.mark.now)) c.tentative_part.ensures

within : (c : After-spot_of) → c.args.self.now.committed + c.spot_of.result ≤ vec_len c.args.self.now.entries
within c =
    let was = c.args.self.now in
    let long : length (drop was.committed (map plain (vec_items was.entries))) ≡ length (vec_items was.entries) - was.committed = simp (length-drop, length-map) (omega arith) in
    omega (arith, found c, spot_within (plain_mark c.args.mark.now) (drop was.committed (map plain (vec_items was.entries))), was.entries.ok.0, was.within)

pub overflow_add-result : goal.overflow_add-result
overflow_add-result c = let low = within c in search rules

pub returns : goal.returns
returns c = record { value = ap (λ n. c.args.self.now.committed + n) (found c); within = within c }

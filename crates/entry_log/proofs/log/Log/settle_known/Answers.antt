use Rattle.std.proofs.Common.{◌≡◌, ◌+◌, ◌<◌, ◌≤◌, [], ◌∷◌, ◌++◌, map, length, take, drop, vec_items, ap, ◌∙◌, arith, rules}
use lib.ListN.{length-map}
use Rattle.std.proofs.lemmas.List.{with_items_is}
use Rattle.std.specs.Vec.{with_items}
use Rattle.bookings.specs.Plain.{plain}
use Rattle.entry_log.specs.Logs.{without}
use Rattle.entry_log.specs.Order.{ascends}
use Rattle.entry_log.specs.Room.{moved_to}
use Rattle.entry_log.proofs.Putting.{without-ascends}
use Rattle.entry_log.proofs.Settling.{map_moved, moved_committed, moved_tentative, parts_once}
use Rattle.entry_log.proofs.log.Log.settle_known.Goals as goal
use Rattle.entry_log.proofs.log.Log.settle_known.Goals.{After-move_to}

module _ (c : After-move_to) where
  -- the entries after the move
  after : map plain (with_items c.args.self.now.entries c.move_to.new.entries).items ≡ moved_to (map plain (vec_items c.args.self.now.entries)) c.args.self.now.committed c.args.last (plain c.args.entry)
  after =
      let was = c.args.self.now in
      let long : length c.move_to.new.entries ≡ was.entries.len = search rules in
      ap (map plain) (with_items_is was.entries c.move_to.new.entries long ∙ c.move_to.ensures ∙ ap (λ l. moved_to l was.committed c.args.last c.args.entry) c.as_mut_slice.ensures.value)
      ∙ map_moved plain (vec_items was.entries) was.committed c.args.last c.args.entry

  within : c.args.self.now.committed ≤ length (map plain (vec_items c.args.self.now.entries))
  within = simp length-map (search rules)

  there : c.args.last < length (map plain (vec_items c.args.self.now.entries))
  there = simp length-map (search rules)

  front :
      take (c.args.self.now.committed + 1) (map plain (with_items c.args.self.now.entries c.move_to.new.entries).items)
      ≡ take c.args.self.now.committed (map plain (vec_items c.args.self.now.entries)) ++ plain c.args.entry ∷ []
  front = ap (take (c.args.self.now.committed + 1)) after ∙ moved_committed _ c.args.self.now.committed (plain c.args.entry) within c.args.last

  back :
      drop (c.args.self.now.committed + 1) (map plain (with_items c.args.self.now.entries c.move_to.new.entries).items)
      ≡ without (plain c.args.entry).mark (drop c.args.self.now.committed (map plain (vec_items c.args.self.now.entries)))
  back =
      ap (drop (c.args.self.now.committed + 1)) after
      ∙ moved_tentative _ c.args.self.now.committed (plain c.args.entry) within c.args.last c.requires.tentative there c.args.self.now.once c.requires.there

pub invariant_of-self : goal.invariant_of-self
invariant_of-self c =
    let was = c.args.self.now in
    let at = (goal.at.invariant_of-self c).After-move_to in record {
      within = omega (arith, c.requires.tentative, c.requires.within);
      sorted = ap ascends (back at) ∙ without-ascends (plain c.args.entry).mark _ was.sorted;
      once = parts_once (map plain (vec_items was.entries)) was.committed (plain c.args.entry) (within at) _ (front at) (back at) was.once c.requires.new;
      room = was.room;
    }

pub returns : goal.returns
returns c =
    let was = c.args.self.now in
    let at = (goal.at.returns c).After-move_to in
    ap (λ l. record { committed = l; tentative = drop (was.committed + 1) (map plain (with_items was.entries c.move_to.new.entries).items) }) (front at)
    ∙ ap (λ l. record { committed = take was.committed (map plain (vec_items was.entries)) ++ plain c.args.entry ∷ []; tentative = l }) (back at)

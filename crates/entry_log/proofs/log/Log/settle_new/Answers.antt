use Rattle.std.proofs.Common.{◌≡◌, ◌+◌, ◌≤◌, false, [], ◌∷◌, ◌++◌, map, length, take, drop, vec_items, vec_len, sym, ap, ◌∙◌, arith, rules}
use lib.ListN.{length-map}
use Rattle.std.proofs.lemmas.List.Edits.{length-insert}
use Rattle.std.proofs.lemmas.List.{take-append-drop}
use Rattle.std.specs.List.{insert}
use Rattle.bookings.specs.Plain.{plain}
use Rattle.entry_log.specs.Logs.{has, without}
use Rattle.entry_log.specs.Order.{ascends}
use Rattle.entry_log.proofs.Inserting.{map-inserted}
use Rattle.entry_log.proofs.Putting.{without-ascends, has-drop, has-take}
use Rattle.entry_log.proofs.Settling.{placed_committed, placed_tentative, parts_once}
use Rattle.entry_log.proofs.log.Log.settle_new.Goals as goal
use Rattle.entry_log.proofs.log.Log.settle_new.Goals.{After-insert_at}

module _ (c : After-insert_at) where
  after : map plain (vec_items c.insert_at.new.entries) ≡ insert (map plain (vec_items c.args.self.now.entries)) c.args.self.now.committed (plain c.args.entry)
  after = ap (map plain) c.insert_at.ensures.items ∙ map-inserted plain (vec_items c.args.self.now.entries) c.args.self.now.committed c.args.entry

  within : c.args.self.now.committed ≤ length (map plain (vec_items c.args.self.now.entries))
  within = simp length-map (search rules)

  new : has (plain c.args.entry).mark (map plain (vec_items c.args.self.now.entries)) ≡ false
  new = ap (has (plain c.args.entry).mark) (sym (take-append-drop c.args.self.now.committed (map plain (vec_items c.args.self.now.entries)))) ∙ c.requires.new

  front :
      take (c.args.self.now.committed + 1) (map plain (vec_items c.insert_at.new.entries))
      ≡ take c.args.self.now.committed (map plain (vec_items c.args.self.now.entries)) ++ plain c.args.entry ∷ []
  front = ap (take (c.args.self.now.committed + 1)) after ∙ placed_committed _ c.args.self.now.committed (plain c.args.entry) within

  back :
      drop (c.args.self.now.committed + 1) (map plain (vec_items c.insert_at.new.entries))
      ≡ without (plain c.args.entry).mark (drop c.args.self.now.committed (map plain (vec_items c.args.self.now.entries)))
  back =
      ap (drop (c.args.self.now.committed + 1)) after
      ∙ placed_tentative _ c.args.self.now.committed (plain c.args.entry) within (has-drop _ c.args.self.now.committed _ new)

  longer : vec_len c.insert_at.new.entries ≡ vec_len c.args.self.now.entries + 1
  longer =
      c.insert_at.new.entries.ok.0 ∙ ap length c.insert_at.ensures.items
      ∙ length-insert (vec_items c.args.self.now.entries) c.args.self.now.committed c.args.entry (search rules)
      ∙ ap (λ n. n + 1) (sym c.args.self.now.entries.ok.0)

pub invariant_of-self : goal.invariant_of-self
invariant_of-self c =
    let was = c.args.self.now in
    let at = (goal.at.invariant_of-self c).After-insert_at in
    let whole = ap length (take-append-drop was.committed (map plain (vec_items was.entries))) ∙ length-map (vec_items was.entries) plain in record {
      within = omega (arith, longer at, was.within);
      sorted = ap ascends (back at) ∙ without-ascends (plain c.args.entry).mark _ was.sorted;
      once = parts_once (map plain (vec_items was.entries)) was.committed (plain c.args.entry) (within at) _ (front at) (back at) was.once (has-take _ was.committed _ (new at));
      room = (omega (arith, longer at, c.requires.room, was.entries.ok.0), omega (arith, c.insert_at.ensures.capacity, was.room));
    }

pub returns : goal.returns
returns c =
    let was = c.args.self.now in
    let at = (goal.at.returns c).After-insert_at in
    ap (λ l. record { committed = l; tentative = drop (was.committed + 1) (map plain (vec_items c.insert_at.new.entries)) }) (front at)
    ∙ ap (λ l. record { committed = take was.committed (map plain (vec_items was.entries)) ++ plain c.args.entry ∷ []; tentative = l }) (back at)

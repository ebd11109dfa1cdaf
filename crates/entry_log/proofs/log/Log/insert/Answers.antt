use Rattle.std.proofs.Common.{◌≡◌, ◌+◌, ◌≤◌, false, map, length, take, drop, vec_items, vec_len, sym, ap, ◌∙◌, subst, arith}
use lib.ListN.{length-map}
use Rattle.std.proofs.lemmas.List.Edits.{length-insert}
use Rattle.std.proofs.lemmas.List.{take-append-drop}
use Rattle.std.specs.List.{insert}
use Rattle.bookings.specs.Plain.{plain}
use Rattle.entry_log.specs.Logs.{has, into}
use Rattle.entry_log.specs.Order.{ascends, Once}
use Rattle.entry_log.proofs.Inserting.{map-inserted, inserted-committed, inserted-tentative, inserted_once}
use Rattle.entry_log.proofs.Putting.{into-ascends, has-drop}
use Rattle.entry_log.proofs.log.Log.insert.Goals as goal
use Rattle.entry_log.proofs.log.Log.insert.Goals.{After-insert_at}

-- the log's entries with one more
after : (c : After-insert_at) → map plain (vec_items c.insert_at.new.entries) ≡ insert (map plain (vec_items c.args.self.now.entries)) c.place_for-place.result (plain c.args.entry)
after c = ap (map plain) c.insert_at.ensures.items ∙ map-inserted plain (vec_items c.args.self.now.entries) c.place_for-place.result c.args.entry

module _ (c : After-insert_at) where
  within : c.args.self.now.committed ≤ length (map plain (vec_items c.args.self.now.entries))
  within = simp length-map (omega (arith, c.args.self.now.within, c.args.self.now.entries.ok.0))

  fits : c.place_for-place.result ≤ length (map plain (vec_items c.args.self.now.entries))
  fits = simp length-map (omega (arith, c.place_for-place.ensures.within, c.args.self.now.entries.ok.0))

  new : has (plain c.args.entry).mark (map plain (vec_items c.args.self.now.entries)) ≡ false
  new = ap (has (plain c.args.entry).mark) (sym (take-append-drop c.args.self.now.committed (map plain (vec_items c.args.self.now.entries)))) ∙ c.requires.new

  first_part : take c.args.self.now.committed (map plain (vec_items c.insert_at.new.entries)) ≡ take c.args.self.now.committed (map plain (vec_items c.args.self.now.entries))
  first_part = ap (take c.args.self.now.committed) (after c) ∙ inserted-committed _ _ _ _ within c.place_for-place.ensures.value fits

  second_part :
      drop c.args.self.now.committed (map plain (vec_items c.insert_at.new.entries))
      ≡ into (plain c.args.entry) (drop c.args.self.now.committed (map plain (vec_items c.args.self.now.entries)))
  second_part = ap (drop c.args.self.now.committed) (after c) ∙ inserted-tentative _ _ _ _ within c.place_for-place.ensures.value fits

  longer : vec_len c.insert_at.new.entries ≡ vec_len c.args.self.now.entries + 1
  longer =
      c.insert_at.new.entries.ok.0 ∙ ap length c.insert_at.ensures.items
      ∙ length-insert (vec_items c.args.self.now.entries) c.place_for-place.result c.args.entry (omega (arith, c.place_for-place.ensures.within, c.args.self.now.entries.ok.0))
      ∙ ap (λ n. n + 1) (sym c.args.self.now.entries.ok.0)

pub invariant_of-self : goal.invariant_of-self
invariant_of-self c =
    let was = c.args.self.now in
    let whole = ap length (take-append-drop was.committed (map plain (vec_items was.entries))) ∙ length-map (vec_items was.entries) plain in
    let sorted = ap ascends (second_part c) ∙ into-ascends (plain c.args.entry) _ was.sorted (has-drop (plain c.args.entry).mark was.committed _ (new c)) in
    let once = subst Once (sym (after c)) (inserted_once _ _ _ _ (within c) c.place_for-place.ensures.value (fits c) was.once (new c)) in
    record {
      within = omega (arith, longer c, was.within);
      sorted = sorted;
      once = once;
      room = (omega (arith, longer c, c.requires.room, was.entries.ok.0), omega (arith, c.insert_at.ensures.capacity, was.room));
    }

pub returns-clause-log : goal.returns-clause-log
returns-clause-log c =
    let there = (goal.at.returns-clause-log c).After-insert_at in
    ap (λ l. record { committed = l; tentative = drop c.args.self.now.committed (map plain (vec_items c.insert_at.new.entries)) }) (first_part there)
    ∙ ap (λ l. record { committed = take c.args.self.now.committed (map plain (vec_items c.args.self.now.entries)); tentative = l }) (second_part there)

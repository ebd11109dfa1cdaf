use Rattle.std.proofs.Common.{◌<◌, ◌≤◌, map, length, vec_items, refl, ap, ◌∙◌, rules}
use lib.ListN.{length-map}
use Rattle.std.proofs.lemmas.List.{map_push}
use Rattle.std.proofs.lemmas.Bool.{le-leb, lt-leb}
use Rattle.entry_log.specs.Waits.{plain_waiting}
use Rattle.replica.proofs.parcel.fills.offer.Goals as goal

pub returns-then-len-room : goal.returns-then-len-room
returns-then-len-room c =
    let full : c.args.room ≤ length (map plain_waiting (vec_items c.args.out.now)) = simp length-map (search rules) in
    record { items = rw (le-leb c.args.room (length (map plain_waiting (vec_items c.args.out.now))) full) refl; capacity = refl }

pub returns : goal.returns
returns c =
    let some : length (map plain_waiting (vec_items c.args.out.now)) < c.args.room = simp length-map (search rules) in
    record {
      items =
          ap (map plain_waiting) c.push_reserved.ensures.items ∙ map_push plain_waiting (vec_items c.args.out.now) (record { entry = c.args.entry.now; stood = c.args.stood })
          ∙ rw (lt-leb c.args.room (length (map plain_waiting (vec_items c.args.out.now))) some, ← c.if-reaches.ensures) refl;
      capacity = c.push_reserved.ensures.capacity;
    }

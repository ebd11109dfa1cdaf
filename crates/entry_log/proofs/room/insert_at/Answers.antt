use Rattle.std.proofs.Common.{◌≡◌, [], ◌∷◌, ◌++◌, length, vec_items, ap, ◌∙◌, rules}
use Rattle.std.proofs.lemmas.List.{with_items_is}
use Rattle.entry_log.specs.Room.{moved_to}
use Rattle.entry_log.proofs.Rooms.{moved_last}
use Rattle.entry_log.proofs.room.insert_at.Goals as goal

pub returns : goal.returns
returns c =
    let was = c.args.entries.now in
    let long : length c.move_to.new.entries ≡ c.push_reserved.new.self.len = search rules in
    let last : c.len-last.result ≡ length (vec_items was) = search rules in
    record {
      items =
          with_items_is c.push_reserved.new.self c.move_to.new.entries long ∙ c.move_to.ensures
          ∙ ap (λ l. moved_to l c.args.place c.len-last.result c.args.entry) (c.as_mut_slice.ensures.value ∙ c.push_reserved.ensures.items)
          ∙ ap (λ n. moved_to (vec_items was ++ c.args.entry ∷ []) c.args.place n c.args.entry) last
          ∙ moved_last (vec_items was) c.args.place c.args.entry (search rules);
      capacity = search rules;
    }

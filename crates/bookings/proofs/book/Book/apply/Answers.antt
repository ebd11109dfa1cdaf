use Rattle.std.proofs.Common.{◌≡◌, [], ◌∷◌, ◌++◌, map, length, vec_items, sym, ap, ◌∙◌, rules}
use lib.ListN.{length-map}
use Rattle.std.proofs.lemmas.List.{with_items_is, map_push}
use Rattle.std.specs.Vec.{with_items}
use Rattle.bookings.specs.Books.{Effect, does}
use Rattle.bookings.specs.Outcomes.{plain_outcome}
use Rattle.bookings.specs.Plain.{plain, plain_mark, plain_kind}
use Rattle.bookings.specs.Views.{book_in}
use Rattle.bookings.proofs.Ranged.{in_range}
use Rattle.bookings.proofs.Reach.{reached_sound, reached_covered, reached_few, reached_does}
use Rattle.bookings.proofs.Whole.{entered_is, same_book}
use Rattle.bookings.proofs.book.Book.apply.Goals as goal
use Rattle.bookings.proofs.book.Book.apply.Goals.{After-push_reserved-2}

pub carry_out-own-requires : goal.carry_out-own-requires
carry_out-own-requires c =
    let b = book_in c.args.self.now in
    let reached = c.args.self.now.reached in
    let sound = reached_sound b reached in
    let paired = simp length-map at sound.1 in
    record {
      long_beds = ap length c.as_mut_slice.ensures.value ∙ sound.0.long_beds;
      long = ap length c.as_mut_slice-2.ensures.value ∙ sound.0.long_booked;
      paired = ap length c.as_slice.ensures.value ∙ paired ∙ sym (ap length c.as_mut_slice-3.ensures.value);
      covered = rw (c.as_mut_slice-2.ensures.value, c.as_mut_slice-3.ensures.value) (reached_covered b reached);
      few = rw c.as_mut_slice-2.ensures.value (reached_few b reached);
    }

pub push_reserved-requires-2 : goal.push_reserved-requires-2
push_reserved-requires-2 c =
    let paired = simp length-map at (reached_sound (book_in c.args.self.now) c.args.self.now.reached).1 in
    search rules

-- the book as it stands once the entry's mark and outcome are put behind
done :
    (c : After-push_reserved-2)
    → record { beds = (with_items c.args.self.now.beds c.carry_out-own.new.beds).items; booked = (with_items c.args.self.now.booked c.carry_out-own.new.booked).items; marks = map plain_mark (vec_items c.push_reserved.new.self); outcomes = map plain_outcome (vec_items c.push_reserved-2.new.self) }
    ≡ does (plain c.args.entry.now) (book_in c.args.self.now)
done c =
    let was = c.args.self.now in
    let own = c.carry_out-own.result in
    let entry = c.args.entry.now in
    let after : Effect = record { beds = c.carry_out-own.new.beds; booked = c.carry_out-own.new.booked; outcomes = map plain_outcome c.carry_out-own.new.outcomes; own = plain_outcome own } in
    let long_beds : length c.carry_out-own.new.beds ≡ was.beds.len = search rules in
    let long_booked : length c.carry_out-own.new.booked ≡ was.booked.len = search rules in
    let long-outcomes : length c.carry_out-own.new.outcomes ≡ was.outcomes.len = search rules in
    let outcomes = with_items_is was.outcomes c.carry_out-own.new.outcomes long-outcomes in
    entered_is (book_in was) _ (plain_mark entry.mark) (plain_kind entry.kind) after _ _ _ _
    (same_book c.as_mut_slice.ensures.value c.as_mut_slice-2.ensures.value (ap (map plain_mark) c.as_slice.ensures.value) (ap (map plain_outcome) c.as_mut_slice-3.ensures.value))
    c.carry_out-own.ensures (with_items_is was.beds c.carry_out-own.new.beds long_beds) (with_items_is was.booked c.carry_out-own.new.booked long_booked)
    (ap (map plain_mark) c.push_reserved.ensures.items ∙ map_push plain_mark (vec_items was.marks) entry.mark)
    (ap (map plain_outcome) (c.push_reserved-2.ensures.items ∙ ap (λ l. l ++ own ∷ []) outcomes) ∙ map_push plain_outcome c.carry_out-own.new.outcomes own)

pub invariant_of-self-2 : goal.invariant_of-self-2
invariant_of-self-2 c =
    record {
      reached = reached_does (plain c.args.entry.now) (book_in c.args.self.now) _ (in_range c.args.entry.now) c.args.self.now.reached (done c);
      room = search rules;
    }

pub returns : goal.returns
returns c = (simp length-map (search rules), done (goal.at.returns c).After-push_reserved-2)

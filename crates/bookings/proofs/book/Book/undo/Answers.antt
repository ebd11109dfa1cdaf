use Rattle.std.proofs.Common.{◌≡◌, ◌-◌, ◌<◌, List, map, length, get_or, vec_items, vec_len, take, sym, refl, ap, ◌∙◌, subst, arith, rules, le-ltb, lt-ltb}
use lib.ListN.{length-map}
use Rattle.std.proofs.lemmas.List.{with_items_is, append-nil}
use Rattle.std.specs.Vec.{with_items}
use Rattle.bookings.specs.Outcomes.{nothing, plain_outcome}
use Rattle.bookings.specs.Plain.{PlainMark, plain_mark}
use Rattle.bookings.specs.Reached.{Reached}
use Rattle.bookings.specs.Undone.{undone}
use Rattle.bookings.specs.Views.{book_in}
use Rattle.bookings.proofs.Reach.{reached_sound, reached_covered, reached_few, reached_undone}
use Rattle.bookings.proofs.Undoing.{undone-does}
use Rattle.bookings.proofs.Whole.{same_book, same_rest, undone_is, covered_one, popped_last, popped_front, done_some}
use Rattle.bookings.proofs.book.Book.undo.Goals as goal
use Rattle.bookings.proofs.book.Book.undo.Goals.{In_default, In-Some, After-take_back}

-- nothing was there to take out
unchanged : (c : In_default) → record { beds = vec_items c.args.self.now.beds; booked = vec_items c.args.self.now.booked; marks = map plain_mark (vec_items c.args.self.now.marks); outcomes = map plain_outcome (vec_items c.pop.new.self) } ≡ book_in c.args.self.now
unchanged c = same_book refl refl refl (ap (map plain_outcome) (sym (c.in_default.ensures.items ∙ append-nil (vec_items c.pop.new.self))))

empty : (c : In_default) → length (book_in c.args.self.now).marks ≡ 0
empty c =
    let paired = (reached_sound (book_in c.args.self.now) c.args.self.now.reached).1 in
    paired ∙ length-map (vec_items c.args.self.now.outcomes) plain_outcome ∙ sym c.args.self.now.outcomes.ok.0 ∙ c.in_default.ensures.cases.0

pub invariant_of-self : goal.invariant_of-self
invariant_of-self c = record { reached = subst Reached (sym (unchanged c)) c.args.self.now.reached; room = search rules }

pub returns-in_default : goal.returns-in_default
returns-in_default c =
    let there = (goal.at.returns-in_default c).In_default in
    let none = empty there in
    record {
      test = sym (le-ltb 0 _ (omega arith));
      none = λ _. unchanged there;
      before = λ e b ok reached is. absurd (done_some e b (book_in c.args.self.now) is none);
    }

some_outcome : (c : In-Some) → 0 < vec_len c.args.self.now.outcomes
some_outcome c = omega (arith, c.in-Some.ensures.cases)

some_mark : (c : In-Some) → 0 < length (book_in c.args.self.now).marks
some_mark c =
    let some = some_outcome c in
    omega (arith, (reached_sound (book_in c.args.self.now) c.args.self.now.reached).1, length-map (vec_items c.args.self.now.outcomes) plain_outcome, c.args.self.now.outcomes.ok.0)

last_is : (c : In-Some) → plain_outcome c.in-Some.last ≡ get_or (book_in c.args.self.now).outcomes (length (book_in c.args.self.now).outcomes - 1) nothing
last_is c =
    popped_last plain_outcome (vec_items c.args.self.now.outcomes) (vec_len c.args.self.now.outcomes) c.in-Some.last nothing c.args.self.now.outcomes.ok.0 (some_outcome c) (c.in-Some.ensures.value c.in-Some.last (some_outcome c))

pub take_back-requires : goal.take_back-requires
take_back-requires c =
    let b = book_in c.args.self.now in
    let reached = c.args.self.now.reached in
    let sound = reached_sound b reached in
    record {
      long_beds = ap length c.as_mut_slice.ensures.value ∙ sound.0.long_beds;
      long = ap length c.as_mut_slice-2.ensures.value ∙ sound.0.long_booked;
      covered = rw c.as_mut_slice-2.ensures.value (covered_one b.booked b.outcomes _ (plain_outcome c.in-Some.last) (reached_covered b reached) (last_is (goal.at.take_back-requires c).In-Some));
      few = rw c.as_mut_slice-2.ensures.value (reached_few b reached);
    }

-- the book as it stands once the last entry is taken out and taken back, where the marks have lost their last
done :
    (c : After-take_back) (marks : List PlainMark)
    → marks ≡ take (length (book_in c.args.self.now).marks - 1) (book_in c.args.self.now).marks
    → record { beds = (with_items c.args.self.now.beds c.take_back.new.beds).items; booked = (with_items c.args.self.now.booked c.take_back.new.booked).items; marks = marks; outcomes = map plain_outcome (with_items c.pop.new.self c.take_back.new.outcomes).items }
    ≡ undone (book_in c.args.self.now)
done c marks marks_is =
    let was = c.args.self.now in
    let long_beds : length c.take_back.new.beds ≡ was.beds.len = search rules in
    let long_booked : length c.take_back.new.booked ≡ was.booked.len = search rules in
    let long-outcomes : length c.take_back.new.outcomes ≡ c.pop.new.self.len = search rules in
    let front = popped_front plain_outcome (vec_items was.outcomes) (vec_items c.pop.new.self) (vec_len was.outcomes) was.outcomes.ok.0 c.in-Some.ensures.rest in
    undone_is (book_in was) _ (record { beds = c.take_back.new.beds; booked = c.take_back.new.booked; outcomes = map plain_outcome c.take_back.new.outcomes }) (plain_outcome c.in-Some.last) _ _ _ _
    (same_rest c.as_mut_slice.ensures.value c.as_mut_slice-2.ensures.value (ap (map plain_outcome) c.as_mut_slice-3.ensures.value ∙ front))
    (last_is (goal.at.After-take_back c).In-Some) c.take_back.ensures
    (with_items_is was.beds c.take_back.new.beds long_beds) (with_items_is was.booked c.take_back.new.booked long_booked) marks_is
    (ap (map plain_outcome) (with_items_is c.pop.new.self c.take_back.new.outcomes long-outcomes))

pub invariant_of-self-2 : goal.invariant_of-self-2
invariant_of-self-2 c =
    let was = c.args.self.now in
    record {
      reached = subst Reached (sym (done (goal.at.invariant_of-self-2 c).After-take_back _ (popped_front plain_mark (vec_items was.marks) _ (vec_len was.marks) was.marks.ok.0 (search rules)))) (reached_undone (book_in was) was.reached (some_mark (goal.at.invariant_of-self-2 c).In-Some));
      room = search rules;
    }

pub returns : goal.returns
returns c =
    let was = c.args.self.now in
    let some = some_mark (goal.at.returns c).In-Some in
    record {
      test = sym (lt-ltb 0 _ some);
      none = λ none. absurd (omega arith);
      before = λ e b ok reached is.
          done (goal.at.returns c).After-take_back _ (popped_front plain_mark (vec_items was.marks) _ (vec_len was.marks) was.marks.ok.0 (search rules)) ∙ ap undone is ∙ undone-does e b ok (reached_sound b reached);
    }

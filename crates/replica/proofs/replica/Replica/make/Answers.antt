use Rattle.std.proofs.Common.{◌≡◌, ◌+◌, ◌<◌, leb, [], ◌∷◌, ◌++◌, length, sym, ap, ◌∙◌, arith}
use Rattle.std.proofs.lemmas.List.{length_push}
use Rattle.std.proofs.lemmas.Bool.{or_parts, leb-false}
use Rattle.bookings.specs.Plain.{PlainMark, plain, plain_mark}
use Rattle.bookings.specs.Views.{book_in}
use Rattle.bookings.specs.declared.book.TheConstants.{CAPACITY}
use Rattle.entry_log.specs.Logs.{all_of, top}
use Rattle.entry_log.specs.Vectors.{vector_of, noted}
use Rattle.entry_log.specs.Views.{log_in}
use Rattle.replica.proofs.Making.{above_new, made_last, top-push, vector_push}
use Rattle.replica.proofs.Stepped.{step_push}
use Rattle.replica.proofs.replica.Replica.make.Goals as goal
use Rattle.replica.proofs.replica.Replica.make.Goals.{In_ok-mark, After-with-self}
use Rattle.replica.specs.declared.head.TheConstants.{LAST_STAMP}

-- there is room, and the mark is above all
room : (c : In_ok-mark) → length (all_of (log_in c.args.self.now.log)) < CAPACITY
room c =
    let head = c.args.self.now.head in
    omega (arith, leb-false CAPACITY head.entries (or_parts (leb CAPACITY head.entries) (leb LAST_STAMP (head.top + 1)) c.in_ok-mark.ensures.0).0, c.args.self.now.headed.0)

above : (c : In_ok-mark) → top (all_of (log_in c.args.self.now.log)) < (plain_mark c.in_ok-mark.mark).stamp
above c = omega (arith, ap (λ (m : PlainMark). m.stamp) c.in_ok-mark.ensures.1, c.args.self.now.headed.1)

pub insert-requires : goal.insert-requires
insert-requires c =
    let there = (goal.at.insert-requires c).In_ok-mark in
    record { new = above_new (plain_mark c.in_ok-mark.mark) (all_of (log_in c.args.self.now.log)) (above there); room = room there }

-- the entry stands last
last : (c : After-with-self) → all_of (log_in c.insert.new.self) ≡ all_of (log_in c.args.self.now.log) ++ plain (record { mark = c.in_ok-mark.mark; kind = c.args.kind }) ∷ []
last c = ap all_of c.insert.ensures.log ∙ made_last _ (log_in c.args.self.now.log) (above (goal.at.After-with-self c).In_ok-mark)

pub invariant_of-self : goal.invariant_of-self
invariant_of-self c =
    let es = all_of (log_in c.args.self.now.log) in
    let e = plain (record { mark = c.in_ok-mark.mark; kind = c.args.kind }) in
    let head = c.args.self.now.headed in record {
      headed = (
        c.with-self.ensures.entries ∙ ap (λ n. n + 1) head.0 ∙ sym (ap length (last c) ∙ length_push es e),
        omega (arith, c.with-self.ensures.top, head.1, ap top (last c), top-push es e),
        c.with-self.ensures.seen ∙ ap (noted e.mark) head.2 ∙ sym (ap vector_of (last c) ∙ vector_push es e c.in_ok-mark.mark.hut_ok),
      );
      in_step = step_push c.apply.result (book_in c.args.self.now.book) (book_in c.apply.new.self) e es _ c.apply.ensures c.args.self.now.in_step (room (goal.at.invariant_of-self c).In_ok-mark) (last c);
    }

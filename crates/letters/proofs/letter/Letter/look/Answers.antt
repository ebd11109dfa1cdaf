use Rattle.std.proofs.Common.{◌≡◌, sym, subst, rules, arith, MatchResult}
use Rattle.bookings.specs.Refusals.{number_of}
use Rattle.letters.specs.Format.{reads}
use Rattle.letters.specs.Items.{unread, heard_of}
use Rattle.letters.specs.Letters.{Heard, damaged}
use Rattle.letters.proofs.Looking.{looked_stopped, looked_through}
use Rattle.letters.proofs.letter.Letter.look.Goals as goal

pub returns-then-out-gt0 : goal.returns-then-out-gt0
returns-then-out-gt0 c =
    rw c.new.ensures.count
    (looked_stopped c.args.reader.rest.now c.two.new.self.rest.now c.four.new.self.rest.now
    c.in_ok-count.count
    c.in_ok-place.place
    c.in_ok-committed.out
    c.from-2.result
    _
    (unread reads c.in_ok-committed.committed)
    (search rules)
    (search rules)
    (omega (arith, c.if-from-gt-MAX_LETTER_ENTRIES.false, c.from.ensures))
    c.in_ok-committed.ensures.ends
    c.if-out-gt0.true
    c.in_ok-committed.ensures.values
    (search rules))

pub returns : goal.returns
returns c =
    let e =
    looked_through c.args.reader.rest.now c.two.new.self.rest.now c.four.new.self.rest.now
    c.in_ok-count.count
    c.in_ok-place.place
    c.in_ok-committed.out
    c.from-2.result
    c.in_ok-committed.committed.count
    c.look.new.reader.rest.now
    (unread reads c.in_ok-committed.committed)
    (search rules)
    (search rules)
    (omega (arith, c.if-from-gt-MAX_LETTER_ENTRIES.false, c.from.ensures))
    c.in_ok-committed.ensures.ends
    c.if-out-gt0.false
    c.in_ok-committed.ensures.values
    (search rules)
    c.in_ok-committed.ensures.count in
    subst (λ (h : Heard). MatchResult c.look_on.result (λ l. h ≡ heard_of l) (λ e. (number_of e ≡ 1) × (h ≡ damaged))) (sym e) c.look_on.ensures

use Rattle.std.proofs.Common.{refl, rules}
use Rattle.console.specs.Hexes.{bytes_of}
use Rattle.network.specs.Mail.{none}
use Rattle.desk.proofs.Composing.{any_ok, guest_composes, line_composes}
use Rattle.desk.proofs.asks.ask.Goals as goal

pub returns-in-Take-clause-leaves : goal.returns-in-Take-clause-leaves
returns-in-Take-clause-leaves g c = λ k kept. rw c.in-Take.is (c.hear.ensures.keeps k kept)

pub returns-in-Take-clause-brings : goal.returns-in-Take-clause-brings
returns-in-Take-clause-brings g c = λ k kept. rw c.in-Take.is (c.hear.ensures.report k kept)

pub returns-in-Make-clause-network : goal.returns-in-Make-clause-network
returns-in-Make-clause-network g c = λ m i low kept honest.
    line_composes (g.D.Desk.keeps c.make.new.desk) (g.D.Desk.finds c.make.new.desk) (g.D.Desk.shut c.make.new.desk) m i c.args.command.now (bytes_of c.args.letter.digits.now) c.args.page.now.bytes.items
    (g.D.Desk.state c.args.desk.now) (g.D.Desk.state c.make.new.desk) c.make.result low (g.met.D.Desk.told_by c.args.desk.now (m.hut i) kept) honest
    (rw c.in-Make.is (c.make.ensures.keeps (m.hut i) kept)) (rw c.in-Make.is c.make.ensures.answer) (rw c.in-Make.is (any_ok c.make.result _ tt))

pub returns-in-Ink-clause-network : goal.returns-in-Ink-clause-network
returns-in-Ink-clause-network g c = λ m i low kept honest.
    line_composes (g.D.Desk.keeps c.commit.new.desk) (g.D.Desk.finds c.commit.new.desk) (g.D.Desk.shut c.commit.new.desk) m i c.args.command.now (bytes_of c.args.letter.digits.now) c.args.page.now.bytes.items
    (g.D.Desk.state c.args.desk.now) (g.D.Desk.state c.commit.new.desk) c.commit.result low (g.met.D.Desk.told_by c.args.desk.now (m.hut i) kept) honest
    (rw c.in-Ink.is (c.commit.ensures.keeps (m.hut i) kept)) (rw c.in-Ink.is c.commit.ensures.answer) (rw c.in-Ink.is (any_ok c.commit.result _ tt))

pub returns-in-Letter-clause-network : goal.returns-in-Letter-clause-network
returns-in-Letter-clause-network g c = λ m i low kept honest.
    line_composes (g.D.Desk.keeps c.write.new.desk) (g.D.Desk.finds c.write.new.desk) (g.D.Desk.shut c.write.new.desk) m i c.args.command.now (bytes_of c.args.letter.digits.now) c.write.new.page.bytes.items
    (g.D.Desk.state c.args.desk.now) (g.D.Desk.state c.write.new.desk) c.write.result low (g.met.D.Desk.told_by c.args.desk.now (m.hut i) kept) honest
    (rw c.in-Letter.is (c.write.ensures.keeps (m.hut i) kept)) (rw c.in-Letter.is c.write.ensures.answer) (rw c.in-Letter.is c.write.ensures.letter)

pub returns-in-Take-clause-network : goal.returns-in-Take-clause-network
returns-in-Take-clause-network g c = λ m i low kept honest.
    line_composes (g.D.Desk.keeps c.hear.new.desk) (g.D.Desk.finds c.hear.new.desk) (g.D.Desk.shut c.hear.new.desk) m i c.args.command.now (bytes_of c.args.letter.digits.now) c.hear.new.page.bytes.items
    (g.D.Desk.state c.args.desk.now) (g.D.Desk.state c.hear.new.desk) c.hear.result low (g.met.D.Desk.told_by c.args.desk.now (m.hut i) kept) honest
    (rw c.in-Take.is (c.hear.ensures.keeps (m.hut i) kept)) (rw c.in-Take.is c.hear.ensures.answer) (rw c.in-Take.is (any_ok c.hear.result _ tt))

pub returns-in-Make-clause-guests : goal.returns-in-Make-clause-guests
returns-in-Make-clause-guests g c = λ m guest i low kept for.
    guest_composes (g.D.Desk.keeps c.make.new.desk) (g.D.Desk.finds c.make.new.desk) (g.D.Desk.shut c.make.new.desk) m guest i c.args.command.now (bytes_of c.args.letter.digits.now) (g.D.Desk.state c.args.desk.now)
    (g.D.Desk.state c.make.new.desk) c.make.result low (g.met.D.Desk.told_by c.args.desk.now (m.hut i) kept) (g.met.D.Desk.told_by c.make.new.desk) for
    (rw c.in-Make.is (c.make.ensures.keeps (m.hut i) kept)) (rw c.in-Make.is c.make.ensures.answer)

pub returns-in-Help-clause-network : goal.returns-in-Help-clause-network
returns-in-Help-clause-network g c = λ m i low kept honest. rw c.in-Help.is (m, none, λ _ _. refl, refl, kept)

pub returns-in_default-clause-answer : goal.returns-in_default-clause-answer
returns-in_default-clause-answer g c = search rules

pub returns-in_default-clause-leaves : goal.returns-in_default-clause-leaves
returns-in_default-clause-leaves g c = search rules

pub returns-in_default-clause-writes : goal.returns-in_default-clause-writes
returns-in_default-clause-writes g c = search rules

pub returns-in_default-clause-network : goal.returns-in_default-clause-network
returns-in_default-clause-network g c = λ m i low kept honest.
    line_composes (g.D.Desk.keeps c.show.new.desk) (g.D.Desk.finds c.show.new.desk) (g.D.Desk.shut c.show.new.desk) m i c.args.command.now (bytes_of c.args.letter.digits.now) c.args.page.now.bytes.items
    (g.D.Desk.state c.args.desk.now) (g.D.Desk.state c.show.new.desk) c.show.result low (g.met.D.Desk.told_by c.args.desk.now (m.hut i) kept) honest
    (returns-in_default-clause-leaves g c (m.hut i) kept) (returns-in_default-clause-answer g c) (returns-in_default-clause-writes g c)

pub returns-in_default-clause-guests : goal.returns-in_default-clause-guests
returns-in_default-clause-guests g c = λ m guest i low kept for.
    guest_composes (g.D.Desk.keeps c.show.new.desk) (g.D.Desk.finds c.show.new.desk) (g.D.Desk.shut c.show.new.desk) m guest i c.args.command.now (bytes_of c.args.letter.digits.now) (g.D.Desk.state c.args.desk.now)
    (g.D.Desk.state c.show.new.desk) c.show.result low (g.met.D.Desk.told_by c.args.desk.now (m.hut i) kept) (g.met.D.Desk.told_by c.show.new.desk) for
    (returns-in_default-clause-leaves g c (m.hut i) kept) (returns-in_default-clause-answer g c)

use Rattle.std.proofs.Common.{rules}
use Rattle.network.proofs.Hosting.{for_guest}
use Rattle.network.proofs.Reached.{reached_promises, went_reached, went_followed, went_huts, unfailing}
use Rattle.network.proofs.rehearsal.Rehearsal.play.Goals as goal

pub returns-then-at-len-clause-promised : goal.returns-then-at-len-clause-promised
returns-then-at-len-clause-promised c = λ honest. reached_promises c.args.self.now.stage (c.args.self.now.reached honest)

pub invariant_of-self : goal.invariant_of-self
invariant_of-self c =
    record {
      followed = went_followed c.args.self.now.stage c.act.new.self (λ kept follows. let on = c.act.ensures.follows kept follows in (on.0, on.1)) c.args.self.now.followed;
      reached = λ honest. went_reached c.args.self.now.stage c.act.new.self c.args.at c.args.act.now c.act.result c.act.ensures.steps (c.args.self.now.reached honest);
    }

pub returns-clause-answer : goal.returns-clause-answer
returns-clause-answer c = λ within. unfailing c.args.self.now.stage _ _ _ c.act.result c.args.self.now.followed c.act.ensures.answer

pub returns-clause-promised : goal.returns-clause-promised
returns-clause-promised c = λ honest.
    reached_promises c.act.new.self (went_reached c.args.self.now.stage c.act.new.self c.args.at c.args.act.now c.act.result c.act.ensures.steps (c.args.self.now.reached honest))

pub returns-clause-places : goal.returns-clause-places
returns-clause-places c =
    went_huts c.args.self.now.stage c.act.new.self (λ kept follows. (c.act.ensures.follows kept follows).2) c.args.self.now.followed

pub returns-clause-guests : goal.returns-clause-guests
returns-clause-guests c = λ es guest within stands.
    for_guest c.args.self.now.stage c.act.new.self c.args.at (search rules) es stands guest _ c.args.act.now c.act.result
    (unfailing c.args.self.now.stage _ _ _ c.act.result c.args.self.now.followed c.act.ensures.answer) (c.act.ensures.steps es stands)

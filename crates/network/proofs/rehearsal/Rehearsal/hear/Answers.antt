use Rattle.std.proofs.Common.{rules}
use Rattle.network.proofs.Reached.{heard_reached, heard_so, made_forged, reached_promises, stays_honest, stays_written, went_followed, went_huts}
use Rattle.network.proofs.Stands.{same_letters}
use Rattle.network.proofs.rehearsal.Rehearsal.hear.Goals as goal

pub returns-then-at-len-clause-promised : goal.returns-then-at-len-clause-promised
returns-then-at-len-clause-promised c = λ honest. reached_promises c.args.self.now.stage (c.args.self.now.reached honest)

pub returns-clause-honest : goal.returns-clause-honest
returns-clause-honest c =
    stays_honest c.args.self.now.stage c.hear.new.self c.args.at c.args.bytes.now c.find.result c.hear.new.self.report.rejected c.args.self.now.forged c.is_some-written.result c.is_damaged.result
    c.is_some-written.ensures c.is_damaged.ensures (λ kept follows. (c.in_ok-done.ensures.report kept follows).0) c.args.self.now.followed

pub returns-clause-written : goal.returns-clause-written
returns-clause-written c =
    stays_written c.args.self.now.stage c.hear.new.self c.args.at c.args.bytes.now c.find.result c.hear.new.self.report.rejected c.args.self.now.forged c.is_some-written.result c.is_damaged.result
    c.is_some-written.ensures c.is_damaged.ensures (λ kept follows. (c.in_ok-done.ensures.report kept follows).0) c.args.self.now.followed c.find.ensures

pub invariant_of-self-3 : goal.invariant_of-self-3
invariant_of-self-3 c =
    record {
      followed = went_followed c.args.self.now.stage c.hear.new.self (λ kept follows. (_, (c.in_ok-done.ensures.kept kept follows).0)) c.args.self.now.followed;
      reached = heard_reached c.args.self.now.stage _ c.args.at c.args.bytes.now c.find.result c.hear.new.self.report.rejected c.args.self.now.forged c.is_some-written.result c.is_damaged.result
          c.is_some-written.ensures c.is_damaged.ensures (λ kept follows. (c.in_ok-done.ensures.report kept follows).0) c.args.self.now.followed (search rules) (same_letters c.args.self.now.stage c.hear.new.self c.in_ok-done.ensures.letters)
          c.in_ok-done.ensures.kept c.find.ensures c.args.self.now.reached;
    }

pub returns-clause-promised : goal.returns-clause-promised
returns-clause-promised c = λ honest.
    reached_promises _
    (heard_reached c.args.self.now.stage _ c.args.at c.args.bytes.now c.find.result c.hear.new.self.report.rejected c.args.self.now.forged c.is_some-written.result c.is_damaged.result
    c.is_some-written.ensures c.is_damaged.ensures (λ kept follows. (c.in_ok-done.ensures.report kept follows).0) c.args.self.now.followed (search rules) (same_letters c.args.self.now.stage c.hear.new.self c.in_ok-done.ensures.letters)
    c.in_ok-done.ensures.kept c.find.ensures c.args.self.now.reached honest)

pub returns-clause-places : goal.returns-clause-places
returns-clause-places c =
    went_huts c.args.self.now.stage c.hear.new.self (λ kept follows. (c.in_ok-done.ensures.kept kept follows).1) c.args.self.now.followed

pub returns-clause-steps : goal.returns-clause-steps
returns-clause-steps c = λ es within stands.
    heard_so c.args.self.now.stage _ c.args.at c.args.bytes.now (search rules) (same_letters c.args.self.now.stage c.hear.new.self c.in_ok-done.ensures.letters)
    c.in_ok-done.ensures.kept es stands

pub returns-clause-forged : goal.returns-clause-forged
returns-clause-forged c = λ within new.
    made_forged c.args.self.now.stage c.hear.new.self c.args.at c.args.bytes.now c.find.result c.hear.new.self.report.rejected c.args.self.now.forged c.is_some-written.result c.is_damaged.result
    c.is_some-written.ensures c.is_damaged.ensures (λ kept follows. (c.in_ok-done.ensures.report kept follows).0) c.args.self.now.followed c.find.ensures new

use Rattle.std.proofs.Common.{rules}
use Rattle.network.proofs.Stands.{same_letters, letter_there, went_make, went_commit, went_sync, went_visit, went_write, went_take, went_cut, went_crash}
use Rattle.network.proofs.stage.Stage.act.Goals as goal

pub returns-in-Make-clause-steps : goal.returns-in-Make-clause-steps
returns-in-Make-clause-steps c = λ es stands. rw c.in-Make.is (went_make c.args.self.now c.make.new.self c.args.at (search rules) es stands c.in-Make.kind c.make.result (same_letters c.args.self.now c.make.new.self c.make.ensures.letters) c.make.ensures.kept)

pub returns-in-Commit-clause-steps : goal.returns-in-Commit-clause-steps
returns-in-Commit-clause-steps c = λ es stands. rw c.in-Commit.is (went_commit c.args.self.now c.commit.new.self c.args.at (search rules) es stands c.commit.result (same_letters c.args.self.now c.commit.new.self c.commit.ensures.letters) c.commit.ensures.kept)

pub returns-in-Sync-clause-steps : goal.returns-in-Sync-clause-steps
returns-in-Sync-clause-steps c = λ es stands. rw c.in-Sync.is (went_sync c.args.self.now c.sync.new.self c.args.at (search rules) es stands c.sync.result (same_letters c.args.self.now c.sync.new.self c.sync.ensures.letters) c.sync.ensures.kept)

pub returns-in-Visit-clause-steps : goal.returns-in-Visit-clause-steps
returns-in-Visit-clause-steps c = λ es stands. rw c.in-Visit.is (went_visit c.args.self.now c.visit.new.self c.args.at (search rules) es stands c.in-Visit.slip c.visit.result (same_letters c.args.self.now c.visit.new.self c.visit.ensures.letters) c.visit.ensures.kept)

pub returns-in-Write-clause-steps : goal.returns-in-Write-clause-steps
returns-in-Write-clause-steps c = λ es stands. rw c.in-Write.is (went_write c.args.self.now c.write.new.self c.args.at (search rules) es stands c.in-Write.has _ c.write.result c.write.ensures.letters c.write.ensures.kept)

pub returns-in-Take-clause-steps : goal.returns-in-Take-clause-steps
returns-in-Take-clause-steps c = λ es stands. rw c.in-Take.is (went_take c.args.self.now c.take.new.self c.args.at (search rules) es stands c.in-Take.letter c.take.result (same_letters c.args.self.now c.take.new.self c.take.ensures.letters) c.take.ensures.kept (letter_there _ _ c.args.self.now c.in-Take.letter c.take.result c.take.ensures.answer))

pub returns-in-Cut-clause-steps : goal.returns-in-Cut-clause-steps
returns-in-Cut-clause-steps c = λ es stands. rw c.in-Cut.is (went_cut c.args.self.now c.take-in-Cut.new.self c.args.at (search rules) es stands c.in-Cut.letter c.in-Cut.length c.take-in-Cut.result (same_letters c.args.self.now c.take-in-Cut.new.self c.take-in-Cut.ensures.letters) c.take-in-Cut.ensures.kept (letter_there _ _ c.args.self.now c.in-Cut.letter c.take-in-Cut.result c.take-in-Cut.ensures.answer))

pub returns-in-Crash-clause-steps : goal.returns-in-Crash-clause-steps
returns-in-Crash-clause-steps c = λ es stands. rw c.in-Crash.is (went_crash c.args.self.now c.crash.new.self c.args.at (search rules) es stands c.in-Crash.left c.crash.result (same_letters c.args.self.now c.crash.new.self c.crash.ensures.letters) c.crash.ensures.kept)

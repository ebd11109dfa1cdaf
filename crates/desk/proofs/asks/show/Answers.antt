use Rattle.std.proofs.Common.{rules}
use Rattle.journal.specs.History.{synced}
use Rattle.desk.specs.Replies.{Shown}
use Rattle.desk.proofs.Serving.{serves_done}
use Rattle.desk.proofs.asks.show.Goals as goal

pub returns-clause-serves : goal.returns-clause-serves
returns-clause-serves g c = λ k guest kept.
    let shown : Shown (g.D.Desk.state c.sync.new.self) c.args.command.now c.in_ok-told.field-0 = search rules in
    serves_done _ k guest c.args.command.now c.in_ok-told.field-0 (g.met.D.Desk.told_by c.sync.new.self (synced k) (c.in_ok-sync.ensures.keeps k kept)) shown

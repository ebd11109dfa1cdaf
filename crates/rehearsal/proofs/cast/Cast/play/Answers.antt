use Rattle.std.proofs.Common.{arith}
use Rattle.network.specs.Stages.{huts_of}
use Rattle.rehearsal.proofs.Beside.{beside_told, same_placing}
use Rattle.rehearsal.proofs.Sending.{once_synced}
use Rattle.rehearsal.proofs.cast.Cast.play.Goals as goal

pub returns-clause-clean : goal.returns-clause-clean
returns-clause-clean c = λ sync.
    let cast = c.args.self.now in
    let stage = c.play.new.self.stage in
    once_synced (huts_of stage) cast.current c.play.result (omega (arith, cast.within, c.play.ensures.many, stage.keepers.ok.0)) (c.play.ensures.clean sync)

pub returns-clause-beside : goal.returns-clause-beside
returns-clause-beside c = λ kept had.
    let cast = c.args.self.now in
    beside_told cast.rehearsal.stage c.play.new.self.stage cast.current c.args.act.now c.play.result (c.play.ensures.turned cast.within) kept had

pub returns-clause-placing : goal.returns-clause-placing
returns-clause-placing c =
    let was = c.args.self.now.rehearsal.stage in
    let is = c.play.new.self.stage in
    same_placing (huts_of was) (huts_of is) c.args.self.now.current (omega (arith, c.play.ensures.many, was.keepers.ok.0, is.keepers.ok.0)) c.play.ensures.places

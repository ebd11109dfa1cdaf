use Rattle.std.proofs.Common.{arith}
use Rattle.network.specs.Stages.{huts_of}
use Rattle.network.specs.Taking.{take_bytes}
use Rattle.rehearsal.proofs.Beside.{beside_turned, same_placing}
use Rattle.rehearsal.proofs.cast.Cast.hear.Goals as goal

pub returns-clause-beside : goal.returns-clause-beside
returns-clause-beside c = λ kept had.
    let cast = c.args.self.now in
    beside_turned (huts_of cast.rehearsal.stage) (huts_of c.hear.new.self.stage) cast.current (take_bytes c.args.bytes.now)
    (λ all follows. ((c.hear.ensures.taken all cast.within follows).0, c.hear.ensures.places)) kept had

pub returns-clause-placing : goal.returns-clause-placing
returns-clause-placing c =
    let was = c.args.self.now.rehearsal.stage in
    let is = c.hear.new.self.stage in
    same_placing (huts_of was) (huts_of is) c.args.self.now.current (omega (arith, c.hear.ensures.many, was.keepers.ok.0, is.keepers.ok.0)) c.hear.ensures.places

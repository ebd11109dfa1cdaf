use Rattle.std.proofs.Common.{arith}
use Rattle.network.specs.Stages.{huts_of}
use Rattle.rehearsal.proofs.Sending.{lent}
use Rattle.rehearsal.proofs.cast.desks.CastDesk.shown.Goals as goal

pub returns : goal.returns
returns c =
    let cast = c.args.self.now in
    lent (huts_of cast.rehearsal.stage) cast.current c.meant.result _ (omega (arith, cast.within, cast.rehearsal.stage.keepers.ok.0)) c.meant.ensures

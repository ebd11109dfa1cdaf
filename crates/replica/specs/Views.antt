-- What a replica means.
use Rattle.entry_log.specs.Views.{log_in}
use Rattle.replica.specs.Model.{State}
use Rattle.replica.specs.declared.replica.Replica.{Replica}

abbrev pub state_of : Replica → State
state_of r = record { hut = r.head.hut; log = log_in r.log }

-- Where a journal stands, as two questions.
use Rattle.std.specs.Prelude.{Bool, true, false}
use Rattle.journal.specs.declared.phase.Phase.{Phase}
use Rattle.journal.specs.declared.phase.Phase.TheVariants.{Synced, Written, Shut}

abbrev pub is_synced : Phase → Bool
is_synced Synced = true
is_synced Written = false
is_synced Shut = false

abbrev pub is_shut : Phase → Bool
is_shut Synced = false
is_shut Written = false
is_shut Shut = true

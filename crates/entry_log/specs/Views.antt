-- What the code's values mean.
use Rattle.std.specs.Prelude.{map, take, drop, vec_items}
use Rattle.bookings.specs.Plain.{plain}
use Rattle.entry_log.specs.declared.log.Log.{Log}
use Rattle.entry_log.specs.Logs.{PlainLog}

abbrev pub log_in : Log → PlainLog
log_in l = record { committed = take l.committed (map plain (vec_items l.entries)); tentative = drop l.committed (map plain (vec_items l.entries)) }

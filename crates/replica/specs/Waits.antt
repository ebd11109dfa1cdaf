-- What a parcel means.
use Rattle.std.specs.Prelude.{map, vec_items}
use Rattle.bookings.specs.Plain.{plain}
use Rattle.entry_log.specs.Waits.{plain_waiting}
use Rattle.replica.specs.Parcels.{PlainParcel}
use Rattle.replica.specs.declared.parcel.Parcel.{Parcel}

abbrev pub parcel_in : Parcel → PlainParcel
parcel_in p = record { committed = map plain (vec_items p.committed); tentative = map plain_waiting (vec_items p.tentative) }

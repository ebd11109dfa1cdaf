-- A run after which other is told of a committed entry than before: the model is computed.
use Rattle.std.proofs.Common.{refl}
use Rattle.bookings.specs.Books as books
use Rattle.entry_log.specs.Vectors as vectors
use Rattle.network.specs.Net as net
use Rattle.network.specs.Shown.{ToldMayChange}
use Rattle.replica.specs.Model as replicas

pub told_may_change : ToldMayChange
unfolding books.row net.run vectors.no_stamps replicas.leader
told_may_change = record { before = refl; later = refl; as_many = refl }

-- The published examples, computed.
use Rattle.std.proofs.Common.{refl}
use Rattle.digest.specs.Sha256.{constants, initial, bytes4, bytes8, zeros, padding, padded, words, extended, schedule_of, rounds, sums, hashed, absorbed, digest_of}
use Rattle.digest.specs.Laws.{Published}

pub published : Published
unfolding constants initial bytes4 bytes8 zeros padding padded words extended schedule_of rounds sums hashed absorbed digest_of
published = (refl, refl, refl, refl)

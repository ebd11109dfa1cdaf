use Rattle.std.proofs.Common.{arith, length-append}
use Rattle.std.specs.List.{flat_map}
use Rattle.bookings.specs.Plain.{plain}
use Rattle.letters.specs.Format.{encode, four}
use Rattle.letters.proofs.Sizes.{length_stamps}
use Rattle.letters.proofs.coded.values.WaitingCoded.size.Goals as goal

pub returns-clause-value : goal.returns-clause-value
returns-clause-value c =
    let w = c.args.self.now in
    omega (arith, c.entry_size.ensures.value, length-append (encode (plain w.entry)) (flat_map four w.stood.stamps), length_stamps w.stood.stamps, w.stood.sixteen)

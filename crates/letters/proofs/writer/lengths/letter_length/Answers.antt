use Rattle.std.proofs.Common.{arith}
use Rattle.letters.specs.Sent.{plain_letter}
use Rattle.letters.proofs.Lettering.{letter_long}
use Rattle.letters.proofs.writer.lengths.letter_length.Goals as goal

pub returns : goal.returns
returns c =
    record {
      value = λ place. omega (arith, c.sizes.ensures.value, c.sizes-2.ensures.value, letter_long (plain_letter place c.args.committed.now c.args.tentative.now));
      small = omega (arith, c.sizes.ensures.small, c.sizes-2.ensures.small, c.requires);
    }

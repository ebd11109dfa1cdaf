use Rattle.bookings.proofs.Ranged.{in_range}
use Rattle.bookings.specs.Plain.{plain_mark, plain_kind}
use Rattle.letters.specs.Format.{encode_mark, encode_kind}
use Rattle.letters.proofs.Puts.{written_then}
use Rattle.letters.proofs.writer.write_entry.Goals as goal

pub returns : goal.returns
returns c =
    record {
      written =
          written_then c.args.out.now c.put_mark.new.out c.put_kind.new.out (encode_mark (plain_mark c.args.entry.now.mark))
          (encode_kind (plain_kind c.args.entry.now.kind))
          c.put_mark.ensures.written
          c.put_kind.ensures.written;
      fits = record { ranged = in_range c.args.entry.now; stamp_fits = c.put_mark.ensures.fits; kind_fits = c.put_kind.ensures.fits };
    }

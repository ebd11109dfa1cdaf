use Rattle.std.proofs.Common.{[], ◌∷◌}
use Rattle.bookings.specs.Plain.{plain}
use Rattle.letters.specs.Format.{encode}
use Rattle.letters.proofs.Puts.{written_then}
use Rattle.journal.proofs.record.Record.write.Goals as goal

pub returns-in-Committed : goal.returns-in-Committed
returns-in-Committed c = record {
  written =
      rw c.in-Committed.is
      (written_then c.args.out.now c.put.new.out c.write_entry.new.out (1 ∷ []) (encode (plain c.in-Committed.entry)) c.put.ensures
      c.write_entry.ensures.written);
  fits = rw c.in-Committed.is c.write_entry.ensures.fits;
}

pub returns-in-Tentative : goal.returns-in-Tentative
returns-in-Tentative c = record {
  written =
      rw c.in-Tentative.is
      (written_then c.args.out.now c.put-in-Tentative.new.out c.write_entry-in-Tentative.new.out (2 ∷ []) (encode (plain c.in-Tentative.entry))
      c.put-in-Tentative.ensures
      c.write_entry-in-Tentative.ensures.written);
  fits = rw c.in-Tentative.is c.write_entry-in-Tentative.ensures.fits;
}

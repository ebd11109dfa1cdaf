use Rattle.std.proofs.Common.{[], ◌∷◌, arith}
use Rattle.bookings.specs.Plain.{plain_mark, plain_choices, plain_supply}
use Rattle.letters.specs.Format.{encode_mark, encode_choice, encode_choices, four}
use Rattle.letters.proofs.Puts.{written_then}
use Rattle.letters.proofs.writer.put_kind.Goals as goal

pub returns-in-Book : goal.returns-in-Book
returns-in-Book c =
    rw c.in-Book.is
    (record {
      written =
          written_then c.args.out.now c.put.new.out c.put_choices.new.out (1 ∷ four c.in-Book.guest) (encode_choices (plain_choices c.in-Book.choices))
          (simp c.to_be_bytes.ensures at c.put.ensures)
          c.put_choices.ensures;
      fits = omega arith;
    })

pub returns-in-Cancel : goal.returns-in-Cancel
returns-in-Cancel c =
    rw c.in-Cancel.is
    (record {
      written =
          written_then c.args.out.now c.put-in-Cancel.new.out c.put_mark.new.out (2 ∷ []) (encode_mark (plain_mark c.in-Cancel.mark))
          c.put-in-Cancel.ensures
          c.put_mark.ensures.written;
      fits = c.put_mark.ensures.fits;
    })

pub returns-in-Change : goal.returns-in-Change
returns-in-Change c =
    rw c.in-Change.is
    (record {
      written =
          written_then c.args.out.now c.put_mark-in-Change.new.out c.put_choices-in-Change.new.out (3 ∷ encode_mark (plain_mark c.in-Change.mark))
          (encode_choices (plain_choices c.in-Change.choices))
          (written_then c.args.out.now c.put-in-Change.new.out c.put_mark-in-Change.new.out (3 ∷ []) (encode_mark (plain_mark c.in-Change.mark))
          c.put-in-Change.ensures
          c.put_mark-in-Change.ensures.written)
          c.put_choices-in-Change.ensures;
      fits = c.put_mark-in-Change.ensures.fits;
    })

pub returns-in-Beds : goal.returns-in-Beds
returns-in-Beds c =
    rw c.in-Beds.is
    (record {
      written =
          written_then c.args.out.now c.put-in-Beds.new.out c.put_choice.new.out (4 ∷ []) (encode_choice (plain_supply c.in-Beds.supply))
          c.put-in-Beds.ensures
          c.put_choice.ensures;
      fits = tt;
    })

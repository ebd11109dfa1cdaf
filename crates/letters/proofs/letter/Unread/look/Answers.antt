use Rattle.letters.proofs.RowParts.{row_values}
use Rattle.letters.proofs.letter.Unread.look.Goals as goal

pub returns-clause-values : goal.returns-clause-values
returns-clause-values g c =
    rw (c.new.ensures.count, c.new.ensures.part, c.rest-before.ensures, c.rest.ensures)
    (row_values g.V.Decoded.reading c.args.reader.now.rest.now c.args.count c.in_ok-out.out c.pass.new.self.rest.now c.in_ok-out.ensures.few c.in_ok-out.ensures.passed c.in_ok-out.ensures.ends)

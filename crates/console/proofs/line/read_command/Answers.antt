use Rattle.std.proofs.Common.{ap, ◌∙◌}
use Rattle.console.specs.Commands.{behind_take, or_taken, parsed}
use Rattle.console.specs.Words.{words}
use Rattle.console.proofs.ReadBack.{lines_read_back}
use Rattle.console.proofs.line.read_command.Goals as goal

pub returns : goal.returns
returns c =
    let value = c.or_letter.ensures ∙ ap (or_taken (behind_take (words c.args.line.now))) c.read.ensures in
    record {
      value = value;
      written = λ s fine line-is. value ∙ ap parsed line-is ∙ lines_read_back s fine;
    }

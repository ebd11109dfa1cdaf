use Rattle.std.proofs.Common.{ap, ◌∙◌}
use Rattle.console.specs.Commands.{behind_take, or_taken}
use Rattle.console.specs.HutLines.{hut_parsed}
use Rattle.console.specs.Words.{words}
use Rattle.console.proofs.HutBack.{hut_lines_read_back}
use Rattle.console.proofs.line.hut.read_hut_command.Goals as goal

pub returns : goal.returns
returns c =
    let value = c.or_letter.ensures ∙ ap (or_taken (behind_take (words c.args.line.now))) c.read.ensures in
    record {
      value = value;
      written = λ s fine of_hut line-is. value ∙ ap hut_parsed line-is ∙ hut_lines_read_back s fine of_hut;
    }

use Rattle.std.proofs.Common.{ap, ◌∙◌}
use Rattle.console.specs.Slips.{slip_parsed}
use Rattle.console.proofs.SlipBack.{slip_lines_read_back}
use Rattle.console.proofs.slip.reads.read_slip_command.Goals as goal

pub returns : goal.returns
returns c = record {
  value = c.read.ensures;
  written = λ s fine line-is. c.read.ensures ∙ ap slip_parsed line-is ∙ slip_lines_read_back s fine;
}

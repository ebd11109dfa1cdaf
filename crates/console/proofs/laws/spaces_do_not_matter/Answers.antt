use Rattle.console.specs.Commands.{hut_lines, by_words}
use Rattle.console.proofs.Languages.{spaces_do_not_matter_in}
use Rattle.console.proofs.laws.spaces_do_not_matter.Goals as goal

pub returns : goal.returns
returns c = spaces_do_not_matter_in (by_words hut_lines)

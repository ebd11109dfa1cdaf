use Rattle.console.specs.Slips.{slip_lines}
use Rattle.console.specs.Languages.{by_words_in}
use Rattle.console.proofs.Languages.{spaces_do_not_matter_in}
use Rattle.console.proofs.laws.slip_spaces_do_not_matter.Goals as goal

pub returns : goal.returns
returns c = spaces_do_not_matter_in (by_words_in slip_lines)

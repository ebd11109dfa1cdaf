use Rattle.std.proofs.Common.{refl}
use Rattle.console.specs.Slips.{pass, slip_lines}
use Rattle.console.specs.Languages.{by_words_in}
use Rattle.console.proofs.Languages.{comments_say_nothing_in}
use Rattle.console.proofs.laws.slip_comments_say_nothing.Goals as goal

pub returns : goal.returns
returns c = comments_say_nothing_in (by_words_in slip_lines) pass (λ w ws. refl)

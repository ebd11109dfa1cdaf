use Rattle.std.proofs.Common.{refl}
use Rattle.console.specs.Commands.{pass, hut_lines, by_words}
use Rattle.console.proofs.Languages.{comments_say_nothing_in}
use Rattle.console.proofs.laws.comments_say_nothing.Goals as goal

pub returns : goal.returns
returns c = comments_say_nothing_in (by_words hut_lines) pass (λ w ws. refl)

use Rattle.std.proofs.Common.{not, eqb, ◌∙◌, rules}
use Rattle.std.proofs.Common.{tests}
use Rattle.std.proofs.lemmas.Iterator.{YieldsList-from_slice}
use Rattle.std.proofs.lemmas.Iterator.Search.{position_from_yields_List}
use Rattle.console.proofs.WordBounds.{found_or_end, first_no_space}
use Rattle.console.proofs.words.leading_spaces.Goals as goal

pub returns-clause-value : goal.returns-clause-value
returns-clause-value c =
    c.unwrap_or.ensures
    ∙ found_or_end (λ b. not (eqb b 32)) c.args.text.now c.position-past.result
    (position_from_yields_List (λ b. not (eqb b 32)) _ _ _ c.position-past.ensures.ran (YieldsList-from_slice c.args.text.now cc) (λ x b q k. search (rules, tests)))
    ∙ first_no_space c.args.text.now

use Rattle.std.proofs.Common.{◌∙◌, rules, tests}
use Rattle.std.proofs.lemmas.Iterator.{YieldsList-from_slice}
use Rattle.std.proofs.lemmas.Iterator.Search.{position_from_yields_List}
use Rattle.bookings.specs.Books.{same_mark}
use Rattle.bookings.specs.Plain.{plain_mark}
use Rattle.bookings.proofs.Find.{place_position}
use Rattle.bookings.proofs.standing.place_of.Goals as goal

pub returns-clause-value : goal.returns-clause-value
returns-clause-value c =
    position_from_yields_List (λ n. same_mark (plain_mark c.args.mark.now) (plain_mark n)) _ _ _ c.position.ensures.ran (YieldsList-from_slice c.args.marks.now cc) (λ x b q called. search (rules, tests))
    ∙ place_position (plain_mark c.args.mark.now) c.args.marks.now

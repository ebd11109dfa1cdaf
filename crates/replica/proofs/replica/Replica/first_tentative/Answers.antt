use Rattle.std.proofs.Common.{◌≡◌, List, [], ◌∷◌, map, refl, ap, ◌∙◌}
use Rattle.std.specs.List.{slice_get}
use Rattle.std.specs.Option.{option_map}
use Rattle.bookings.specs.Plain.{plain}
use Rattle.bookings.specs.declared.entry.Entry.{Entry}
use Rattle.entry_log.specs.Logs.{first_entry}
use Rattle.replica.proofs.replica.Replica.first_tentative.Goals as goal

first_is : (es : List Entry) → option_map plain (slice_get es 0) ≡ first_entry (map plain es)
first_is [] = refl
first_is (e ∷ es) = refl

pub returns : goal.returns
returns c = ap (option_map plain) (c.copied.ensures ∙ c.first.ensures.value) ∙ first_is c.tentative_part.result.now ∙ ap first_entry c.tentative_part.ensures

use Rattle.std.proofs.Common.{◌≡◌, map, take}
use Rattle.bookings.specs.Plain.{plain_choices}
use Rattle.bookings.specs.Ranges.{ChoiceOk, Each}
use Rattle.console.specs.Requests.{asked_choice}
use Rattle.console.proofs.request.RawChoices.wanted.Given as goal

abbrev pub invariant-loop-raw : goal.invariant-loop-raw
invariant-loop-raw l =
    (plain_choices l.choices ≡ map asked_choice (take l.raw-index l.raw-items)) × Each ChoiceOk (map asked_choice (take l.raw-index l.raw-items))

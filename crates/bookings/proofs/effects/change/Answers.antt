use Rattle.std.proofs.Common.{◌+◌, map, get_or, ap, ◌∙◌, arith}
use Rattle.std.proofs.lemmas.List.{map-set}
use Rattle.bookings.specs.Books.{PlainBook}
use Rattle.bookings.specs.Nights.{first, claim}
use Rattle.bookings.specs.Outcomes.{plain_grant, plain_outcome}
use Rattle.bookings.specs.Plain.{plain_mark, plain_stay, plain_choice, plain_choices}
use Rattle.bookings.specs.Views.{plain_standing}
use Rattle.bookings.proofs.Deeds.{change_kept, change-granted}
use Rattle.bookings.proofs.Over.{release-at, claim_after_release}
use Rattle.bookings.proofs.Ranged.{stay_ok}
use Rattle.bookings.proofs.effects.change.Goals as goal

pub release_beds-requires-clause-held : goal.release_beds-requires-clause-held
release_beds-requires-clause-held c = c.requires.covered _ _ c.in-Some.ensures.there.1

pub claim_beds-requires-clause-fits : goal.claim_beds-requires-clause-fits
claim_beds-requires-clause-fits c =
    let choice = c.in-Some.found.grant.choice in
    let from = first (plain_stay choice.stay) in
    let held = c.requires.covered _ _ c.in-Some.ensures.there.1 in
    λ k h.
    let left =
    ap (λ l. get_or l (from + k) 0) (c.in_default-grant_first.ensures.after ∙ c.release_beds.ensures)
    ∙ release-at c.args.booked.now (plain_choice choice) c.requires.long (stay_ok choice.stay) k h in
    omega (arith, held k h, c.requires.few (from + k))

pub returns-in_default-grant_first : goal.returns-in_default-grant_first
returns-in_default-grant_first c =
    let choice = plain_choice c.in-Some.found.grant.choice in
    let b : PlainBook = record { beds = c.args.beds.now; booked = c.args.booked.now; marks = map plain_mark c.args.marks.now; outcomes = map plain_outcome c.args.outcomes.now } in
    change_kept (plain_mark c.args.own) (plain_choices c.args.choices.now) b (plain_standing c.in-Some.found) _ _ c.in-Some.ensures.value c.release_beds.ensures _ c.in_default-grant_first.ensures.value
    (c.claim_beds.ensures ∙ ap (λ x. claim x choice) (c.in_default-grant_first.ensures.after ∙ c.release_beds.ensures)
    ∙ claim_after_release c.args.booked.now choice c.requires.long (stay_ok c.in-Some.found.grant.choice.stay) (c.requires.covered _ _ c.in-Some.ensures.there.1))

pub returns : goal.returns
returns c =
    let b : PlainBook = record { beds = c.args.beds.now; booked = c.args.booked.now; marks = map plain_mark c.args.marks.now; outcomes = map plain_outcome c.args.outcomes.now } in
    change-granted (plain_mark c.args.own) (plain_choices c.args.choices.now) b (plain_standing c.in-Some.found) _ _ c.in-Some.ensures.value c.release_beds.ensures (plain_grant c.in-Some-grant_first.grant) _ _ c.in-Some-grant_first.ensures.value
    c.in-Some-grant_first.ensures.after (map-set plain_outcome c.args.outcomes.now c.in-Some.found.place _)

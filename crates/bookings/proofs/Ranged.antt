-- What the code holds is in range.
use Rattle.std.proofs.Common.{◌≤◌, length, arith, length-take}
use Rattle.bookings.specs.declared.limits.TheConstants.{MAX_CHOICES}
use lib.ListN.{length-map}
use Rattle.bookings.specs.declared.entry.Mark.{Mark}
use Rattle.bookings.specs.declared.entry.Stay.{Stay}
use Rattle.bookings.specs.declared.entry.Choice.{Choice}
use Rattle.bookings.specs.declared.entry.Choices.{Choices}
use Rattle.bookings.specs.declared.entry.Kind.{Kind}
use Rattle.bookings.specs.declared.entry.Kind.TheVariants.{Book, Cancel, Change, Beds}
use Rattle.bookings.specs.declared.entry.Entry.{Entry}
use Rattle.bookings.specs.Plain.{plain_mark, plain_stay, plain_choice, plain_choices, listed, plain_kind, plain}
use Rattle.bookings.specs.Ranges.{MarkOk, StayOk, ChoiceOk, ChoicesOk, KindOk, InRange}
use Rattle.bookings.proofs.Each.{each_map}

pub stay_ok : (s : Stay) → StayOk (plain_stay s)
stay_ok s = (s.hut_ok, s.nights_ok.0, s.nights_ok.1, s.within)

mark_ok : (m : Mark) → MarkOk (plain_mark m)
mark_ok m = (m.stamp_ok, m.hut_ok)

choice_ok : (c : Choice) → ChoiceOk (plain_choice c)
choice_ok c = (stay_ok c.stay, c.beds_ok.0, c.beds_ok.1)

choices_ok : (cs : Choices) → ChoicesOk (plain_choices cs)
choices_ok cs =
    let few : length (plain_choices cs) ≤ MAX_CHOICES = simp (length-map, length-take) (omega (arith, cs.few)) in
    (few, each_map plain_choice ChoiceOk (listed cs) choice_ok)

kind_ok : (k : Kind) → KindOk (plain_kind k)
kind_ok (Book g cs) = choices_ok cs
kind_ok (Cancel m) = mark_ok m
kind_ok (Change m cs) = (mark_ok m, choices_ok cs)
kind_ok (Beds s) = (stay_ok s.stay, s.beds_ok)

pub in_range : (e : Entry) → InRange (plain e)
in_range e = (mark_ok e.mark, kind_ok e.kind)

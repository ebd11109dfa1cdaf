-- What is in range.
use Rattle.std.specs.Prelude.{◌+◌, ◌<◌, ◌≤◌, List, [], ◌∷◌, length}
use Rattle.bookings.specs.Plain.{PlainMark, PlainStay, PlainChoice, PlainKind, book, cancel, change, supply, PlainEntry}
use Rattle.bookings.specs.declared.limits.TheConstants.{HUTS, MAX_CHOICE_BEDS, MAX_CHOICES, MAX_STAY_NIGHTS, MAX_HUT_BEDS, NIGHTS}

abbrev pub MarkOk : PlainMark → Type 0
MarkOk m = (1 ≤ m.stamp) × (m.hut < HUTS)

abbrev pub StayOk : PlainStay → Type 0
StayOk s = (s.hut < HUTS) × (1 ≤ s.nights) × (s.nights ≤ MAX_STAY_NIGHTS) × (s.night + s.nights ≤ NIGHTS)

abbrev pub ChoiceOk : PlainChoice → Type 0
ChoiceOk c = StayOk c.stay × (1 ≤ c.beds) × (c.beds ≤ MAX_CHOICE_BEDS)

abbrev pub SupplyOk : PlainChoice → Type 0
SupplyOk c = StayOk c.stay × (c.beds ≤ MAX_HUT_BEDS)

abbrev pub Each : {A : Type 0} → (A → Type 0) → List A → Type 0
Each P [] = Unit {0}
Each P (x ∷ xs) = P x × Each P xs

abbrev pub ChoicesOk : List PlainChoice → Type 0
ChoicesOk cs = (length cs ≤ MAX_CHOICES) × Each ChoiceOk cs

abbrev pub KindOk : PlainKind → Type 0
KindOk (book guest cs) = ChoicesOk cs
KindOk (cancel m) = MarkOk m
KindOk (change m cs) = MarkOk m × ChoicesOk cs
KindOk (supply c) = SupplyOk c

abbrev pub InRange : PlainEntry → Type 0
InRange e = MarkOk e.mark × KindOk e.kind

-- Entries as plain numbers and lists: what two values of the code share that mean one entry.
use Rattle.std.specs.Prelude.{ℕ, List, map, take}
use Rattle.bookings.specs.declared.entry.Mark.{Mark}
use Rattle.bookings.specs.declared.entry.Stay.{Stay}
use Rattle.bookings.specs.declared.entry.Choice.{Choice}
use Rattle.bookings.specs.declared.entry.Choices.{Choices}
use Rattle.bookings.specs.declared.entry.Supply.{Supply}
use Rattle.bookings.specs.declared.entry.Kind.{Kind}
use Rattle.bookings.specs.declared.entry.Kind.TheVariants.{Book, Cancel, Change, Beds}
use Rattle.bookings.specs.declared.entry.Entry.{Entry}

pub record PlainMark : Type 0 where
  pub stamp : ℕ
  pub hut : ℕ

pub record PlainStay : Type 0 where
  pub hut : ℕ
  pub night : ℕ
  pub nights : ℕ

-- beds on each night of a stay: wanted by a booking, or there from a change of beds on
pub record PlainChoice : Type 0 where
  pub stay : PlainStay
  pub beds : ℕ

pub data PlainKind : Type 0 where
  book : ℕ → List PlainChoice → PlainKind
  cancel : PlainMark → PlainKind
  change : PlainMark → List PlainChoice → PlainKind
  supply : PlainChoice → PlainKind

pub record PlainEntry : Type 0 where
  pub mark : PlainMark
  pub kind : PlainKind

abbrev pub plain_mark : Mark → PlainMark
plain_mark m = record { stamp = m.stamp; hut = m.hut }

abbrev pub plain_stay : Stay → PlainStay
plain_stay s = record { hut = s.hut; night = s.night; nights = s.nights }

abbrev pub plain_choice : Choice → PlainChoice
plain_choice c = record { stay = plain_stay c.stay; beds = c.beds }

abbrev pub plain_supply : Supply → PlainChoice
plain_supply s = record { stay = plain_stay s.stay; beds = s.beds }

abbrev pub listed : Choices → List Choice
listed cs = take cs.count cs.all

abbrev pub plain_choices : Choices → List PlainChoice
plain_choices cs = map plain_choice (listed cs)

abbrev pub plain_kind : Kind → PlainKind
plain_kind (Book g cs) = book g (plain_choices cs)
plain_kind (Cancel m) = cancel (plain_mark m)
plain_kind (Change m cs) = change (plain_mark m) (plain_choices cs)
plain_kind (Beds s) = supply (plain_supply s)

abbrev pub plain : Entry → PlainEntry
plain e = record { mark = plain_mark e.mark; kind = plain_kind e.kind }

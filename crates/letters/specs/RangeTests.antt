-- Whether an entry is in range, as a test.
use Rattle.std.specs.Prelude.{◌+◌, Bool, ◌&&◌, List, length, nat_le, nat_lt}
use Rattle.std.specs.List.{list_all}
use Rattle.bookings.specs.Plain.{PlainMark, PlainStay, PlainChoice, PlainKind, book, cancel, change, supply, PlainEntry}
use Rattle.bookings.specs.declared.limits.TheConstants.{HUTS, NIGHTS, MAX_STAY_NIGHTS, MAX_CHOICES, MAX_CHOICE_BEDS, MAX_HUT_BEDS}

abbrev pub mark_in_range : PlainMark → Bool
mark_in_range m = nat_le 1 m.stamp && nat_lt m.hut HUTS

abbrev pub stay_in_range : PlainStay → Bool
stay_in_range s = nat_lt s.hut HUTS && (nat_le 1 s.nights && (nat_le s.nights MAX_STAY_NIGHTS && nat_le (s.night + s.nights) NIGHTS))

abbrev pub choice_in_range : PlainChoice → Bool
choice_in_range c = stay_in_range c.stay && (nat_le 1 c.beds && nat_le c.beds MAX_CHOICE_BEDS)

abbrev pub supply_in_range : PlainChoice → Bool
supply_in_range c = stay_in_range c.stay && nat_le c.beds MAX_HUT_BEDS

abbrev pub choices_in_range : List PlainChoice → Bool
choices_in_range cs = nat_le (length cs) MAX_CHOICES && list_all choice_in_range cs

abbrev pub kind_in_range : PlainKind → Bool
kind_in_range (book guest cs) = choices_in_range cs
kind_in_range (cancel m) = mark_in_range m
kind_in_range (change m cs) = mark_in_range m && choices_in_range cs
kind_in_range (supply c) = supply_in_range c

abbrev pub in_range : PlainEntry → Bool
in_range e = mark_in_range e.mark && kind_in_range e.kind

-- Requests as plain numbers and lists, in the words of an entry's kind.
use Rattle.std.specs.Prelude.{ℕ, ◌*◌, ◌%◌, cond, List, [], ◌∷◌, map, length, take, Some, None, Option, ◌==◌, nat_lt}
use Rattle.bookings.specs.Plain.{PlainMark, PlainChoice, PlainKind, book, cancel, change, supply}
use Rattle.bookings.specs.declared.limits.TheConstants.{MAX_CHOICES}
use Rattle.console.specs.declared.mark.RawMark.{RawMark}
use Rattle.console.specs.declared.request.RawChoice.{RawChoice}
use Rattle.console.specs.declared.request.RawChoices.{RawChoices}
use Rattle.console.specs.declared.request.Request.{Request}
use Rattle.console.specs.declared.request.Request.TheVariants.{Book, Cancel, Change, Beds}

abbrev pub choice_of : ℕ → ℕ → ℕ → ℕ → PlainChoice
choice_of h n k b = record { stay = record { hut = h; night = n; nights = k }; beds = b }

abbrev pub mark_of : ℕ → ℕ → PlainMark
mark_of s h = record { stamp = s; hut = h }

abbrev pub asked_mark : RawMark → PlainMark
asked_mark m = mark_of m.stamp m.hut

-- a mark's two numbers
abbrev pub raw_mark : PlainMark → RawMark
raw_mark m = record { stamp = m.stamp; hut = m.hut }

abbrev pub asked_choice : RawChoice → PlainChoice
asked_choice c = choice_of c.hut c.night c.nights c.beds

abbrev pub asked_choices : RawChoices → List PlainChoice
asked_choices cs = map asked_choice (take cs.count cs.all)

abbrev pub asked : Request → PlainKind
asked (Book g cs) = book g (asked_choices cs)
asked (Cancel m) = cancel (asked_mark m)
asked (Change m cs) = change (asked_mark m) (asked_choices cs)
asked (Beds c) = supply (asked_choice c)

-- four numbers by four
abbrev pub fours : List ℕ → List PlainChoice
fours [] = []
fours (h ∷ []) = []
fours (h ∷ n ∷ []) = []
fours (h ∷ n ∷ k ∷ []) = []
fours (h ∷ n ∷ k ∷ b ∷ ns) = choice_of h n k b ∷ fours ns

-- up to four choices of four numbers each
unfoldable pub choices_of : List ℕ → Option (List PlainChoice)
choices_of ns = cond (length ns % 4 == 0) (cond (nat_lt (4 * MAX_CHOICES) (length ns)) None (Some (fours ns))) None

abbrev pub read_choices : Option RawChoices → Option (List PlainChoice)
read_choices None = None
read_choices (Some cs) = Some (asked_choices cs)

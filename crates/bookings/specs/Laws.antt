-- What holds of every book that entries in range make, in the words of bookings.
use Rattle.std.specs.Prelude.{◌≡◌, ℕ, ◌+◌, ◌<◌, ◌≤◌, max, Bool, cond, ◌&&◌, ◌⊎◌, List, [], ◌∷◌, ◌++◌, length, Some, None, Option, ◌==◌, nat_le, nat_lt, slice_index, slice_index_or, slice_set}
use Rattle.bookings.specs.Books.{PlainBook, does, book_of, place_from}
use Rattle.bookings.specs.Nights.{place_of, release}
use Rattle.bookings.specs.Outcomes.{PlainGrant, PlainOutcome, holds, nothing, cancelled, changed, held_by}
use Rattle.bookings.specs.Plain.{PlainMark, PlainStay, PlainChoice, PlainKind, book, cancel, change, supply, PlainEntry}
use Rattle.bookings.specs.Ranges.{Each, InRange, ChoicesOk, SupplyOk}
use Rattle.bookings.specs.Undone.{undone}
use Rattle.bookings.specs.declared.limits.TheConstants.{HUTS, NIGHTS}

-- how many beds a hut has on a night, and how many of them are booked
abbrev pub beds_on : PlainBook → ℕ → ℕ → ℕ
beds_on b hut night = slice_index b.beds (place_of hut night)

abbrev pub booked_on : PlainBook → ℕ → ℕ → ℕ
booked_on b hut night = slice_index b.booked (place_of hut night)

-- a stay has a hut's night
abbrev pub covers : PlainStay → ℕ → ℕ → Bool
covers s hut night = hut == s.hut && (nat_le s.night night && nat_lt night (s.night + s.nights))

-- the beds that a choice takes of a hut's night
abbrev pub beds_of : PlainChoice → ℕ → ℕ → ℕ
beds_of c hut night = cond (covers c.stay hut night) c.beds 0

abbrev pub beds_held_by : Option PlainGrant → ℕ → ℕ → ℕ
beds_held_by None hut night = 0
beds_held_by (Some g) hut night = beds_of g.choice hut night

abbrev pub beds_held : List PlainOutcome → ℕ → ℕ → ℕ
beds_held [] hut night = 0
beds_held (o ∷ os) hut night = beds_held_by (held_by o) hut night + beds_held os hut night

-- on each of its nights a choice finds its beds free
abbrev pub Free : PlainBook → PlainChoice → Type 0
Free b c =
    (night : ℕ) → c.stay.night ≤ night → night < c.stay.night + c.stay.nights → booked_on b c.stay.hut night + c.beds ≤ beds_on b c.stay.hut night

abbrev pub NoneFree : PlainBook → List PlainChoice → Type 0
NoneFree b cs = (k : ℕ) (d : PlainChoice) → k < length cs → Free b (slice_index_or cs k d) → ⊥

-- a grant is of the first choice that is free
pub record IsFirstFree (b : PlainBook) (cs : List PlainChoice) (g : PlainGrant) : Type 0 where
  pub one_of : (g.number < length cs) × (g.choice ≡ slice_index_or cs g.number g.choice)
  pub free : Free b g.choice
  pub none_before : (k : ℕ) (d : PlainChoice) → k < g.number → Free b (slice_index_or cs k d) → ⊥

-- an entry changes neither beds nor bookings, and holds nothing
pub record DoesNothing (e : PlainEntry) (b : PlainBook) : Type 0 where
  pub beds : (does e b).beds ≡ b.beds
  pub booked : (does e b).booked ≡ b.booked
  pub own : PlainOutcome
  pub outcomes : (does e b).outcomes ≡ b.outcomes ++ own ∷ []
  pub holds-nothing : held_by own ≡ None

-- an entry is a cancellation or a change of what a mark names
pub data Names : PlainKind → PlainMark → Type 0 where
  by_cancel : {m : PlainMark} → Names (cancel m) m
  by_change : {m : PlainMark} {cs : List PlainChoice} → Names (change m cs) m

-- an entry with that mark was done, and what came of the first such
abbrev pub Stands : PlainBook → PlainMark → Type 0
Stands b m = (k : ℕ) × (k < length b.marks) × (m ≡ slice_index_or b.marks k m)

abbrev pub CameTo : PlainBook → PlainMark → PlainOutcome → Type 0
CameTo b m o = (k : ℕ) × (place_from 0 m b.marks ≡ Some k) × (slice_index_or b.outcomes k nothing ≡ o)

-- LAW: on no night are more beds booked than there are.
abbrev pub NeverOverbooked : Type 0
NeverOverbooked = (es : List PlainEntry) → Each InRange es → (hut night : ℕ) → booked_on (book_of es) hut night ≤ beds_on (book_of es) hut night

-- LAW: booked on a night is the sum of the beds that bookings hold there.
abbrev pub BookedIsHeld : Type 0
BookedIsHeld =
    (es : List PlainEntry) → Each InRange es → (hut night : ℕ) → hut < HUTS → night < NIGHTS
    → booked_on (book_of es) hut night ≡ beds_held (book_of es).outcomes hut night

-- LAW: a booking gets the first of its choices that is free, and nothing only where none is.
abbrev pub GetsFirstFree : Type 0
GetsFirstFree =
    (es : List PlainEntry) → Each InRange es → (m : PlainMark) (guest : ℕ) (cs : List PlainChoice) → ChoicesOk cs
    → ((g : PlainGrant) × ((does (record { mark = m; kind = book guest cs }) (book_of es)).outcomes ≡ (book_of es).outcomes ++ holds g ∷ []) × IsFirstFree (book_of es) cs g)
    ⊎ (((does (record { mark = m; kind = book guest cs }) (book_of es)).outcomes ≡ (book_of es).outcomes ++ nothing ∷ []) × NoneFree (book_of es) cs)

-- LAW: undoing the entry that was done last gives back the very book.
abbrev pub UndoGivesBack : Type 0
UndoGivesBack = (es : List PlainEntry) (e : PlainEntry) → Each InRange es → InRange e → undone (book_of (es ++ e ∷ [])) ≡ book_of es

-- LAW: a cancellation or change of a booking that was cancelled or changed already does nothing.
abbrev pub OldMarkDoesNothing : Type 0
OldMarkDoesNothing =
    (es : List PlainEntry) (e : PlainEntry) (m : PlainMark) (g : PlainGrant) → Names e.kind m
    → CameTo (book_of es) m (cancelled g) ⊎ ((by : PlainMark) × CameTo (book_of es) m (changed g by)) → DoesNothing e (book_of es)

-- LAW: a change whose choices are not free, with the booking's own beds given back, does nothing.
abbrev pub ChangeNotFreeDoesNothing : Type 0
ChangeNotFreeDoesNothing =
    (es : List PlainEntry) (own m : PlainMark) (cs : List PlainChoice) (g : PlainGrant) → Each InRange es → ChoicesOk cs → CameTo (book_of es) m (holds g)
    → NoneFree (record { beds = (book_of es).beds; booked = release (book_of es).booked g.choice; marks = []; outcomes = [] }) cs
    → DoesNothing (record { mark = own; kind = change m cs }) (book_of es)

-- LAW: a cancellation or change of a mark that does not stand before it does nothing.
abbrev pub UnknownMarkDoesNothing : Type 0
UnknownMarkDoesNothing = (es : List PlainEntry) (e : PlainEntry) (m : PlainMark) → Names e.kind m → (Stands (book_of es) m → ⊥) → DoesNothing e (book_of es)

-- LAW: a change of beds sets those of its nights, but to no fewer than are booked, and leaves all others.
abbrev pub BedsAreSet : Type 0
BedsAreSet =
    (es : List PlainEntry) (m : PlainMark) (c : PlainChoice) → Each InRange es → SupplyOk c → (hut night : ℕ) → hut < HUTS → night < NIGHTS
    → beds_on (does (record { mark = m; kind = supply c }) (book_of es)) hut night
    ≡ cond (covers c.stay hut night) (max c.beds (booked_on (book_of es) hut night)) (beds_on (book_of es) hut night)

-- LAW: a cancellation of a booking that holds a choice gives its beds back, on its nights and no others, and it is cancelled.
abbrev pub CancelFrees : Type 0
CancelFrees =
    (es : List PlainEntry) (own m : PlainMark) (g : PlainGrant) → Each InRange es → CameTo (book_of es) m (holds g)
    → ((does (record { mark = own; kind = cancel m }) (book_of es)).beds ≡ (book_of es).beds)
    × ((hut night : ℕ) → hut < HUTS → night < NIGHTS
    → booked_on (does (record { mark = own; kind = cancel m }) (book_of es)) hut night + beds_of g.choice hut night ≡ booked_on (book_of es) hut night)
    × CameTo (does (record { mark = own; kind = cancel m }) (book_of es)) m (cancelled g)

-- LAW: what was cancelled holds nothing, whatever is done after that.
abbrev pub CancelLasts : Type 0
CancelLasts =
    (front back : List PlainEntry) (c : PlainEntry) (m : PlainMark) (g : PlainGrant) → c.kind ≡ cancel m → Stands (book_of front) m
    → CameTo (book_of (front ++ c ∷ back)) m (holds g) → ⊥

-- a change gets what a new booking gets, and leaves the same beds and bookings; what it changes is changed, and what came of all others stays
pub record ChangedAs (own m : PlainMark) (g h : PlainGrant) (was anew now : PlainBook) : Type 0 where
  pub beds : now.beds ≡ anew.beds
  pub booked : now.booked ≡ anew.booked
  pub old : CameTo now m (changed g own)
  pub got : PlainGrant
  pub outcomes : now.outcomes ≡ slice_set was.outcomes old.0 (changed g own) ++ holds got ∷ []
  pub number : got.number ≡ h.number
  pub choice : got.choice ≡ h.choice

-- or it does nothing, and gets nothing
pub record LeftAll (was now : PlainBook) : Type 0 where
  pub beds : now.beds ≡ was.beds
  pub booked : now.booked ≡ was.booked
  pub outcomes : now.outcomes ≡ was.outcomes ++ nothing ∷ []

-- of a book, the one after a cancellation, the one after a new booking behind that, and the one after the change
abbrev pub CancelThenBook : PlainMark → PlainMark → PlainGrant → PlainBook → PlainBook → PlainBook → PlainBook → Type 0
CancelThenBook own m g was gone anew now =
    ((h : PlainGrant) × (anew.outcomes ≡ gone.outcomes ++ holds h ∷ []) × ChangedAs own m g h was anew now)
    ⊎ ((anew.outcomes ≡ gone.outcomes ++ nothing ∷ []) × LeftAll was now)

-- LAW: a change of a booking that holds a choice is the same as to cancel it and to book anew with the choices of the change; but where the new booking
-- gets nothing, the change leaves all as it was.
abbrev pub ChangeIsCancelThenBook : Type 0
ChangeIsCancelThenBook =
    (es : List PlainEntry) (own m c n : PlainMark) (guest : ℕ) (cs : List PlainChoice) (g : PlainGrant) → CameTo (book_of es) m (holds g)
    → CancelThenBook own m g (book_of es) (does (record { mark = c; kind = cancel m }) (book_of es))
    (does (record { mark = n; kind = book guest cs }) (does (record { mark = c; kind = cancel m }) (book_of es)))
    (does (record { mark = own; kind = change m cs }) (book_of es))

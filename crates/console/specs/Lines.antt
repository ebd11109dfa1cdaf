-- The line that a command is written as, and laws of reading lines.
use Rattle.std.specs.Prelude.{◌≡◌, ℕ, ◌<◌, ◌≤◌, List, [], ◌∷◌, ◌++◌, length}
use Rattle.bookings.specs.Plain.{PlainChoice, PlainKind, book, cancel, change, supply}
use Rattle.bookings.specs.Ranges.{Each}
use Rattle.bookings.specs.declared.limits.TheConstants.{HUTS, MAX_CHOICES, MAX_REHEARSAL_HUTS}
use Rattle.console.specs.declared.verb.Verb.{Verb}
use Rattle.console.specs.declared.verb.Verb.TheVariants.{Huts, At, Book, Cancel, Change, Beds, Ink, Have, Show, Line, Got, Serve, Letter, Walk, Lose, Again, Cut, Stop, Help}
use Rattle.console.specs.Commands.{Said, pass, huts, at, make, ink, have, show_night, show, log, got, serve, letter, taken, walk, lose, again, cut, stop, help, take_name, parsed}
use Rattle.console.specs.Hexes.{IsByte, hex_text}
use Rattle.console.specs.Languages.{written_by, SpacesDoNotMatterIn, CommentsSayNothingIn}
use Rattle.console.specs.Verbs.{name_of}
use Rattle.console.specs.Words.{spaced}

-- a verb and numbers, with single spaces between them
abbrev pub written : Verb → List ℕ → List ℕ
written v ns = written_by (name_of v) ns

abbrev pub choice_numbers : List PlainChoice → List ℕ
choice_numbers [] = []
choice_numbers (c ∷ cs) = c.stay.hut ∷ c.stay.night ∷ c.stay.nights ∷ c.beds ∷ choice_numbers cs

abbrev pub request_line : PlainKind → List ℕ
request_line (book g cs) = written Book (g ∷ choice_numbers cs)
request_line (cancel m) = written Cancel (m.stamp ∷ m.hut ∷ [])
request_line (change m cs) = written Change (m.stamp ∷ m.hut ∷ choice_numbers cs)
request_line (supply c) = written Beds (choice_numbers (c ∷ []))

abbrev pub line_of : Said → List ℕ
line_of pass = []
line_of (huts hs) = written Huts hs
line_of (at h) = written At (h ∷ [])
line_of (make k) = request_line k
line_of ink = written Ink []
line_of have = written Have []
line_of (show_night h n) = written Show (h ∷ n ∷ [])
line_of show = written Show []
line_of log = written Line []
line_of (got m) = written Got (m.stamp ∷ m.hut ∷ [])
line_of (serve ns) = written Serve ns
line_of (letter c ns) = written Letter (c ∷ ns)
line_of (taken bytes) = take_name ++ spaced (hex_text bytes ∷ [])
line_of (walk i j) = written Walk (i ∷ j ∷ [])
line_of (lose i j) = written Lose (i ∷ j ∷ [])
line_of (again k j) = written Again (k ∷ j ∷ [])
line_of (cut k j n) = written Cut (k ∷ j ∷ n ∷ [])
line_of (stop i n) = written Stop (i ∷ n ∷ [])
line_of help = written Help []

-- ten digits write it
abbrev pub TenDigits : ℕ → Type 0
TenDigits n = n < 10000000000

abbrev pub RequestSayable : PlainKind → Type 0
RequestSayable (book g cs) = Each TenDigits (g ∷ choice_numbers cs) × (length cs ≤ MAX_CHOICES)
RequestSayable (cancel m) = Each TenDigits (m.stamp ∷ m.hut ∷ [])
RequestSayable (change m cs) = Each TenDigits (m.stamp ∷ m.hut ∷ choice_numbers cs) × (length cs ≤ MAX_CHOICES)
RequestSayable (supply c) = Each TenDigits (choice_numbers (c ∷ []))

abbrev pub Sayable : Said → Type 0
Sayable pass = Unit {0}
Sayable (huts hs) = Each TenDigits hs × (0 < length hs) × (length hs ≤ MAX_REHEARSAL_HUTS)
Sayable (at h) = TenDigits h
Sayable (make k) = RequestSayable k
Sayable ink = Unit {0}
Sayable have = Unit {0}
Sayable (show_night h n) = TenDigits h × TenDigits n
Sayable show = Unit {0}
Sayable log = Unit {0}
Sayable (got m) = TenDigits m.stamp × TenDigits m.hut
Sayable (serve ns) = Each TenDigits ns × (length ns ≡ HUTS)
Sayable (letter c ns) = Each TenDigits (c ∷ ns) × (length ns ≡ HUTS)
Sayable (taken bytes) = Each IsByte bytes × (0 < length bytes)
Sayable (walk i j) = TenDigits i × TenDigits j
Sayable (lose i j) = TenDigits i × TenDigits j
Sayable (again k j) = TenDigits k × TenDigits j
Sayable (cut k j n) = TenDigits k × TenDigits j × TenDigits n
Sayable (stop i n) = TenDigits i × TenDigits n
Sayable help = Unit {0}

-- one space more, between words, in front or behind, changes nothing
abbrev pub SpacesDoNotMatter : Type 0
SpacesDoNotMatter = SpacesDoNotMatterIn parsed

-- 35 is '#'
abbrev pub CommentsSayNothing : Type 0
CommentsSayNothing = CommentsSayNothingIn parsed pass

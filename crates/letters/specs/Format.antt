-- An entry as bytes: how it is written and how it is read. Numbers stand with the high byte first.
use Rattle.std.specs.Prelude.{ℕ, ◌+◌, ◌*◌, ◌/◌, ◌%◌, Bool, cond, if◌then◌else◌, List, [], ◌∷◌, ◌++◌, length, drop, ◌==◌, nat_lt, slice_index}
use Rattle.std.specs.List.{flat_map}
use Rattle.bookings.specs.Plain.{PlainMark, PlainChoice, PlainKind, book, cancel, change, supply, PlainEntry}
use Rattle.bookings.specs.declared.limits.TheConstants.{MAX_CHOICES}
use Rattle.letters.specs.Answers.{Answer, got, short, out, after, read_times}
use Rattle.letters.specs.RangeTests.{in_range}

abbrev pub two : ℕ → List ℕ
two n = (n / 256 % 256) ∷ (n % 256) ∷ []

abbrev pub four : ℕ → List ℕ
four n = (n / 16777216 % 256) ∷ (n / 65536 % 256) ∷ (n / 256 % 256) ∷ (n % 256) ∷ []

-- WRITING

abbrev pub encode_mark : PlainMark → List ℕ
encode_mark m = four m.stamp ++ (m.hut ∷ [])

-- hut, night, nights, beds
abbrev pub encode_choice : PlainChoice → List ℕ
encode_choice c = c.stay.hut ∷ (two c.stay.night ++ (c.stay.nights ∷ c.beds ∷ []))

abbrev pub encode_choices : List PlainChoice → List ℕ
encode_choices cs = length cs ∷ flat_map encode_choice cs

abbrev pub encode_kind : PlainKind → List ℕ
encode_kind (book guest cs) = 1 ∷ (four guest ++ encode_choices cs)
encode_kind (cancel m) = 2 ∷ encode_mark m
encode_kind (change m cs) = 3 ∷ (encode_mark m ++ encode_choices cs)
encode_kind (supply c) = 4 ∷ encode_choice c

abbrev pub encode : PlainEntry → List ℕ
encode e = encode_mark e.mark ++ encode_kind e.kind

-- READING

abbrev pub number_of_two : List ℕ → ℕ
number_of_two bs = slice_index bs 0 * 256 + slice_index bs 1

abbrev pub number_of_four : List ℕ → ℕ
number_of_four bs = slice_index bs 0 * 16777216 + slice_index bs 1 * 65536 + slice_index bs 2 * 256 + slice_index bs 3

-- n bytes are there, and then the answer is this
abbrev pub having : {A : Type 0} → ℕ → List ℕ → Answer A → Answer A
having n bs a = cond (nat_lt (length bs) n) short a

-- the test holds: out of range
abbrev pub unless : {A : Type 0} → Bool → Answer A → Answer A
unless b a = cond b out a

abbrev pub read_one : List ℕ → Answer ℕ
read_one bs = having 1 bs (got (slice_index bs 0) (drop 1 bs))

abbrev pub read_two : List ℕ → Answer ℕ
read_two bs = having 2 bs (got (number_of_two bs) (drop 2 bs))

abbrev pub read_four : List ℕ → Answer ℕ
read_four bs = having 4 bs (got (number_of_four bs) (drop 4 bs))

-- the mark that five bytes are
abbrev pub mark_at : List ℕ → PlainMark
mark_at bs = record { stamp = number_of_four bs; hut = slice_index bs 4 }

abbrev pub read_mark : List ℕ → Answer PlainMark
read_mark bs = having 5 bs (got (mark_at bs) (drop 5 bs))

-- the choice that five bytes are
abbrev pub choice_at : List ℕ → PlainChoice
choice_at bs = record { stay = record { hut = slice_index bs 0; night = number_of_two (drop 1 bs); nights = slice_index bs 3 }; beds = slice_index bs 4 }

abbrev pub read_choice : List ℕ → Answer PlainChoice
read_choice bs = having 5 bs (got (choice_at bs) (drop 5 bs))

-- how many, and these; more than four are out of range as soon as the count is read
abbrev pub read_choices : List ℕ → Answer (List PlainChoice)
read_choices bs = after (read_one bs) (λ n r. unless (nat_lt MAX_CHOICES n) (read_times read_choice n r))

abbrev pub read_book : List ℕ → Answer PlainKind
read_book bs = after (read_four bs) (λ guest r. after (read_choices r) (λ cs s. got (book guest cs) s))

abbrev pub read_cancel : List ℕ → Answer PlainKind
read_cancel bs = after (read_mark bs) (λ m r. got (cancel m) r)

abbrev pub read_change : List ℕ → Answer PlainKind
read_change bs = after (read_mark bs) (λ m r. after (read_choices r) (λ cs s. got (change m cs) s))

abbrev pub read_beds : List ℕ → Answer PlainKind
read_beds bs = after (read_choice bs) (λ c r. got (supply c) r)

-- a kind that is not known is out of range as soon as it is read
abbrev pub read_kind : List ℕ → Answer PlainKind
read_kind bs =
    after (read_one bs)
    (λ n r.
    cond (n == 1) (read_book r)
    (cond (n == 2) (read_cancel r)
    (cond (n == 3) (read_change r)
    (cond (n == 4) (read_beds r) out))))

-- all bytes of an entry as numbers, by its kind and its count of choices; no range is judged
abbrev pub read_numbers : List ℕ → Answer PlainEntry
read_numbers bs = after (read_mark bs) (λ m r. after (read_kind r) (λ k s. got (record { mark = m; kind = k }) s))

-- an entry's bytes are all read, and then its ranges are judged
abbrev pub reads : List ℕ → Answer PlainEntry
reads bs = after (read_numbers bs) (λ e r. if in_range e then got e r else out)

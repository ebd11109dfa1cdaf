-- What an entry does to a book, and the book that a list of entries makes.
use Rattle.std.specs.Prelude.{ℕ, suc, Bool, cond, ◌&&◌, List, [], ◌∷◌, ◌++◌, replicate, Some, None, fold, Option, ◌==◌, slice_index_or, slice_set}
use Rattle.bookings.specs.Nights.{is_free, claim, release, resize, numbers_on}
use Rattle.bookings.specs.Outcomes.{PlainGrant, PlainOutcome, holds, nothing, cancelled, changed, freed, resized, held_by}
use Rattle.bookings.specs.Plain.{PlainMark, PlainChoice, PlainKind, book, cancel, change, supply, PlainEntry}
use Rattle.bookings.specs.declared.limits.TheConstants.{INITIAL_BEDS, PLACES}

-- beds and booked for each hut and night; for each entry that was done, its mark and what came of it
pub record PlainBook : Type 0 where
  pub beds : List ℕ
  pub booked : List ℕ
  pub marks : List PlainMark
  pub outcomes : List PlainOutcome

-- the same number for each hut and night
unfoldable pub row : ℕ → List ℕ
row n = replicate PLACES n

abbrev pub empty_book : PlainBook
empty_book = record { beds = row INITIAL_BEDS; booked = row 0; marks = []; outcomes = [] }

-- the first of some choices that is free, where the first of them has the number i
abbrev pub first_free : List ℕ → List ℕ → Option ℕ → ℕ → List PlainChoice → Option PlainGrant
first_free beds booked over i [] = None
first_free beds booked over i (c ∷ cs) =
    cond (is_free beds booked c) (Some (record { number = i; choice = c; replaces = over })) (first_free beds booked over (suc i) cs)

abbrev pub same_mark : PlainMark → PlainMark → Bool
same_mark a b = a.stamp == b.stamp && a.hut == b.hut

-- the mark that a cancellation or a change names
abbrev pub named_by : PlainKind → Option PlainMark
named_by (book guest cs) = None
named_by (cancel m) = Some m
named_by (change m cs) = Some m
named_by (supply c) = None

-- the place of the first of some marks that is m, where the first of them has the place i
abbrev pub place_from : ℕ → PlainMark → List PlainMark → Option ℕ
place_from i m [] = None
place_from i m (n ∷ ns) = cond (same_mark m n) (Some i) (place_from (suc i) m ns)

-- a booking that holds a choice
pub record Standing : Type 0 where
  pub place : ℕ
  pub grant : PlainGrant

abbrev pub standing_with : ℕ → Option PlainGrant → Option Standing
standing_with p None = None
standing_with p (Some g) = Some (record { place = p; grant = g })

abbrev pub standing_at : List PlainOutcome → Option ℕ → Option Standing
standing_at os None = None
standing_at os (Some p) = standing_with p (held_by (slice_index_or os p nothing))

abbrev pub standing : List PlainMark → List PlainOutcome → PlainMark → Option Standing
standing ms os m = standing_at os (place_from 0 m ms)

-- what an entry does, and what comes of it itself
pub record Effect : Type 0 where
  pub beds : List ℕ
  pub booked : List ℕ
  pub outcomes : List PlainOutcome
  pub own : PlainOutcome

abbrev pub idle : PlainBook → PlainOutcome → Effect
idle b o = record { beds = b.beds; booked = b.booked; outcomes = b.outcomes; own = o }

-- what becomes of a booking that got a choice, or none
abbrev pub claimed : List ℕ → Option PlainGrant → List ℕ
claimed booked None = booked
claimed booked (Some g) = claim booked g.choice

abbrev pub granted : Option PlainGrant → PlainOutcome
granted None = nothing
granted (Some g) = holds g

abbrev pub booking : PlainBook → Option PlainGrant → Effect
booking b g = record { beds = b.beds; booked = claimed b.booked g; outcomes = b.outcomes; own = granted g }

abbrev pub cancelling : PlainBook → Option Standing → Effect
cancelling b None = idle b (freed None)
cancelling b (Some s) =
    record {
      beds = b.beds;
      booked = release b.booked s.grant.choice;
      outcomes = slice_set b.outcomes s.place (cancelled s.grant);
      own = freed (Some s.place);
    }

abbrev pub changing_to : PlainMark → PlainBook → Standing → Option PlainGrant → Effect
changing_to m b s None = idle b nothing
changing_to m b s (Some g) =
    record {
      beds = b.beds;
      booked = claim (release b.booked s.grant.choice) g.choice;
      outcomes = slice_set b.outcomes s.place (changed s.grant m);
      own = holds g;
    }

-- the choices are looked at as if the booking that is changed had given its beds back
abbrev pub changing : PlainMark → List PlainChoice → PlainBook → Option Standing → Effect
changing m cs b None = idle b nothing
changing m cs b (Some s) =
    changing_to m b s (first_free b.beds (release b.booked s.grant.choice) (Some s.place) 0 cs)

abbrev pub supplying : PlainBook → PlainChoice → Effect
supplying b c =
    record {
      beds = resize b.beds b.booked c;
      booked = b.booked;
      outcomes = b.outcomes;
      own = resized c.stay (numbers_on b.beds c.stay);
    }

abbrev pub effect_of : PlainMark → PlainKind → PlainBook → Effect
effect_of m (book guest cs) b = booking b (first_free b.beds b.booked None 0 cs)
effect_of m (cancel n) b = cancelling b (standing b.marks b.outcomes n)
effect_of m (change n cs) b = changing m cs b (standing b.marks b.outcomes n)
effect_of m (supply c) b = supplying b c

abbrev pub entered : PlainBook → PlainMark → Effect → PlainBook
entered b m e = record { beds = e.beds; booked = e.booked; marks = b.marks ++ m ∷ []; outcomes = e.outcomes ++ e.own ∷ [] }

abbrev pub does : PlainEntry → PlainBook → PlainBook
does e b = entered b e.mark (effect_of e.mark e.kind b)

abbrev pub book_of : List PlainEntry → PlainBook
book_of es = fold (λ b e. does e b) empty_book es

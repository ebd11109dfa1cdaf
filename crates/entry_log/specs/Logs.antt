-- A log: what is committed, in its order, and then what is tentative, in the order of marks.
use Rattle.std.specs.Prelude.{ℕ, suc, max, Bool, false, cond, ◌||◌, List, [], ◌∷◌, ◌++◌, Some, None, Option}
use Rattle.bookings.specs.Books.{same_mark}
use Rattle.bookings.specs.Plain.{PlainMark, PlainEntry}
use Rattle.entry_log.specs.Order.{before}

pub record PlainLog : Type 0 where
  pub committed : List PlainEntry
  pub tentative : List PlainEntry

abbrev pub empty_log : PlainLog
empty_log = record { committed = []; tentative = [] }

abbrev pub all_of : PlainLog → List PlainEntry
all_of l = l.committed ++ l.tentative

abbrev pub has : PlainMark → List PlainEntry → Bool
has m [] = false
has m (e ∷ es) = same_mark m e.mark || has m es

abbrev pub without : PlainMark → List PlainEntry → List PlainEntry
without m [] = []
without m (e ∷ es) = cond (same_mark m e.mark) (without m es) (e ∷ without m es)

-- how many entries stand before the first that a mark comes before
abbrev pub spot : PlainMark → List PlainEntry → ℕ
spot m [] = 0
spot m (e ∷ es) = cond (before m e.mark) 0 (suc (spot m es))

-- put where it belongs by its mark
abbrev pub into : PlainEntry → List PlainEntry → List PlainEntry
into e [] = e ∷ []
into e (f ∷ fs) = cond (before e.mark f.mark) (e ∷ f ∷ fs) (f ∷ into e fs)

-- the highest stamp of all
abbrev pub top : List PlainEntry → ℕ
top [] = 0
top (e ∷ es) = max e.mark.stamp (top es)

-- a tentative entry more, and a committed one, which is tentative no longer
abbrev pub add_tentative : PlainEntry → PlainLog → PlainLog
add_tentative e l = record { committed = l.committed; tentative = into e l.tentative }

abbrev pub add_committed : PlainEntry → PlainLog → PlainLog
add_committed e l = record { committed = l.committed ++ e ∷ []; tentative = without e.mark l.tentative }

-- the first tentative entry becomes committed
abbrev pub first_mark : List PlainEntry → Option PlainMark
first_mark [] = None
first_mark (e ∷ es) = Some e.mark

abbrev pub first_entry : List PlainEntry → Option PlainEntry
first_entry [] = None
first_entry (e ∷ es) = Some e

abbrev pub commit_first_of : List PlainEntry → PlainLog → PlainLog
commit_first_of [] l = l
commit_first_of (e ∷ es) l = add_committed e l

abbrev pub commit_first : PlainLog → PlainLog
commit_first l = commit_first_of l.tentative l

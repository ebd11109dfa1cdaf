-- A replica as its number and its log: what each call does, and which it refuses.
use Rattle.std.specs.Prelude.{ℕ, ◌+◌, Bool, false, cond, not, ◌||◌, List, map, length, Some, None, Option, ◌==◌, nat_le}
use Rattle.bookings.specs.Books.{named_by}
use Rattle.bookings.specs.Plain.{PlainMark, PlainKind, PlainEntry}
use Rattle.bookings.specs.declared.book.TheConstants.{CAPACITY}
use Rattle.entry_log.specs.Logs.{PlainLog, empty_log, all_of, has, top, add_tentative, add_committed, commit_first}
use Rattle.entry_log.specs.Vectors.{vector_of, covers, joined_with}
use Rattle.replica.specs.declared.head.TheConstants.{LAST_STAMP}

pub record State : Type 0 where
  pub hut : ℕ
  pub log : PlainLog

abbrev pub fresh : ℕ → State
fresh hut = record { hut = hut; log = empty_log }

abbrev pub marks_of : State → List PlainMark
marks_of s = map (λ e. e.mark) (all_of s.log)

-- the limits: entries of a replica, and stamps, of which the last may not be used
abbrev pub capacity : ℕ
capacity = CAPACITY

abbrev pub last_stamp : ℕ
last_stamp = LAST_STAMP

abbrev pub is_full : State → Bool
is_full s = nat_le capacity (length (all_of s.log))

-- a made entry has one stamp more than the highest that its replica knows
abbrev pub next_mark : State → PlainMark
next_mark s = record { stamp = top (all_of s.log) + 1; hut = s.hut }

abbrev pub entry_made : PlainKind → State → PlainEntry
entry_made k s = record { mark = next_mark s; kind = k }

abbrev pub with_tentative : PlainEntry → State → State
with_tentative e s = record { hut = s.hut; log = add_tentative e s.log }

abbrev pub made : PlainKind → State → State
made k s = with_tentative (entry_made k s) s

-- the number by which a call is refused
abbrev pub no_room : State → ℕ → Bool
no_room s stamp = is_full s || nat_le last_stamp stamp

abbrev pub names_unknown : Option PlainMark → State → Bool
names_unknown None s = false
names_unknown (Some m) s = not (has m (all_of s.log))

abbrev pub make_refusal : PlainKind → State → Option ℕ
make_refusal k s = cond (no_room s (next_mark s).stamp) (Some 8) (cond (names_unknown (named_by k) s) (Some 9) None)

-- who commits, by what is committed
unfoldable pub leader : List PlainEntry → ℕ
leader es = 0

-- the first tentative entry is committed, at the hut that commits alone
abbrev pub commits : State → State
commits s = record { hut = s.hut; log = commit_first s.log }

abbrev pub is_primary : State → Bool
is_primary s = s.hut == leader s.log.committed

-- another's tentative entry, with the vector of what stood before it
abbrev pub take_tentative_refusal : PlainEntry → List ℕ → State → Option ℕ
take_tentative_refusal e stood s =
    cond (has e.mark (all_of s.log)) (Some 3)
    (cond (not (covers (vector_of (all_of s.log)) stood)) (Some 5) (cond (no_room s e.mark.stamp) (Some 8) None))

-- a committed entry, with its place among the committed ones
abbrev pub with_committed : PlainEntry → State → State
with_committed e s = record { hut = s.hut; log = add_committed e s.log }

abbrev pub take_committed_refusal : ℕ → PlainMark → State → Option ℕ
take_committed_refusal place m s =
    cond (has m s.log.committed) (Some 3)
    (cond (not (place == length s.log.committed)) (Some 4)
    (cond (has m s.log.tentative) None (cond (no_room s m.stamp) (Some 8) None)))

-- a guest with a slip is served where the replica knows as much, and is told what it knows
abbrev pub serves : List ℕ → State → Bool
serves slip s = covers (vector_of (all_of s.log)) slip

abbrev pub slip_after : List ℕ → State → List ℕ
slip_after slip s = joined_with slip (vector_of (all_of s.log))

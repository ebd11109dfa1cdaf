-- Records as bytes, and the history that bytes tell.
use Rattle.std.specs.Prelude.{◌≡◌, ℕ, zero, suc, ◌≤◌, cond, List, [], ◌∷◌, ◌++◌, length, take, Some, None, Option, ◌==◌}
use Rattle.bookings.specs.Plain.{PlainEntry}
use Rattle.letters.specs.Answers.{Answer, got, short, out, after}
use Rattle.letters.specs.Format.{encode, read_one, reads}
use Rattle.letters.specs.Laws.{EntryOk}
use Rattle.entry_log.specs.Vectors.{no_stamps}
use Rattle.replica.specs.Model.{State, with_tentative, with_committed, take_tentative_refusal, take_committed_refusal}
use Rattle.journal.specs.History.{PlainRecord, Tentative, Committed, state_with}

-- WRITING

abbrev pub encode_record : PlainRecord → List ℕ
encode_record (Committed e) = 1 ∷ encode e
encode_record (Tentative e) = 2 ∷ encode e

-- the bytes of a history, whose newest record stands last
abbrev pub bytes_of : List PlainRecord → List ℕ
bytes_of [] = []
bytes_of (r ∷ rs) = bytes_of rs ++ encode_record r

-- READING

abbrev pub read_entry_as : (PlainEntry → PlainRecord) → List ℕ → Answer PlainRecord
read_entry_as kind bs = after (reads bs) (λ e r. got (kind e) r)

abbrev pub read_record : List ℕ → Answer PlainRecord
read_record bs = after (read_one bs) (λ n r. cond (n == 1) (read_entry_as Committed r) (cond (n == 2) (read_entry_as Tentative r) out))

-- what a record does to a replica
abbrev pub with_record : PlainRecord → State → State
with_record (Tentative e) s = with_tentative e s
with_record (Committed e) s = with_committed e s

-- why a record cannot stand next: what the replica would refuse, with nothing said of what stood before it
abbrev pub replay_refusal : PlainRecord → State → Option ℕ
replay_refusal (Tentative e) s = take_tentative_refusal e no_stamps s
replay_refusal (Committed e) s = take_committed_refusal (length s.log.committed) e.mark s

abbrev pub if_stands : {A : Type 0} → Option ℕ → A → A → A
if_stands None it none = it
if_stands (Some number) it none = none

-- what is made of a record that was read, and of none
abbrev pub if_read : {A : Type 0} → Answer PlainRecord → (PlainRecord → List ℕ → A) → A → A
if_read (got r rest) f none = f r rest
if_read short f none = none
if_read out f none = none

-- a history, and behind it the records that bytes begin with, as far as they are whole, in range, and can stand; n of them at most
abbrev pub history_from : ℕ → ℕ → List PlainRecord → List ℕ → List PlainRecord
history_from zero hut rs bs = rs
history_from (suc n) hut rs bs =
    if_read (read_record bs) (λ r rest. if_stands (replay_refusal r (state_with hut rs)) (history_from n hut (r ∷ rs) rest) rs) rs

-- the history that is found on a medium
abbrev pub history_in : ℕ → List ℕ → List PlainRecord
history_in hut bs = history_from (length bs) hut [] bs

-- WHAT CAN STAND

abbrev pub entry_of : PlainRecord → PlainEntry
entry_of (Tentative e) = e
entry_of (Committed e) = e

-- each record of a history fits the format, and can stand where it stands
abbrev pub Stands : ℕ → List PlainRecord → Type 0
Stands hut [] = Unit {0}
Stands hut (r ∷ rs) = EntryOk (entry_of r) × (replay_refusal r (state_with hut rs) ≡ None) × Stands hut rs

-- a replica that was opened: it is what the bytes tell, whose first so many are those of its history
pub record Replayed (hut : ℕ) (bytes : List ℕ) (whole : ℕ) (s : State) : Type 0 where
  pub state : s ≡ state_with hut (history_in hut bytes)
  pub len : whole ≡ length (bytes_of (history_in hut bytes))
  pub within : whole ≤ length bytes
  pub front : take whole bytes ≡ bytes_of (history_in hut bytes)
  pub stands : Stands hut (history_in hut bytes)

-- A replica as the history of its journal: records, the newest first. Its log, and all else of it, is computed from that.
use Rattle.std.specs.Prelude.{ℕ, cond, List, [], ◌∷◌, ◌++◌, drop, Some, None, Option}
use Rattle.bookings.specs.Plain.{PlainKind, PlainEntry}
use Rattle.entry_log.specs.Logs.{PlainLog, empty_log, add_tentative, add_committed, first_entry}
use Rattle.replica.specs.Model.{State, entry_made, make_refusal, is_primary, take_tentative_refusal, take_committed_refusal}

-- an entry was made or taken as tentative; or it was committed or taken as committed
pub data PlainRecord : Type 0 where
  Tentative : PlainEntry → PlainRecord
  Committed : PlainEntry → PlainRecord

abbrev pub log_of : List PlainRecord → PlainLog
log_of [] = empty_log
log_of (Tentative e ∷ rs) = add_tentative e (log_of rs)
log_of (Committed e ∷ rs) = add_committed e (log_of rs)

-- a replica over its journal: the records that are synced, and those that were written after them
pub record Kept : Type 0 where
  pub hut : ℕ
  pub pending : List PlainRecord
  pub durable : List PlainRecord

abbrev pub empty : ℕ → Kept
empty hut = record { hut = hut; pending = []; durable = [] }

-- opened with a history, all of it synced
abbrev pub opened : ℕ → List PlainRecord → Kept
opened hut rs = record { hut = hut; pending = []; durable = rs }

abbrev pub history_of : Kept → List PlainRecord
history_of k = k.pending ++ k.durable

abbrev pub state_with : ℕ → List PlainRecord → State
state_with hut rs = record { hut = hut; log = log_of rs }

abbrev pub state_in : Kept → State
state_in k = state_with k.hut (history_of k)

abbrev pub wrote : PlainRecord → Kept → Kept
wrote r k = record { hut = k.hut; pending = r ∷ k.pending; durable = k.durable }

abbrev pub synced : Kept → Kept
synced k = record { hut = k.hut; pending = []; durable = history_of k }

-- a crash loses the newest records that are not synced, so many of them
abbrev pub crashed : ℕ → Kept → Kept
crashed lost k = record { hut = k.hut; pending = drop lost k.pending; durable = k.durable }

-- what is refused leaves all as it was
abbrev pub unless : Option ℕ → Kept → Kept → Kept
unless None before after = after
unless (Some number) before after = before

abbrev pub makes : PlainKind → Kept → Kept
makes kind k = unless (make_refusal kind (state_in k)) k (wrote (Tentative (entry_made kind (state_in k))) k)

-- the primary commits its first tentative entry, if there is one
abbrev pub commits_entry : Option PlainEntry → Kept → Kept
commits_entry None k = k
commits_entry (Some e) k = wrote (Committed e) k

abbrev pub commits : Kept → Kept
commits k = cond (is_primary (state_in k)) (commits_entry (first_entry (state_in k).log.tentative) k) k

abbrev pub takes_tentative : PlainEntry → List ℕ → Kept → Kept
takes_tentative e stood k = unless (take_tentative_refusal e stood (state_in k)) k (wrote (Tentative e) k)

abbrev pub takes_committed : ℕ → PlainEntry → Kept → Kept
takes_committed place e k = unless (take_committed_refusal place e.mark (state_in k)) k (wrote (Committed e) k)

-- A replica and its journal in step, and what a call does to both.
use Rattle.std.specs.Prelude.{◌≡◌, ℕ, ◌+◌, true, false, List, length, take, None, vec_items}
use Rattle.journal.specs.declared.limits.TheConstants.{MAX_JOURNAL_BYTES, MAX_RECORDS}
use Rattle.replica.specs.Model.{State}
use Rattle.replica.specs.Views.{state_of}
use Rattle.journal.specs.declared.keeper.Keeper.{Keeper}
use Rattle.journal.specs.declared.appender.Appender.{Appender}
use Rattle.journal.specs.declared.memory.Memory.{Memory}
use Rattle.journal.specs.Phases.{is_synced, is_shut}
use Rattle.journal.specs.History.{PlainRecord, Kept, history_of, state_in}
use Rattle.journal.specs.Finding.{FindsOf}
use Rattle.journal.specs.Records.{bytes_of, with_record, replay_refusal, Stands}

-- the journal has the bytes of a history, those of its durable part synced, and the replica is what the history makes
pub record Keeps (has : List ℕ → ℕ → Type 0) (s : State) (k : Kept) : Type 0 where
  pub bytes : has (bytes_of (history_of k)) (length (bytes_of k.durable))
  pub state : s ≡ state_in k
  pub stands : Stands k.hut (history_of k)

-- a state comes of another by a record that can stand next
abbrev pub Follows : PlainRecord → State → State → Type 0
Follows r s t = (replay_refusal r s ≡ None) × (t ≡ with_record r s)

-- a replica over its journal, which has bytes by `keeps`, is in step
abbrev pub InStep : {J : Type 0} → (J → List ℕ → ℕ → Type 0) → Keeper J → Kept → Type 0
InStep keeps q k = Keeps (keeps q.journal) (state_of q.replica) k

-- whatever is kept before a call, this of it is kept afterwards
abbrev pub Moves : {J : Type 0} → (J → List ℕ → ℕ → Type 0) → Keeper J → Keeper J → (Kept → Kept) → Type 0
Moves keeps before after step = (k : Kept) → InStep keeps before k → InStep keeps after (step k)

-- whatever is kept before a call that fails, a stop leaves what it may leave of this: all that was synced before, and of what the call would have
-- written behind it some first part
abbrev pub Fails : {J : Type 0} → (J → List ℕ → ℕ → Type 0) → (J → List ℕ → Type 0) → Keeper J → Keeper J → (Kept → Kept) → Type 0
Fails keeps finds before after step = (k : Kept) → InStep keeps before k → FindsOf (finds after.journal) (step k)

-- the state of its replica
abbrev pub state_by : {J : Type 0} → Keeper J → State
state_by q = state_of q.replica

-- how many records there can be, and how many bytes of them
abbrev pub most_records : ℕ
most_records = MAX_RECORDS

abbrev pub most_bytes : ℕ
most_bytes = MAX_JOURNAL_BYTES

-- what a journal in memory has: it is open, these are its bytes, and so many of them are synced
abbrev pub InMemory : Appender Memory → List ℕ → ℕ → Type 0
InMemory j bs n = (is_shut j.phase ≡ false) × ((vec_items j.medium.held ≡ bs) × (j.medium.settled ≡ n)) × (is_synced j.phase ≡ true → n ≡ length bs)

-- what a crash leaves of it, if so many bytes are kept that were not synced
abbrev pub left_by : ℕ → Memory → List ℕ
left_by kept m = take (m.settled + kept) (vec_items m.held)

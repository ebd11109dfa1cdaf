-- Replicas over journals in memory, and what each has kept.
use Rattle.std.specs.Prelude.{◌≡◌, ◌≢◌, ℕ, ◌<◌, ◌⊎◌, true, false, List, [], map, length, get_or, take, Option, None, Some, vec_items, vec_capacity}
use Rattle.journal.specs.History.{Kept, synced}
use Rattle.journal.specs.Keeping.{InStep, InMemory, state_by, most_bytes}
use Rattle.journal.specs.Phases.{is_synced}
use Rattle.journal.specs.declared.appender.Appender.{Appender}
use Rattle.journal.specs.declared.keeper.Keeper.{Keeper}
use Rattle.journal.specs.declared.memory.Memory.{Memory}
use Rattle.replica.specs.Model.{State, fresh}
use Rattle.network.specs.Net.{huts, put}
use Rattle.letters.specs.Letters.{encode_letter}
use Rattle.network.specs.Taking.{letter_for}
use Rattle.network.specs.declared.stage.Stage.{Stage}
use Rattle.network.specs.declared.unplayed.Unplayed.{Unplayed}
use Rattle.network.specs.declared.unplayed.Unplayed.TheVariants as unplayed

abbrev pub Hut : Type 0
Hut = Keeper (Appender Memory)

-- the state of the replica at a place, and whose it is
abbrev pub state_at : List Hut → ℕ → State
state_at qs i = get_or (map (λ q. state_by q) qs) i (fresh 0)

abbrev pub hut_at : List Hut → ℕ → ℕ
hut_at qs i = (state_at qs i).hut

-- the replicas are of different huts; each is in step with what is kept of its hut, and its journal has room for all that it can ever have
pub record Follows (qs : List Hut) (kept : ℕ → Kept) : Type 0 where
  pub in_step : (i : ℕ) (q : Hut) → i < length qs → InStep InMemory (get_or qs i q) (kept (hut_at qs i))
  pub room : (i : ℕ) (q : Hut) → i < length qs → most_bytes < vec_capacity (get_or qs i q).journal.medium.held
  pub small : (i : ℕ) → i < length qs → hut_at qs i < huts
  pub differ : (i j : ℕ) → i < length qs → j < length qs → hut_at qs i ≡ hut_at qs j → i ≡ j

-- something of the replica at a place is not synced
abbrev pub Unsynced : List Hut → ℕ → Type 0
Unsynced qs i = (q : Hut) → is_synced (get_or qs i q).journal.phase ≡ false

-- nothing of it waits to be synced
abbrev pub Synced : List Hut → ℕ → Type 0
Synced qs i = (q : Hut) → is_synced (get_or qs i q).journal.phase ≡ true

-- each place has a replica of the hut that it had
abbrev pub SameHuts : List Hut → List Hut → Type 0
SameHuts qs ps = (j : ℕ) → hut_at ps j ≡ hut_at qs j

-- whatever is kept before a call, a step at one place makes this of it
abbrev pub Turns : List Hut → List Hut → ℕ → (Kept → Kept) → Type 0
Turns qs ps i step =
    (kept : ℕ → Kept) → Follows qs kept → Follows ps (put (hut_at qs i) (step (kept (hut_at qs i))) kept) × SameHuts qs ps

-- a call that cannot fail, since each journal has room
abbrev pub Never : List Hut → Type 0
Never qs = (kept : ℕ → Kept) → Follows qs kept → ⊥

-- what an act leaves that is not done, where a refusal makes this of what was kept: for want of memory all is as it was, or synced; no journal fails
abbrev pub Unmoved : List Hut → List Hut → ℕ → (Kept → Kept) → Unplayed → Type 0
Unmoved qs ps i refused unplayed.Memory = Turns qs ps i (λ k. k) ⊎ Turns qs ps i synced
Unmoved qs ps i refused (unplayed.Refused w) = Turns qs ps i refused
Unmoved qs ps i refused (unplayed.Failed f) = Never qs

-- the replicas of a stage
abbrev pub huts_of : Stage → List Hut
huts_of s = vec_items s.keepers

-- the letters written so far, as bytes
abbrev pub bytes_sent : Stage → List (List ℕ)
bytes_sent s = map (λ v. vec_items v) (vec_items s.letters)

-- none of the letters has these bytes
abbrev pub Unwritten : List (List ℕ) → List ℕ → Type 0
Unwritten sent bs = (i : ℕ) → i < length sent → get_or sent i [] ≢ bs

-- all of some bytes, or the first of them
abbrev pub part_of : Option ℕ → List ℕ → List ℕ
part_of None bs = bs
part_of (Some count) bs = take count bs

-- the bytes that the replica at a place writes for one who says to have so many committed entries and these stamps
abbrev pub bytes_for : Stage → ℕ → (count : ℕ) → (has : List ℕ) → List ℕ
bytes_for s i count has = encode_letter (letter_for count has (state_at (huts_of s) i))

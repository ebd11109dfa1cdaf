-- What comes of an act at a replica.
use Rattle.std.specs.Prelude.{◌≡◌, ℕ, ◌-◌, ◌<◌, Bool, true, false, List, [], length, get_or, take, Some, None, Option}
use Rattle.std.specs.Option.{option_map}
use Rattle.bookings.specs.Plain.{plain_kind, plain_mark}
use Rattle.bookings.specs.Refusals.{number_of}
use Rattle.bookings.specs.declared.entry.Mark.{Mark}
use Rattle.bookings.specs.declared.refusal.Refusal.{Refusal}
use Rattle.entry_log.specs.Logs.{first_mark}
use Rattle.entry_log.specs.declared.vector.Vector.{Vector}
use Rattle.journal.specs.Keeping.{left_by, state_by}
use Rattle.journal.specs.Records.{bytes_of, history_in}
use Rattle.replica.specs.Model.{make_refusal, next_mark, is_primary, serves, slip_after}
use Rattle.network.specs.Stages.{Hut, state_at}
use Rattle.network.specs.declared.act.Act.{Act}
use Rattle.network.specs.declared.act.Act.TheVariants as acts
use Rattle.network.specs.declared.act.Done.{Done}
use Rattle.network.specs.declared.act.Done.TheVariants as dones

-- how many bytes behind the last record a crash leaves, if of what was not synced so many bytes are left
abbrev pub cut_of : ℕ → Hut → ℕ
cut_of left q = length (left_by left q.journal.medium) - length (bytes_of (history_in (state_by q).hut (left_by left q.journal.medium)))

-- what is told of an act that is done at a place, where so many letters were written before
abbrev pub Told : List Hut → ℕ → ℕ → Act → Done → Type 0
Told qs i letters (acts.Make kind) d =
    (m : Mark) × (d ≡ dones.Made m) × (make_refusal (plain_kind kind) (state_at qs i) ≡ None) × (plain_mark m ≡ next_mark (state_at qs i))
Told qs i letters acts.Commit d =
    (m : Option Mark) × (d ≡ dones.Committed m) × (is_primary (state_at qs i) ≡ true) × (option_map plain_mark m ≡ first_mark (state_at qs i).log.tentative)
Told qs i letters acts.Sync d = d ≡ dones.Synced
Told qs i letters (acts.Write has) d = d ≡ dones.Written letters
Told qs i letters (acts.Take letter) d = (d ≡ dones.Taken) × (letter < letters)
Told qs i letters (acts.Cut letter len) d = (d ≡ dones.Taken) × (letter < letters)
Told qs i letters (acts.Crash left) d = (cut : ℕ) × (d ≡ dones.Crashed cut) × ((q : Hut) → cut ≡ cut_of left (get_or qs i q))
Told qs i letters (acts.Visit slip) d =
    (v : Vector) × (d ≡ dones.Visited v) × (serves slip.stamps (state_at qs i) ≡ true) × (v.stamps ≡ slip_after slip.stamps (state_at qs i))

-- which refusal an act meets, and just when
abbrev pub Denied : List Hut → ℕ → ℕ → Act → Refusal → Type 0
Denied qs i letters (acts.Make kind) w = make_refusal (plain_kind kind) (state_at qs i) ≡ Some (number_of w)
Denied qs i letters acts.Commit w = (is_primary (state_at qs i) ≡ false) × (number_of w ≡ 6)
Denied qs i letters acts.Sync w = ⊥
Denied qs i letters (acts.Write has) w = ⊥
Denied qs i letters (acts.Take letter) w = (number_of w ≡ 2) × (letter < letters → ⊥)
Denied qs i letters (acts.Cut letter len) w = (number_of w ≡ 2) × (letter < letters → ⊥)
Denied qs i letters (acts.Crash left) w = ⊥
Denied qs i letters (acts.Visit slip) w = (serves slip.stamps (state_at qs i) ≡ false) × (number_of w ≡ 7)

-- only a letter that is written needs memory
abbrev pub writes : Act → Bool
writes (acts.Make kind) = false
writes acts.Commit = false
writes acts.Sync = false
writes (acts.Write has) = true
writes (acts.Take letter) = false
writes (acts.Cut letter len) = false
writes (acts.Crash left) = false
writes (acts.Visit slip) = false

-- the bytes that come to the replica, of those that were sent
abbrev pub comes_of : List (List ℕ) → Act → Option (List ℕ)
comes_of sent (acts.Make kind) = None
comes_of sent acts.Commit = None
comes_of sent acts.Sync = None
comes_of sent (acts.Write has) = None
comes_of sent (acts.Take letter) = Some (get_or sent letter [])
comes_of sent (acts.Cut letter len) = Some (take len (get_or sent letter []))
comes_of sent (acts.Crash left) = None
comes_of sent (acts.Visit slip) = None

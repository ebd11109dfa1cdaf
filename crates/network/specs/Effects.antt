-- What a call makes of what its replica has kept.
use Rattle.std.specs.Prelude.{ℕ, ◌+◌, List, [], length, get_or, take, None, Some, Option}
use Rattle.bookings.specs.Plain.{PlainEntry, plain_kind}
use Rattle.entry_log.specs.Logs.{first_entry}
use Rattle.journal.specs.History.{Kept, commits, history_of, makes, opened, state_in, synced}
use Rattle.journal.specs.Records.{bytes_of, history_in}
use Rattle.network.specs.Taking.{take_bytes}
use Rattle.network.specs.declared.act.Act.{Act}
use Rattle.network.specs.declared.act.Act.TheVariants as acts

-- the entry that a commit is of, if there is one
abbrev pub first_of : Kept → Option PlainEntry
first_of k = first_entry (state_in k).log.tentative

-- what is committed is synced; where there is nothing to commit, nothing is
abbrev pub synced_if : Option PlainEntry → Kept → Kept
synced_if None k = k
synced_if (Some e) k = synced k

abbrev pub commits_synced : Kept → Kept
commits_synced k = synced_if (first_of k) (commits k)

-- a crash that leaves the first bytes of what was not synced, so many of them; what they tell is opened, and synced then
abbrev pub crash_leaves : (left : ℕ) → Kept → List ℕ
crash_leaves left k = take (length (bytes_of k.durable) + left) (bytes_of (history_of k))

abbrev pub reopens : (left : ℕ) → Kept → Kept
reopens left k = opened k.hut (history_in k.hut (crash_leaves left k))

-- what an act makes of it, where it is done and these letters were written before
abbrev pub effect_of : (sent : List (List ℕ)) → Act → Kept → Kept
effect_of sent (acts.Make kind) k = synced (makes (plain_kind kind) k)
effect_of sent acts.Commit k = commits_synced k
effect_of sent acts.Sync k = synced k
effect_of sent (acts.Write has) k = synced k
effect_of sent (acts.Take letter) k = take_bytes (get_or sent letter []) k
effect_of sent (acts.Cut letter len) k = take_bytes (take len (get_or sent letter [])) k
effect_of sent (acts.Crash left) k = reopens left k
effect_of sent (acts.Visit slip) k = synced k

-- and where it is refused: a guest is told so after a sync, and else all is as it was
abbrev pub refused_of : Act → Kept → Kept
refused_of (acts.Make kind) k = k
refused_of acts.Commit k = k
refused_of acts.Sync k = k
refused_of (acts.Write has) k = k
refused_of (acts.Take letter) k = k
refused_of (acts.Cut letter len) k = k
refused_of (acts.Crash left) k = k
refused_of (acts.Visit slip) k = synced k

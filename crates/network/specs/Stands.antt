-- A stage stands where some events have led the model of the network.
use Rattle.std.specs.Prelude.{◌≡◌, ℕ, ◌<◌, ◌⊎◌, cond, List, [], ◌∷◌, ◌++◌, map, length, get_or, nat_lt, None, Some, Option, MatchResult}
use Rattle.bookings.specs.Plain.{PlainEntry, plain_kind}
use Rattle.journal.specs.History.{Kept, crashed, synced}
use Rattle.letters.specs.Items.{waiting, placed_from}
use Rattle.letters.specs.Laws.{LetterOk}
use Rattle.letters.specs.Letters.{PlainLetter, damaged, encode_letter, read_letter}
use Rattle.network.specs.Effects.{effect_of, first_of, refused_of, reopens}
use Rattle.network.specs.Items.{Letter}
use Rattle.network.specs.Net.{Event, Makes, Commits, Syncs, Writes, Takes, Damaged, Crashes, after}
use Rattle.std.specs.declared.result.Result.{Result}
use Rattle.network.specs.Stages.{Follows, Turns, Unmoved, Unwritten, hut_at, huts_of, bytes_for, bytes_sent}
use Rattle.network.specs.declared.act.Act.{Act}
use Rattle.network.specs.declared.act.Act.TheVariants as acts
use Rattle.network.specs.declared.act.Done.{Done}
use Rattle.network.specs.declared.stage.Stage.{Stage}
use Rattle.network.specs.declared.unplayed.Unplayed.{Unplayed}
use Rattle.network.specs.declared.unplayed.Unplayed.TheVariants as unplayed

-- the bytes are those of a letter that can be written, with these items
abbrev pub Means : List ℕ → Letter → Type 0
Means bs l = (p : PlainLetter) × LetterOk p × (bs ≡ encode_letter p) × (l ≡ placed_from p.place p.committed ++ map waiting p.tentative)

-- each replica is in step with what its hut has kept after the events, and each letter is the one that was sent
pub record Stands (s : Stage) (es : List Event) : Type 0 where
  pub follows : Follows (huts_of s) (after es).hut
  pub as_many : length (bytes_sent s) ≡ length (after es).sent
  pub sent : (i : ℕ) → i < length (bytes_sent s) → Means (get_or (bytes_sent s) i []) (get_or (after es).sent i [])

-- a commit: it is synced, unless there was nothing to commit
abbrev pub commit_comes : ℕ → Option PlainEntry → List Event
commit_comes h None = Commits h ∷ []
commit_comes h (Some e) = Commits h ∷ Syncs h ∷ []

-- the first bytes of a letter: they are no letter, unless they are all
abbrev pub cut_comes : ℕ → (letter len : ℕ) → (bytes : List ℕ) → List Event
cut_comes h letter len bs = cond (nat_lt len (length bs)) (Damaged h ∷ []) (Takes h letter ∷ [])

-- a crash that leaves so many bytes of what was not synced: it loses the records that are not whole in them
abbrev pub CrashComes : ℕ → (left : ℕ) → Kept → List Event → Type 0
CrashComes h left k es = (lost : ℕ) × (es ≡ Crashes h lost ∷ Syncs h ∷ []) × (synced (crashed lost k) ≡ reopens left k)

-- the events that an act at a hut comes to, where it is done, the hut has kept this, and these letters were written before
abbrev pub Comes : (sent : List (List ℕ)) → ℕ → Kept → Act → List Event → Type 0
Comes sent h k (acts.Make kind) es = es ≡ Makes h (plain_kind kind) ∷ Syncs h ∷ []
Comes sent h k acts.Commit es = es ≡ commit_comes h (first_of k)
Comes sent h k acts.Sync es = es ≡ Syncs h ∷ []
Comes sent h k (acts.Write has) es = es ≡ Writes h has.committed has.vector.stamps ∷ []
Comes sent h k (acts.Take letter) es = es ≡ Takes h letter ∷ []
Comes sent h k (acts.Cut letter len) es = es ≡ cut_comes h letter len (get_or sent letter [])
Comes sent h k (acts.Crash left) es = CrashComes h left k es
Comes sent h k (acts.Visit slip) es = es ≡ Syncs h ∷ []

-- what a refusal comes to: a guest that is not served is told so after a sync
abbrev pub refusal_comes : ℕ → Act → List Event
refusal_comes h (acts.Make kind) = []
refusal_comes h acts.Commit = []
refusal_comes h acts.Sync = []
refusal_comes h (acts.Write has) = []
refusal_comes h (acts.Take letter) = []
refusal_comes h (acts.Cut letter len) = []
refusal_comes h (acts.Crash left) = []
refusal_comes h (acts.Visit slip) = Syncs h ∷ []

-- and what an act that is not done comes to: for want of memory nothing, or a sync
abbrev pub Stays : ℕ → Act → Unplayed → List Event → Type 0
Stays h act unplayed.Memory es = (es ≡ []) ⊎ (es ≡ Syncs h ∷ [])
Stays h act (unplayed.Refused w) es = es ≡ refusal_comes h act
Stays h act (unplayed.Failed f) es = ⊥

-- what an act leaves at a place, whatever was kept there
abbrev pub Turned : Stage → Stage → ℕ → Act → Result Done Unplayed → Type 0
Turned s t i act r = MatchResult r (λ _. Turns (huts_of s) (huts_of t) i (effect_of (bytes_sent s) act)) (Unmoved (huts_of s) (huts_of t) i (refused_of act))

-- what an act has come to after the events so far
abbrev pub Went : Stage → Stage → ℕ → Act → Result Done Unplayed → List Event → Type 0
Went s t i act r es =
    (more : List Event) × Stands t (es ++ more)
    × MatchResult r (λ _. Comes (bytes_sent s) (hut_at (huts_of s) i) ((after es).hut (hut_at (huts_of s) i)) act more) (λ e. Stays (hut_at (huts_of s) i) act e more)

-- what bytes from elsewhere have come to: those of a letter that was written are that letter, and those of no letter are nothing
abbrev pub Heard : Stage → Stage → ℕ → List ℕ → List Event → Type 0
Heard s t i bs es =
    ((nth : ℕ) → nth < length (bytes_sent s) → get_or (bytes_sent s) nth [] ≡ bs → Stands t (es ++ Takes (hut_at (huts_of s) i) nth ∷ []))
    × (read_letter bs ≡ damaged → Stands t es)

-- a letter that none of the huts wrote
abbrev pub Forged : List (List ℕ) → List ℕ → Type 0
Forged sent bs = Unwritten sent bs × (read_letter bs ≡ damaged → ⊥)

-- the letters that an act leaves: one more where one was written
abbrev pub Sent : Stage → Stage → ℕ → Act → Result Done Unplayed → Type 0
Sent s t i (acts.Write has) r =
    MatchResult r (λ _. bytes_sent t ≡ bytes_sent s ++ bytes_for s i has.committed has.vector.stamps ∷ []) (λ _. bytes_sent t ≡ bytes_sent s)
Sent s t i (acts.Make kind) r = bytes_sent t ≡ bytes_sent s
Sent s t i acts.Commit r = bytes_sent t ≡ bytes_sent s
Sent s t i acts.Sync r = bytes_sent t ≡ bytes_sent s
Sent s t i (acts.Take letter) r = bytes_sent t ≡ bytes_sent s
Sent s t i (acts.Cut letter len) r = bytes_sent t ≡ bytes_sent s
Sent s t i (acts.Crash left) r = bytes_sent t ≡ bytes_sent s
Sent s t i (acts.Visit slip) r = bytes_sent t ≡ bytes_sent s

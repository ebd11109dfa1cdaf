-- Huts and letters by their numbers.
use Rattle.std.specs.Prelude.{◌≡◌, ℕ, ◌-◌, ◌<◌, ◌≤◌, ◌⊎◌, List, [], ◌∷◌, ◌++◌, map, length, get_or, vec_items, vec_len, MatchResult}
use Rattle.bookings.specs.Refusals.{number_of}
use Rattle.bookings.specs.declared.refusal.Refusal.{Refusal}
use Rattle.journal.specs.Finding.{Found}
use Rattle.journal.specs.History.{Kept}
use Rattle.journal.specs.Keeping.{state_by}
use Rattle.network.specs.Acts.{Told, Denied, cut_of}
use Rattle.network.specs.Casts.{Absent}
use Rattle.network.specs.Net.{Event, Syncs, Writes, after, put}
use Rattle.network.specs.Replicas.{committed_in, vector_in}
use Rattle.network.specs.Stages.{Follows, Hut, bytes_sent, hut_at, huts_of}
use Rattle.network.specs.Stands.{Comes, Stands, Stays}
use Rattle.network.specs.Taking.{take_bytes}
use Rattle.network.specs.declared.act.Act.{Act}
use Rattle.network.specs.declared.act.Done.{Done}
use Rattle.network.specs.declared.stage.Stage.{Stage}
use Rattle.network.specs.declared.unplayed.Unplayed.{Unplayed}
use Rattle.network.specs.declared.unplayed.Unplayed.TheVariants as unplayed
use Rattle.rehearsal.specs.declared.cast.Cast.{Cast}
use Rattle.std.specs.declared.result.Result.{Result}

-- a hut's replica has a place
abbrev pub PlacedAt : List Hut → (hut place : ℕ) → Type 0
PlacedAt qs hut p = (p < length qs) × (hut_at qs p ≡ hut)

abbrev pub Present : ℕ → List Hut → Type 0
Present hut qs = (p : ℕ) × PlacedAt qs hut p

-- what is told of an act that a hut does, and which refusal it meets
abbrev pub ToldBy : Stage → (hut : ℕ) → Act → Done → Type 0
ToldBy s hut act d = (p : ℕ) × PlacedAt (huts_of s) hut p × Told (huts_of s) p (vec_len s.letters) act d

abbrev pub DeniedBy : Stage → (hut : ℕ) → Act → Refusal → Type 0
DeniedBy s hut act w =
    ((number_of w ≡ 2) × Absent hut (huts_of s)) ⊎ ((p : ℕ) × PlacedAt (huts_of s) hut p × Denied (huts_of s) p (vec_len s.letters) act w)

-- what an act of a hut has come to after the events so far; where it is none of the huts, nothing
abbrev pub WentBy : Stage → Stage → (hut : ℕ) → Act → Result Done Unplayed → List Event → Type 0
WentBy s t hut act r es =
    (more : List Event) × Stands t (es ++ more)
    × MatchResult r (λ _. Comes (bytes_sent s) hut ((after es).hut hut) act more) (λ e. ((more ≡ []) × Absent hut (huts_of s)) ⊎ Stays hut act e more)

-- which letter has a number, counted from 1
abbrev pub letter_of : List ℕ → (number : ℕ) → ℕ
letter_of carried k = get_or carried (k - 1) 0

-- a letter has the number, and is one of so many that were written
abbrev pub Numbered : List ℕ → (written number : ℕ) → Type 0
Numbered carried written k = (0 < k) × (k ≤ length carried) × (letter_of carried k < written)

-- its bytes
abbrev pub bytes_by : Cast → (number : ℕ) → List ℕ
bytes_by c k = get_or (bytes_sent c.rehearsal.stage) (letter_of (vec_items c.carried) k) []

-- there are a letter with that number, and that hut
abbrev pub CanCome : Cast → (number hut : ℕ) → Type 0
CanCome c k hut = Numbered (vec_items c.carried) (vec_len c.rehearsal.stage.letters) k × Present hut (huts_of c.rehearsal.stage)

-- refused by 2, and just where something does not hold; nothing else goes wrong
abbrev pub RefusedUnless : Type 0 → Unplayed → Type 0
RefusedUnless P unplayed.Memory = ⊥
RefusedUnless P (unplayed.Refused w) = (number_of w ≡ 2) × (P → ⊥)
RefusedUnless P (unplayed.Failed f) = ⊥

-- the events of a letter from one hut for what another has, which is synced before it is told
abbrev pub sends : (from to : ℕ) → Kept → List Event
sends from to has = Syncs to ∷ Writes from (length (committed_in has)) (vector_in has) ∷ []

-- how many bytes a crash cuts off a hut's journal, if of what was not synced so many are left
abbrev pub CutsOff : List Hut → (hut left cut : ℕ) → Type 0
CutsOff qs hut left cut = (p : ℕ) × PlacedAt qs hut p × ((q : Hut) → cut ≡ cut_of left (get_or qs p q))

-- what is kept once bytes have come to the replica at a place
abbrev pub heard_at : List Hut → (place : ℕ) → List ℕ → (ℕ → Kept) → ℕ → Kept
heard_at qs i bs kept = put (hut_at qs i) (take_bytes bs (kept (hut_at qs i))) kept

-- the replica at a place keeps that, and each other something
abbrev pub KeptAt : List Hut → (place : ℕ) → Kept → Type 0
KeptAt qs i k = (kept : ℕ → Kept) × Follows qs kept × (kept (hut_at qs i) ≡ k)

-- the replica at a place keeps something, and each other that
abbrev pub BesideAt : List Hut → (place : ℕ) → (ℕ → Kept) → Type 0
BesideAt qs i kept = (k : Kept) × Follows qs (put (hut_at qs i) k kept)

-- which place is meant, and whose huts stand at which
abbrev pub placing : List Hut → (place : ℕ) → ℕ × List ℕ
placing qs i = (i, map (λ q. (state_by q).hut) qs)

-- a crash may leave these bytes of the journal of the replica at a place
abbrev pub FoundAt : List Hut → (place : ℕ) → List ℕ → Type 0
FoundAt qs i found = (q : Hut) × Found (vec_items (get_or qs i q).journal.medium.held) (get_or qs i q).journal.medium.settled found

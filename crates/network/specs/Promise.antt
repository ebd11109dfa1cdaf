-- What holds after every list of events: the laws of the network.
use Rattle.std.specs.Prelude.{◌≡◌, ℕ, zero, suc, ◌*◌, ◌<◌, ◌≤◌, Bool, true, false, ◌&&◌, ◌⊎◌, List, [], ◌∷◌, ◌++◌, length, drop, Some, None, slice_index_or}
use Rattle.entry_log.specs.declared.waiting.TheConstants.{MAX_LETTER_ENTRIES}
use mathlib.Core.List.{Memᴰ}
use Rattle.bookings.specs.Books.{book_of, named_by}
use Rattle.bookings.specs.Laws.{CameTo}
use Rattle.bookings.specs.Outcomes.{PlainGrant, holds}
use Rattle.bookings.specs.Plain.{PlainMark, PlainEntry, cancel}
use Rattle.journal.specs.History.{PlainRecord, Tentative, Kept, history_of, state_in}
use Rattle.entry_log.specs.Logs.{has}
use Rattle.entry_log.specs.Order.{Once}
use Rattle.entry_log.specs.Vectors.{vector_of, covers}
use Rattle.replica.specs.Model.{capacity, is_primary}
use Rattle.letters.specs.Items.{PlainItem, settled}
use Rattle.network.specs.Items.{Letter, words_for, all_for, refusal_of, takes}
use Rattle.network.specs.Lasting.{Lasting}
use Rattle.network.specs.Net.{Net, Event, Makes, Commits, Syncs, Writes, Takes, TakesBut, Damaged, Crashes, Visits, MakesFor, held, step, run, after, huts, served}
use Rattle.network.specs.Replicas.{committed_of, entries_of, committed_in, tentative_in, entries_in, vector_in}

-- a law holds after every list of events
abbrev pub Always : (List Event → Type 0) → Type 0
Always Law = (es : List Event) → Law es

-- one list is the beginning of another
abbrev pub Prefix : List PlainEntry → List PlainEntry → Type 0
Prefix a b = (c : List PlainEntry) × (b ≡ a ++ c)

-- LAW: of what two replicas have as committed, one is the beginning of the other.
abbrev pub OneOrder : List Event → Type 0
OneOrder es =
    (i j : ℕ)
    → Prefix (committed_in ((after es).hut i)) (committed_in ((after es).hut j)) ⊎ Prefix (committed_in ((after es).hut j)) (committed_in ((after es).hut i))

-- LAW: no two replicas may commit.
abbrev pub OnePrimary : List Event → Type 0
OnePrimary es = (i j : ℕ) → is_primary (state_in ((after es).hut i)) ≡ true → is_primary (state_in ((after es).hut j)) ≡ true → i ≡ j

-- LAW: the one that may has committed all that any replica has as committed, in the same order.
abbrev pub PrimaryLeads : List Event → Type 0
PrimaryLeads es = (i j : ℕ) → is_primary (state_in ((after es).hut i)) ≡ true → Prefix (committed_in ((after es).hut j)) (committed_in ((after es).hut i))

-- LAW: what is committed and durable never changes but at its end, whatever comes.
abbrev pub Final : List Event → Type 0
Final es = (later : List Event) (i : ℕ) → Prefix (committed_of ((after es).hut i).durable) (committed_of ((run later (after es)).hut i).durable)

-- an entry stands at a place in every replica that has that many committed
abbrev pub StandsAt : Net → ℕ → PlainEntry → Type 0
StandsAt n place e = (j : ℕ) (d : PlainEntry) → place < length (committed_in (n.hut j)) → slice_index_or (committed_in (n.hut j)) place d ≡ e

-- LAW: what was ever written in a letter as committed at a place, or shown to a guest as committed there, stands at that place, whatever comes,
-- in every replica that has that many committed.
abbrev pub HandedOnStays : List Event → Type 0
HandedOnStays es =
    (later : List Event)
    → ((l : Letter) (place : ℕ) (e : PlainEntry) → Memᴰ l (after es).sent → Memᴰ (settled place e) l → StandsAt (run later (after es)) place e)
    × ((g i place : ℕ) (d : PlainEntry) → i < huts → served ((after es).guest g) ((after es).hut i) ≡ true → place < length (committed_in ((after es).hut i))
    → StandsAt (run later (step (Visits g i) (after es))) place (slice_index_or (committed_in ((after es).hut i)) place d))

-- LAW: two replicas that know the same marks, with as many committed, have the same log, and so the same book, to the last bed and every outcome.
abbrev pub SameLog : List Event → Type 0
SameLog es =
    (i j : ℕ) → ((m : PlainMark) → has m (entries_in ((after es).hut i)) ≡ has m (entries_in ((after es).hut j)))
    → length (committed_in ((after es).hut i)) ≡ length (committed_in ((after es).hut j))
    → ((state_in ((after es).hut i)).log ≡ (state_in ((after es).hut j)).log) × (book_of (entries_in ((after es).hut i)) ≡ book_of (entries_in ((after es).hut j)))

-- an entry was made at its hut, which had just the records `older` then
abbrev pub MadeAfter : Net → PlainEntry → List PlainRecord → Type 0
MadeAfter n e older = (newer : List PlainRecord) × (history_of (n.hut e.mark.hut) ≡ newer ++ Tentative e ∷ older)

-- LAW: each mark stands in a log once, and only what was made stands in one.
abbrev pub OnceEach : List Event → Type 0
OnceEach es =
    (i : ℕ)
    → Once (entries_in ((after es).hut i))
    × ((e : PlainEntry) → Memᴰ e (entries_in ((after es).hut i)) → (older : List PlainRecord) × MadeAfter (after es) e older)

-- LAW: an entry stands, in every log that has it, behind all that its maker knew when making it.
abbrev pub BehindKnown : List Event → Type 0
BehindKnown es =
    (i : ℕ) (front back : List PlainEntry) (e : PlainEntry) → entries_in ((after es).hut i) ≡ front ++ e ∷ back
    → (older : List PlainRecord) → MadeAfter (after es) e older → (k : PlainEntry) → Memᴰ k (entries_of older) → Memᴰ k front

-- LAW: a cancellation or a change stands, in every log that has it, behind the entry that it names.
abbrev pub NamedBefore : List Event → Type 0
NamedBefore es =
    (i : ℕ) (front back : List PlainEntry) (e : PlainEntry) (m : PlainMark) → entries_in ((after es).hut i) ≡ front ++ e ∷ back
    → named_by e.kind ≡ Some m → has m front ≡ true

-- LAW: in every log that has a cancellation, the booking that it names holds nothing.
abbrev pub CancelledHoldsNothing : List Event → Type 0
CancelledHoldsNothing es =
    (i : ℕ) (c : PlainEntry) (m : PlainMark) (g : PlainGrant) → Memᴰ c (entries_in ((after es).hut i)) → c.kind ≡ cancel m
    → CameTo (book_of (entries_in ((after es).hut i))) m (holds g) → ⊥

-- LAW: who knows an entry knows all that its hut made before it.
abbrev pub NoGaps : List Event → Type 0
NoGaps es =
    (i j : ℕ) (e f : PlainEntry) → Memᴰ e (entries_in ((after es).hut j)) → Memᴰ f (entries_in ((after es).hut i))
    → e.mark.hut ≡ f.mark.hut → e.mark.stamp < f.mark.stamp → Memᴰ e (entries_in ((after es).hut i))

-- LAW: the vector of what stands first in a log says the same as the entries themselves: who covers it knows them, and who knows them covers it.
abbrev pub VectorsSay : List Event → Type 0
VectorsSay es =
    (i j : ℕ) (front : List PlainEntry) → Prefix front (entries_in ((after es).hut i))
    → (covers (vector_in ((after es).hut j)) (vector_of front) ≡ true → (k : PlainEntry) → Memᴰ k front → Memᴰ k (entries_in ((after es).hut j)))
    × (((k : PlainEntry) → Memᴰ k front → Memᴰ k (entries_in ((after es).hut j))) → covers (vector_in ((after es).hut j)) (vector_of front) ≡ true)

-- LAW: what a replica had synced it knows from then on, whatever comes: crashes too.
abbrev pub KnownStays : List Event → Type 0
KnownStays es =
    (later : List Event) (i : ℕ) (k : PlainEntry) → Memᴰ k (entries_of ((after es).hut i).durable) → Memᴰ k (entries_in ((run later (after es)).hut i))

-- LAW: so it does with all that it knew when it wrote a letter.
abbrev pub KnownWhenWritten : List Event → Type 0
KnownWhenWritten es =
    (later : List Event) (i count : ℕ) (has : List ℕ) → i < huts → (k : PlainEntry) → Memᴰ k (entries_in ((after es).hut i))
    → Memᴰ k (entries_in ((run later (step (Writes i count has) (after es))).hut i))

-- LAW: however late a letter comes, the vector of what stood before an entry when it was written says the same as those entries themselves, in every
-- replica and in every state that comes later.
abbrev pub StoodSays : List Event → Type 0
StoodSays es =
    (later : List Event) (i j : ℕ) (front : List PlainEntry) → Prefix front (entries_of ((after es).hut i).durable)
    → (covers (vector_in ((run later (after es)).hut j)) (vector_of front) ≡ true → (k : PlainEntry) → Memᴰ k front → Memᴰ k (entries_in ((run later (after es)).hut j)))
    × (((k : PlainEntry) → Memᴰ k front → Memᴰ k (entries_in ((run later (after es)).hut j))) → covers (vector_in ((run later (after es)).hut j)) (vector_of front) ≡ true)

-- LAW: a guest that is served finds all that it was shown or had made before, wherever that was.
abbrev pub GuestsKeep : List Event → Type 0
GuestsKeep es =
    (g i : ℕ) → served ((after es).guest g) ((after es).hut i) ≡ true
    → (k : PlainEntry) → Memᴰ k (held ((after es).guest g)) → Memᴰ k (entries_in ((after es).hut i))

-- LAW: a slip says no more than that: a guest is served wherever all is known that it was shown or had made.
abbrev pub SlipsSay : List Event → Type 0
SlipsSay es =
    (g i : ℕ) → ((k : PlainEntry) → Memᴰ k (held ((after es).guest g)) → Memᴰ k (entries_in ((after es).hut i)))
    → served ((after es).guest g) ((after es).hut i) ≡ true

-- how many times an entry was to be made
unfoldable pub makings : List Event → ℕ
makings [] = 0
makings (Makes i kind ∷ es) = suc (makings es)
makings (Commits i ∷ es) = makings es
makings (Syncs i ∷ es) = makings es
makings (Writes i count has ∷ es) = makings es
makings (Takes j nth ∷ es) = makings es
makings (TakesBut leaves j nth ∷ es) = makings es
makings (Damaged j ∷ es) = makings es
makings (Crashes i lost ∷ es) = makings es
makings (Visits g i ∷ es) = makings es
makings (MakesFor g i kind ∷ es) = suc (makings es)

-- hut i's letter for what hut j has, and all that it would have with no bound
abbrev pub letter_to : Net → ℕ → ℕ → Letter
letter_to n i j = words_for (length (committed_in (n.hut j))) (vector_in (n.hut j)) (n.hut i)

abbrev pub lacking : Net → ℕ → ℕ → Letter
lacking n i j = all_for (length (committed_in (n.hut j))) (vector_in (n.hut j)) (n.hut i)

-- hut j knows all that hut i knows, and has as many committed
abbrev pub Caught : Net → ℕ → ℕ → Type 0
Caught n i j =
    (length (committed_in (n.hut i)) ≤ length (committed_in (n.hut j)))
    × ((k : PlainEntry) → Memᴰ k (entries_in (n.hut i)) → Memᴰ k (entries_in (n.hut j)))

-- LAW: a letter for what a replica has brings something: it is empty only where the replica has all that its writer has; else its first item is
-- taken.
abbrev pub LettersBring : List Event → Type 0
LettersBring es =
    makings es < capacity → (i j : ℕ)
    → (letter_to (after es) i j ≡ [] → Caught (after es) i j)
    × ((w : PlainItem) (ws : Letter) → letter_to (after es) i j ≡ w ∷ ws → refusal_of w (state_in ((after es).hut j)) ≡ None)

-- each item is taken when its turn comes
abbrev pub AllTaken : Letter → Kept → Type 0
AllTaken [] k = Unit
AllTaken (w ∷ ws) k = (refusal_of w (state_in k) ≡ None) × AllTaken ws (takes w k)

-- LAW: a letter for what a replica has is taken whole, if it comes before the replica changes.
abbrev pub TakenWhole : List Event → Type 0
TakenWhole es = makings es < capacity → (i j : ℕ) → AllTaken (letter_to (after es) i j) ((after es).hut j)

-- hut i writes a letter for what hut j has, and j takes it; and so many letters one after another
abbrev pub exchange : Net → ℕ → ℕ → Net
exchange n i j = step (Takes j (length n.sent)) (step (Writes i (length (committed_in (n.hut j))) (vector_in (n.hut j))) n)

abbrev pub exchanges : ℕ → Net → ℕ → ℕ → Net
exchanges zero n i j = n
exchanges (suc count) n i j = exchanges count (exchange n i j) i j

-- LAW: each letter brings the next MAX_LETTER_ENTRIES items of all that is lacking; so of k items ⌈k / MAX_LETTER_ENTRIES⌉ letters, one after another, bring all.
abbrev pub LettersNeeded : List Event → Type 0
LettersNeeded es =
    makings es < capacity → (i j : ℕ) → i < huts → j < huts → (count : ℕ)
    → (lacking (exchanges count (after es) i j) i j ≡ drop (count * MAX_LETTER_ENTRIES) (lacking (after es) i j))
    × (length (lacking (after es) i j) ≤ count * MAX_LETTER_ENTRIES → Caught (exchanges count (after es) i j) i j)

-- handing on and committing alone: nobody makes anything, and nobody crashes
abbrev pub hands_on : Event → Bool
hands_on (Makes i kind) = false
hands_on (Commits i) = true
hands_on (Syncs i) = true
hands_on (Writes i count has) = true
hands_on (Takes j nth) = true
hands_on (TakesBut leaves j nth) = false
hands_on (Damaged j) = false
hands_on (Crashes i lost) = false
hands_on (Visits g i) = false
hands_on (MakesFor g i kind) = false

unfoldable pub all_hand_on : List Event → Bool
all_hand_on [] = true
all_hand_on (e ∷ es) = hands_on e && all_hand_on es

-- LAW: from every state handing on and committing alone can bring all replicas to one log, all of it committed, with every entry that any has
-- or that was ever synced, handed on, or shown to a guest.
abbrev pub CanAgree : List Event → Type 0
CanAgree es =
    makings es < capacity
    → (later : List Event) × (all_hand_on later ≡ true)
    × ((i : ℕ) → i < huts
    → (tentative_in ((run later (after es)).hut i) ≡ []) × (committed_in ((run later (after es)).hut i) ≡ committed_in ((run later (after es)).hut 0)))
    × ((e : PlainEntry) → Lasting es e → Memᴰ e (committed_in ((run later (after es)).hut 0)))

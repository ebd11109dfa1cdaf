-- Huts over journals of their own, wherever these are, that hand each other letters as bytes, and their guests: what the calls of their programs keep.
use Rattle.std.specs.Prelude.{◌≡◌, ℕ, ◌<◌, true, List, [], ◌∷◌, ◌++◌, length, get_or, None}
use Rattle.bookings.specs.Plain.{PlainKind}
use Rattle.bookings.specs.Ranges.{KindOk}
use Rattle.journal.specs.History.{Kept, empty, opened, synced, makes, commits, history_of, state_in}
use Rattle.journal.specs.Finding.{FoundOf}
use Rattle.journal.specs.Records.{history_in, Stands}
use Rattle.letters.specs.Laws.{KindFits, LetterOk}
use Rattle.letters.specs.Letters.{damaged, encode_letter, read_letter}
use Rattle.replica.specs.Model.{entry_made, make_refusal}
use Rattle.network.specs.Net.{Event, Guest, after, gives, huts, put, served, shown, start}
use Rattle.network.specs.Promised.{Promised}
use Rattle.network.specs.Stands.{Means}
use Rattle.network.specs.Taking.{letter_for, take_bytes}

-- what each hut has kept, the bytes of every letter that was ever written, and the guests
pub record Mail : Type 0 where
  pub hut : ℕ → Kept
  pub sent : List (List ℕ)
  pub guest : ℕ → Guest

abbrev pub no_mail : Mail
no_mail = record { hut = empty; sent = []; guest = start.guest }

abbrev pub keeping : ℕ → Kept → Mail → Mail
keeping i k m = record { hut = put i k m.hut; sent = m.sent; guest = m.guest }

abbrev pub posting : ℕ → Kept → List ℕ → Mail → Mail
posting i k bs m = record { hut = put i k m.hut; sent = m.sent ++ bs ∷ []; guest = m.guest }

abbrev pub meeting : (g : ℕ) → Guest → (i : ℕ) → Kept → Mail → Mail
meeting g x i k m = record { hut = put i k m.hut; sent = m.sent; guest = put g x m.guest }

-- the history that is opened, where these bytes were found
abbrev pub reopened : List ℕ → Kept → Kept
reopened found k = opened k.hut (history_in k.hut found)

-- each record of it fits the format, and can stand where it stands
abbrev pub Standing : Kept → Type 0
Standing k = Stands k.hut (history_of k)

-- a guest is shown what a hut knows, which is synced first
abbrev pub visited : (g i : ℕ) → Mail → Mail
visited g i m = meeting g (shown (m.guest g) (m.hut i)) i (synced (m.hut i)) m

-- a hut makes an entry for a guest, and syncs it
abbrev pub made_for : (g i : ℕ) → PlainKind → Mail → Mail
made_for g i kind m = meeting g (gives (m.guest g) (entry_made kind (state_in (m.hut i)))) i (synced (makes kind (m.hut i))) m

-- what an entry asks for is in range, and its numbers have four bytes
abbrev pub KindRanged : PlainKind → Type 0
KindRanged kind = KindOk kind × KindFits kind

-- One call at a hut, as the contracts of its program say what is kept. `make_unsynced` and `commit_unsynced` are calls whose sync failed: nothing more
-- is done at that hut before a stop. Bytes that come are no letter, or one that some hut wrote. After a stop at least what was synced is found, and
-- no more than was written. `visit` and `make_for` are the calls of a guest whom the hut serves.
pub data Call : Mail → Mail → Type 0 where
  make : {m : Mail} (i : ℕ) (kind : PlainKind) → i < huts → KindRanged kind → Call m (keeping i (synced (makes kind (m.hut i))) m)
  make_unsynced : {m : Mail} (i : ℕ) (kind : PlainKind) → i < huts → KindRanged kind → Call m (keeping i (makes kind (m.hut i)) m)
  commit : {m : Mail} (i : ℕ) → i < huts → Call m (keeping i (synced (commits (m.hut i))) m)
  commit_unsynced : {m : Mail} (i : ℕ) → i < huts → Call m (keeping i (commits (m.hut i)) m)
  sync : {m : Mail} (i : ℕ) → i < huts → Call m (keeping i (synced (m.hut i)) m)
  write : {m : Mail} (i count : ℕ) (has : List ℕ) → i < huts → Call m (posting i (synced (m.hut i)) (encode_letter (letter_for count has (state_in (m.hut i)))) m)
  hear_nothing : {m : Mail} (j : ℕ) (bs : List ℕ) → read_letter bs ≡ damaged → Call m (keeping j (take_bytes bs (m.hut j)) m)
  hear_letter : {m : Mail} (j nth : ℕ) → j < huts → nth < length m.sent → Call m (keeping j (take_bytes (get_or m.sent nth []) (m.hut j)) m)
  stop : {m : Mail} (i : ℕ) (found : List ℕ) → i < huts → FoundOf (m.hut i) found → Call m (keeping i (reopened found (m.hut i)) m)
  visit : {m : Mail} (g i : ℕ) → i < huts → served (m.guest g) (m.hut i) ≡ true → Call m (visited g i m)
  make_for : {m : Mail} (g i : ℕ) (kind : PlainKind) → i < huts → KindRanged kind → served (m.guest g) (m.hut i) ≡ true
      → make_refusal kind (state_in (m.hut i)) ≡ None → Call m (made_for g i kind m)

-- calls at any huts, one after another
pub data Calls : Mail → Mail → Type 0 where
  none : {m : Mail} → Calls m m
  then : {m n o : Mail} → Calls m n → Call n o → Calls m o

-- from empty replicas on
abbrev pub Runs : Mail → Type 0
Runs m = Calls no_mail m

-- each hut keeps what it keeps after the events, each letter has the bytes of the one that was sent, and the guests are the same
pub record Agrees (m : Mail) (es : List Event) : Type 0 where
  pub kept : (h : ℕ) → m.hut h ≡ (after es).hut h
  pub as_many : length m.sent ≡ length (after es).sent
  pub letters : (n : ℕ) → n < length m.sent → Means (get_or m.sent n []) (get_or (after es).sent n [])
  pub guests : (g : ℕ) → m.guest g ≡ (after es).guest g

-- LAW: whatever a replica over its journal hands on is a letter that the format can hold, so that who takes it reads just that.
abbrev pub HandsOnLetters : Type 0
HandsOnLetters = (k : Kept) → Standing k → (count : ℕ) (has : List ℕ) → LetterOk (letter_for count has (state_in k))

-- LAW: whatever the programs of all huts do, each record that is written can stand in the journal of its hut: so opening that finds it again.
abbrev pub AllStand : Type 0
AllStand = (m : Mail) → Runs m → (i : ℕ) → ((m.hut i).hut ≡ i) × Standing (m.hut i)

-- LAW: whatever the programs of all huts do, each over its own journal, with letters as bytes and with stops: it is a run of the network, and all its laws hold.
abbrev pub Mailed : Type 0
Mailed = (m : Mail) → Runs m → (es : List Event) × Agrees m es × Promised es

-- LAW: a guest who was served at a hut is served there from then on, whatever calls come, also stops, as long as its slip is not added to: so an entry
-- that is made there for it is made where it is served.
abbrev pub ServedAgain : Type 0
ServedAgain =
    (m : Mail) → Runs m → (g i : ℕ) → i < huts → served (m.guest g) (m.hut i) ≡ true
    → (n : Mail) → Calls (visited g i m) n → (n.guest g).slip ≡ ((visited g i m).guest g).slip → served (n.guest g) (n.hut i) ≡ true

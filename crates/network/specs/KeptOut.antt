-- What is skipped or kept out changes nothing.
use Rattle.std.specs.Prelude.{◌≡◌, ℕ, ◌+◌, List, [], ◌∷◌, length, None, Some, Option}
use Rattle.bookings.specs.Plain.{PlainEntry}
use Rattle.entry_log.specs.Waits.{PlainWaiting}
use Rattle.journal.specs.History.{Kept, state_in}
use Rattle.letters.specs.Counting.{Says, heard_letter}
use Rattle.letters.specs.Items.{PlainItem, items_of}
use Rattle.letters.specs.Laws.{Bytes, LetterOk}
use Rattle.letters.specs.Letters.{damaged, encode_letter, heard, read_letter}
use Rattle.network.specs.Items.{Letter, items_taken, refusal_of, takes}
use Rattle.network.specs.Promise.{AllTaken}
use Rattle.network.specs.Taking.{kept_out, outcomes_of, take_bytes}

-- an item in front of others, unless it is refused
abbrev pub unless_skipped : PlainItem → Option ℕ → Letter → Letter
unless_skipped w None ws = w ∷ ws
unless_skipped w (Some number) ws = ws

-- the items of a letter that are not refused when their turn comes
unfoldable pub only_taken : Letter → Kept → Letter
only_taken [] k = []
only_taken (w ∷ ws) k = unless_skipped w (refusal_of w (state_in k)) (only_taken ws (takes w k))

-- LAW: without the items that are skipped a letter leaves the very same replica, and each of its
-- items is taken.
abbrev pub SkippedChangesNothing : Type 0
SkippedChangesNothing =
    (l : Letter) (k : Kept) → (items_taken (only_taken l k) k ≡ items_taken l k)
    × AllTaken (only_taken l k) k

-- LAW: whatever bytes come, they leave what those of their items leave that are taken; damaged ones
-- leave all as it was; and others leave what the letter leaves that has only the entries in front
-- of the first that is kept out.
abbrev pub KeptOutChangesNothing : Type 0
KeptOutChangesNothing =
    (bs : List ℕ) (k : Kept)
    → (take_bytes bs k ≡ items_taken (only_taken (items_of (read_letter bs)) k) k)
    × (read_letter bs ≡ damaged → take_bytes bs k ≡ k)
    × ((place : ℕ) (cs : List PlainEntry) (ws : List PlainWaiting) (out : ℕ) → Bytes bs
    → read_letter bs ≡ heard place cs ws out
    → LetterOk (heard_letter place cs ws)
    × (take_bytes bs k ≡ take_bytes (encode_letter (heard_letter place cs ws)) k))

-- LAW: of bytes that are not damaged as many outcomes are told as there are entries, but those that
-- are kept out: with these they are as many as the letter's count fields say.
abbrev pub OutcomesAddUp : Type 0
OutcomesAddUp =
    (bs : List ℕ) (k : Kept) (place : ℕ) (cs : List PlainEntry) (ws : List PlainWaiting) (out : ℕ)
    → Bytes bs → read_letter bs ≡ heard place cs ws out
    → (said : ℕ) × Says bs place cs ws said
    × (length (outcomes_of (items_of (read_letter bs)) k) + kept_out (read_letter bs) ≡ said)

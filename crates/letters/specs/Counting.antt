-- How many entries the bytes of a letter say that it has.
use Rattle.std.specs.Prelude.{◌≡◌, ℕ, ◌+◌, ◌<◌, ◌≤◌, ◌⊎◌, List, [], ◌∷◌, ◌++◌, length}
use Rattle.std.specs.List.{flat_map}
use Rattle.bookings.specs.Plain.{PlainEntry}
use Rattle.entry_log.specs.Waits.{PlainWaiting}
use Rattle.entry_log.specs.declared.waiting.TheConstants.{MAX_LETTER_ENTRIES}
use Rattle.letters.specs.Format.{encode, two, four}
use Rattle.letters.specs.Laws.{Bytes, LetterOk}
use Rattle.letters.specs.Letters.{PlainLetter, heard, read_letter}

-- the first count field and the place stand in front of the committed entries that are heard, and
-- this behind them
abbrev pub Begins : List ℕ → ℕ → ℕ → List PlainEntry → List ℕ → Type 0
Begins bs n place cs rest = bs ≡ 66 ∷ (two n ++ (four place ++ (flat_map encode cs ++ rest)))

-- the letter that has just what was heard
abbrev pub heard_letter : ℕ → List PlainEntry → List PlainWaiting → PlainLetter
heard_letter place cs ws = record { place = place; committed = cs; tentative = ws }

-- how many entries the count fields say that are looked at: the first; and, where it says as many
-- committed entries as are heard, the one that stands behind these
abbrev pub Says : List ℕ → ℕ → List PlainEntry → List PlainWaiting → ℕ → Type 0
Says bs place cs ws said =
    (n : ℕ) × (rest : List ℕ) × Begins bs n place cs rest × (said ≤ MAX_LETTER_ENTRIES)
    × (((length cs < n) × (ws ≡ []) × (said ≡ n))
    ⊎ ((m : ℕ) × (more : List ℕ) × (rest ≡ two m ++ more) × (length cs ≡ n) × (said ≡ n + m)))

-- LAW: of bytes that are not damaged what is heard is a letter, and with what is kept out it is as
-- many entries as the count fields say.
abbrev pub CountsAddUp : Type 0
CountsAddUp =
    (bs : List ℕ) (place : ℕ) (cs : List PlainEntry) (ws : List PlainWaiting) (out : ℕ) → Bytes bs
    → read_letter bs ≡ heard place cs ws out
    → LetterOk (heard_letter place cs ws)
    × ((said : ℕ) × Says bs place cs ws said × (length cs + length ws + out ≡ said))

-- The parts in which a letter is written.
use Rattle.std.proofs.Common.{◌≡◌, ℕ, List, ◌∷◌, ◌++◌, map, length, refl}
use lib.ListN.{length-map}
use Rattle.std.specs.List.{flat_map}
use Rattle.bookings.specs.declared.entry.Entry.{Entry}
use Rattle.bookings.specs.Plain.{plain}
use Rattle.entry_log.specs.declared.waiting.Waiting.{Waiting}
use Rattle.entry_log.specs.Waits.{plain_waiting}
use Rattle.letters.specs.Format.{encode, two, four}
use Rattle.letters.specs.Letters.{encode_waiting, encode_body}
use Rattle.letters.specs.Sent.{plain_letter}

-- the first byte, how many, and the place
abbrev pub head_bytes : ℕ → ℕ → List ℕ
head_bytes place n = 66 ∷ (two n ++ four place)

pub body_parts :
    (place : ℕ) (es : List Entry) (ws : List Waiting)
    → 66 ∷ encode_body (plain_letter place es ws)
    ≡ head_bytes place (length es) ++ (flat_map encode (map plain es) ++ (two (length ws) ++ flat_map encode_waiting (map plain_waiting ws)))
body_parts place es ws = rw (length-map es plain, length-map ws plain_waiting) refl

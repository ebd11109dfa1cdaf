-- A letter as bytes: how it is written and how it is read.
use Rattle.std.specs.Prelude.{ℕ, ◌+◌, ◌-◌, Bool, cond, List, [], ◌∷◌, ◌++◌, length, take, drop, ◌==◌, nat_lt, slice_index}
use Rattle.std.specs.List.{flat_map}
use Rattle.std.specs.Str.{bytes_eq}
use Rattle.bookings.specs.Plain.{PlainEntry}
use Rattle.bookings.specs.declared.limits.TheConstants.{HUTS}
use Rattle.digest.specs.declared.TheConstants.{DIGEST_BYTES}
use Rattle.entry_log.specs.Waits.{PlainWaiting}
use Rattle.digest.specs.Sha256.{digest_of}
use Rattle.entry_log.specs.declared.waiting.TheConstants.{MAX_LETTER_ENTRIES}
use Rattle.letters.specs.Answers.{Answer, got, short, out, after, read_times}
use Rattle.letters.specs.Format.{encode, two, four, read_two, read_four, reads}
use Rattle.letters.specs.Rows.{Row, whole, stopped, torn, read_row}
use Rattle.letters.specs.declared.limits.TheConstants.{EMPTY_LETTER_BYTES}

-- the place of the first committed entry, the committed ones, and the tentative ones with what stood before each
pub record PlainLetter : Type 0 where
  pub place : ℕ
  pub committed : List PlainEntry
  pub tentative : List PlainWaiting

-- WRITING

-- an entry, and a stamp for each hut
abbrev pub encode_waiting : PlainWaiting → List ℕ
encode_waiting w = encode w.entry ++ flat_map four w.stood

-- what stands between the first byte and the digest
abbrev pub encode_body : PlainLetter → List ℕ
encode_body l =
    two (length l.committed)
    ++ (four l.place ++ (flat_map encode l.committed ++ (two (length l.tentative) ++ flat_map encode_waiting l.tentative)))

abbrev pub encode_letter : PlainLetter → List ℕ
encode_letter l = (66 ∷ encode_body l) ++ digest_of (66 ∷ encode_body l)

-- READING

unfoldable pub read_stamps : List ℕ → Answer (List ℕ)
read_stamps bs = read_times read_four HUTS bs

abbrev pub read_waiting : List ℕ → Answer PlainWaiting
read_waiting bs = after (reads bs) (λ e r. after (read_stamps r) (λ s t. got (record { entry = e; stood = s }) t))

-- what is heard of a letter: nothing; or place, committed and tentative entries, and how many entries are kept out, 0 if it is read whole
pub data Heard : Type 0 where
  damaged : Heard
  heard : (place : ℕ) → List PlainEntry → List PlainWaiting → (out : ℕ) → Heard

-- a number, where the bytes do not end before it
abbrev pub number : Answer ℕ → (ℕ → List ℕ → Heard) → Heard
number (got n r) f = f n r
number short f = damaged
number out f = damaged

-- nothing stands behind the last entry
abbrev pub from_tentative : ℕ → List PlainEntry → Row PlainWaiting → Heard
from_tentative place cs (whole ws r) = cond (length r == 0) (heard place cs ws 0) damaged
from_tentative place cs (stopped ws k) = heard place cs ws k
from_tentative place cs torn = damaged

-- m tentative entries behind n committed ones
abbrev pub read_tentative : ℕ → ℕ → List PlainEntry → ℕ → List ℕ → Heard
read_tentative n place cs m bs = cond (nat_lt MAX_LETTER_ENTRIES (n + m)) damaged (from_tentative place cs (read_row read_waiting m bs))

-- how many tentative entries, and these; behind a committed one that is out of range nothing is looked at
abbrev pub from_committed : ℕ → ℕ → Row PlainEntry → Heard
from_committed n place (whole cs r) = number (read_two r) (read_tentative n place cs)
from_committed n place (stopped cs k) = heard place cs [] k
from_committed n place torn = damaged

-- n committed entries, and the rest
abbrev pub read_committed : ℕ → ℕ → List ℕ → Heard
read_committed n place bs = cond (nat_lt MAX_LETTER_ENTRIES n) damaged (from_committed n place (read_row reads n bs))

-- how many committed entries, the place of the first, and the rest
abbrev pub read_placed : ℕ → List ℕ → Heard
read_placed n bs = number (read_four bs) (read_committed n)

abbrev pub read_body : List ℕ → Heard
read_body bs = number (read_two bs) read_placed

-- the last bytes are the digest of all before them
abbrev pub signed : List ℕ → Bool
signed bs = bytes_eq (digest_of (take (length bs - DIGEST_BYTES) bs)) (drop (length bs - DIGEST_BYTES) bs)

abbrev pub read_letter : List ℕ → Heard
read_letter bs =
    cond (nat_lt (length bs) EMPTY_LETTER_BYTES) damaged
    (cond (slice_index bs 0 == 66) (cond (signed bs) (read_body (take (length bs - (1 + DIGEST_BYTES)) (drop 1 bs))) damaged) damaged)

-- What holds of the formats.
use Rattle.std.specs.Prelude.{◌≡◌, ℕ, ◌+◌, ◌-◌, ◌^◌, ◌<◌, ◌≤◌, List, ◌∷◌, ◌++◌, length, take, drop, ◌≢◌}
use Rattle.std.specs.List.{flat_map}
use Rattle.bookings.specs.Plain.{PlainChoice, PlainKind, book, cancel, change, supply, PlainEntry}
use Rattle.bookings.specs.Ranges.{Each, InRange}
use Rattle.bookings.specs.declared.limits.TheConstants.{HUTS, MAX_CHOICES}
use Rattle.digest.specs.declared.TheConstants.{DIGEST_BYTES}
use Rattle.entry_log.specs.Waits.{PlainWaiting}
use Rattle.entry_log.specs.declared.waiting.TheConstants.{MAX_LETTER_ENTRIES}
use Rattle.digest.specs.Sha256.{digest_of}
use Rattle.letters.specs.Answers.{got, short, out}
use Rattle.letters.specs.Format.{encode, two, four, reads}
use Rattle.letters.specs.Letters.{PlainLetter, encode_waiting, encode_letter, heard, damaged, read_letter}
use Rattle.letters.specs.declared.limits.TheConstants.{ENTRY_ROOM}

-- stamps and guests are numbers of four bytes
abbrev pub KindFits : PlainKind → Type 0
KindFits (book guest cs) = guest < 2 ^ 32
KindFits (cancel m) = m.stamp < 2 ^ 32
KindFits (change m cs) = m.stamp < 2 ^ 32
KindFits (supply c) = Unit {0}

-- an entry that the format can hold
pub record EntryOk (e : PlainEntry) : Type 0 where
  pub ranged : InRange e
  pub stamp_fits : e.mark.stamp < 2 ^ 32
  pub kind_fits : KindFits e.kind

-- nights are numbers of two bytes; there are four choices at most
abbrev pub NightFits : PlainChoice → Type 0
NightFits c = c.stay.night < 65536

abbrev pub NightsFit : PlainKind → Type 0
NightsFit (book guest cs) = (length cs ≤ MAX_CHOICES) × Each NightFits cs
NightsFit (cancel m) = Unit {0}
NightsFit (change m cs) = (length cs ≤ MAX_CHOICES) × Each NightFits cs
NightsFit (supply c) = NightFits c

-- an entry that can be written as bytes, in range or not
pub record Encodable (e : PlainEntry) : Type 0 where
  pub stamp_fits : e.mark.stamp < 2 ^ 32
  pub kind_fits : KindFits e.kind
  pub nights_fit : NightsFit e.kind

abbrev pub Bytes : List ℕ → Type 0
Bytes bs = Each (λ b. b < 256) bs

-- reading what was written gives it back, whatever follows
abbrev pub EntryRoundTrip : Type 0
EntryRoundTrip = (e : PlainEntry) (rest : List ℕ) → EntryOk e → reads (encode e ++ rest) ≡ got e rest

-- no entry's bytes begin another's, so that bytes are one sequence of entries at most
abbrev pub EntryPrefixFree : Type 0
EntryPrefixFree =
    (e f : PlainEntry) (r s : List ℕ) → EntryOk e → EntryOk f → encode e ++ r ≡ encode f ++ s → (e ≡ f) × (r ≡ s)

-- LAW: an entry that is cut short is found short, also where it is out of range: all its bytes are read before its ranges are judged
abbrev pub EntryCutShort : Type 0
EntryCutShort = (e : PlainEntry) (k : ℕ) → Encodable e → k < length (encode e) → reads (take k (encode e)) ≡ short

-- LAW: an entry that is out of range is found so where all its bytes are there, whatever follows
abbrev pub EntryOutOfRange : Type 0
EntryOutOfRange = (e : PlainEntry) (rest : List ℕ) → Encodable e → (InRange e → ⊥) → reads (encode e ++ rest) ≡ out

-- what is read is in range, and the bytes before the rest are its one encoding
abbrev pub EntryOneForm : Type 0
EntryOneForm =
    (bs : List ℕ) (e : PlainEntry) (rest : List ℕ) → Bytes bs → reads bs ≡ got e rest → EntryOk e × (bs ≡ encode e ++ rest)

-- how many bytes an entry takes at most
abbrev pub EntrySmall : Type 0
EntrySmall = (e : PlainEntry) → InRange e → length (encode e) ≤ ENTRY_ROOM

pub record WaitingOk (w : PlainWaiting) : Type 0 where
  pub entry_ok : EntryOk w.entry
  pub sixteen : length w.stood ≡ HUTS
  pub fit : Each (λ n. n < 2 ^ 32) w.stood

-- a letter that the format can hold
pub record LetterOk (l : PlainLetter) : Type 0 where
  pub place_ok : l.place < 2 ^ 32
  pub committed_ok : Each EntryOk l.committed
  pub tentative_ok : Each WaitingOk l.tentative
  pub few : length l.committed + length l.tentative ≤ MAX_LETTER_ENTRIES

-- reading a letter that was written gives it back, whole
abbrev pub LetterRoundTrip : Type 0
LetterRoundTrip = (l : PlainLetter) → LetterOk l → read_letter (encode_letter l) ≡ heard l.place l.committed l.tentative 0

-- different letters have different bytes
abbrev pub LetterInjective : Type 0
LetterInjective = (l m : PlainLetter) → LetterOk l → LetterOk m → encode_letter l ≡ encode_letter m → l ≡ m

-- what is heard whole is a letter, and the bytes are the one form that it has
abbrev pub LetterOneForm : Type 0
LetterOneForm =
    (bs : List ℕ) (l : PlainLetter) → Bytes bs → read_letter bs ≡ heard l.place l.committed l.tentative 0 → LetterOk l × (bs ≡ encode_letter l)

-- nothing is heard where the last bytes are not the digest of those before them
abbrev pub UnsignedDamaged : Type 0
UnsignedDamaged = (bs : List ℕ) → (digest_of (take (length bs - DIGEST_BYTES) bs) ≢ drop (length bs - DIGEST_BYTES) bs) → read_letter bs ≡ damaged

-- a letter that was written and is cut short anywhere is damaged, whatever the digests are
abbrev pub CutDamaged : Type 0
CutDamaged = (l : PlainLetter) (k : ℕ) → LetterOk l → k < length (encode_letter l) → read_letter (take k (encode_letter l)) ≡ damaged

-- and so is one with anything behind it
abbrev pub LongerDamaged : Type 0
LongerDamaged = (l : PlainLetter) (b : ℕ) (bs : List ℕ) → LetterOk l → read_letter (encode_letter l ++ b ∷ bs) ≡ damaged

-- a letter of any bytes between the first byte and a right digest
abbrev pub with_digest : List ℕ → List ℕ
with_digest body = (66 ∷ body) ++ digest_of (66 ∷ body)

-- LAW: a letter whose bytes end within a committed entry is damaged, whatever the numbers of that entry and the digest
abbrev pub CommittedCutDamaged : Type 0
CommittedCutDamaged =
    (place n k : ℕ) (cs : List PlainEntry) (e : PlainEntry) → place < 2 ^ 32 → n ≤ MAX_LETTER_ENTRIES → length cs < n → Each EntryOk cs → Encodable e
    → k < length (encode e) → read_letter (with_digest (two n ++ (four place ++ (flat_map encode cs ++ take k (encode e))))) ≡ damaged

-- the bytes of a letter that has m tentative entries by its count
abbrev pub body_up_to : PlainLetter → ℕ → List ℕ → List ℕ
body_up_to l m part =
    two (length l.committed) ++ (four l.place ++ (flat_map encode l.committed ++ (two m ++ (flat_map encode_waiting l.tentative ++ part))))

-- LAW: and so is a letter whose bytes end within a tentative entry
abbrev pub TentativeCutDamaged : Type 0
TentativeCutDamaged =
    (l : PlainLetter) (m k : ℕ) (e : PlainEntry) → LetterOk l → length l.committed + m ≤ MAX_LETTER_ENTRIES → length l.tentative < m → Encodable e
    → k < length (encode e) → read_letter (with_digest (body_up_to l m (take k (encode e)))) ≡ damaged

-- A letter whose bytes end within an entry is damaged, whatever the numbers of that entry.
use Rattle.std.proofs.Common.{◌≡◌, ℕ, zero, suc, ◌+◌, ◌-◌, ◌<◌, cond, List, [], ◌∷◌, ◌++◌, length, take, refl, ap, ◌∙◌, append_assoc, arith, length-append, take_at}
use Rattle.std.specs.List.{flat_map}
use Rattle.std.proofs.lemmas.Bool.{le-ltb}
use Rattle.bookings.specs.Plain.{PlainEntry}
use Rattle.bookings.specs.Ranges.{Each}
use Rattle.entry_log.specs.declared.waiting.TheConstants.{MAX_LETTER_ENTRIES}
use Rattle.digest.specs.Sha256.{digest_of}
use Rattle.digest.proofs.Lengths.{digest_long_lem}
use Rattle.digest.specs.declared.TheConstants.{DIGEST_BYTES}
use Rattle.letters.specs.Answers.{Answer, short}
use Rattle.letters.specs.Format.{encode, two, four, reads}
use Rattle.letters.specs.Laws.{EntryOk, WaitingOk, Encodable, with_digest, body_up_to, CommittedCutDamaged, TentativeCutDamaged}
use Rattle.letters.specs.Letters.{damaged, number, encode_waiting, read_waiting, from_tentative, read_tentative, from_committed, read_committed, read_placed, read_body, read_letter}
use Rattle.letters.specs.Rows.{torn, adds, read_row}
use Rattle.letters.proofs.Codes.{Codes}
use Rattle.letters.proofs.Lawful.{body_damaged}
use Rattle.letters.proofs.Round.{codes_two, codes_four, codes_entry, entry-cut-short}
use Rattle.letters.proofs.RowCodes.{row_round}
use Rattle.letters.proofs.Trip.{codes_waiting}

-- a row that ends within a value
row_torn :
    {A : Type 0} (read : List ℕ → Answer A) (enc : A → List ℕ) (P : A → Type 0) → ((x : A) → P x → Codes read (enc x) x)
    → (n : ℕ) (xs : List A) (part : List ℕ) → Each P xs → length xs < n → read part ≡ short → read_row read n (flat_map enc xs ++ part) ≡ torn
row_torn read enc P one zero xs part ok few ends = absurd (omega arith)
row_torn read enc P one (suc n) [] part ok few ends = rw ends refl
row_torn read enc P one (suc n) (x ∷ xs) part ok few ends =
    rw (append_assoc (enc x) (flat_map enc xs) part, (one x ok.0).round (flat_map enc xs ++ part))
    (ap (adds x) (row_torn read enc P one n xs part ok.1 (omega arith) ends))

-- a letter with a right digest is damaged where its body is
digest_damaged : (body : List ℕ) → read_body body ≡ damaged → read_letter (with_digest body) ≡ damaged
digest_damaged body is =
    let d = digest_of (66 ∷ body) in
    let n-is : length (with_digest body) - (1 + DIGEST_BYTES) ≡ length body = omega (arith, length-append (66 ∷ body) d, digest_long_lem (66 ∷ body)) in
    body_damaged (with_digest body) (λ _. ap read_body (ap (λ n. take n (body ++ d)) n-is ∙ take_at body d (length body) refl) ∙ is)

pub committed_cut_damaged_lem : CommittedCutDamaged
committed_cut_damaged_lem place n k cs e fits most few ok e-fits cut =
    let second = flat_map encode cs ++ take k (encode e) in
    digest_damaged (two n ++ (four place ++ second))
    (ap (λ a. number a read_placed) ((codes_two n (omega (arith, most))).round (four place ++ second))
    ∙ ap (λ a. number a (read_committed n)) ((codes_four place fits).round second)
    ∙ ap (λ b. cond b damaged (from_committed n place (read_row reads n second))) (le-ltb MAX_LETTER_ENTRIES n most)
    ∙ ap (from_committed n place) (row_torn reads encode EntryOk codes_entry n cs (take k (encode e)) ok few (entry-cut-short e k e-fits cut)))

-- the bytes of the entry end before its stamps
waiting_short : (e : PlainEntry) (k : ℕ) → Encodable e → k < length (encode e) → read_waiting (take k (encode e)) ≡ short
waiting_short e k fits cut = rw (entry-cut-short e k fits cut) refl

pub tentative_cut_damaged_lem : TentativeCutDamaged
tentative_cut_damaged_lem l m k e ok most few e-fits cut =
    let n = length l.committed in
    let last = flat_map encode_waiting l.tentative ++ take k (encode e) in
    let third = two m ++ last in
    let second = flat_map encode l.committed ++ third in
    digest_damaged (body_up_to l m (take k (encode e)))
    (ap (λ a. number a read_placed) ((codes_two n (omega (arith, most))).round (four l.place ++ second))
    ∙ ap (λ a. number a (read_committed n)) ((codes_four l.place ok.place_ok).round second)
    ∙ ap (λ b. cond b damaged (from_committed n l.place (read_row reads n second))) (le-ltb MAX_LETTER_ENTRIES n (omega (arith, most)))
    ∙ ap (from_committed n l.place) (row_round reads encode EntryOk codes_entry l.committed third ok.committed_ok)
    ∙ ap (λ a. number a (read_tentative n l.place l.committed)) ((codes_two m (omega (arith, most))).round last)
    ∙ ap (λ b. cond b damaged (from_tentative l.place l.committed (read_row read_waiting m last))) (le-ltb MAX_LETTER_ENTRIES (n + m) most)
    ∙ ap (from_tentative l.place l.committed) (row_torn read_waiting encode_waiting WaitingOk codes_waiting m l.tentative (take k (encode e)) ok.tentative_ok few (waiting_short e k e-fits cut)))

-- A letter that was written is read back; cut short, or with anything behind it, it is damaged.
use Rattle.std.proofs.Common.{◌≡◌, ℕ, ◌+◌, ◌-◌, ◌^◌, ◌<◌, ◌≤◌, cond, eqb, List, ◌++◌, length, take, refl, ap, ◌∙◌, subst, ⊎_elim, append_assoc, arith, length-append}
use Rattle.bookings.specs.declared.limits.TheConstants.{HUTS}
use Rattle.entry_log.specs.declared.waiting.TheConstants.{MAX_LETTER_ENTRIES}
use lib.Seq.{take-append-le}
use Rattle.std.specs.List.{flat_map}
use Rattle.std.proofs.lemmas.Bool.{cases_lt, le-ltb}
use Rattle.bookings.specs.Ranges.{Each}
use Rattle.entry_log.specs.Waits.{PlainWaiting}
use Rattle.letters.specs.Answers.{Answer, read_times}
use Rattle.letters.specs.Format.{encode, two, four, read_two, read_four, reads}
use Rattle.letters.specs.Laws.{EntryOk, WaitingOk, LetterOk}
use Rattle.letters.specs.Letters.{PlainLetter, Heard, heard, damaged, number, encode_waiting, encode_body, read_stamps, read_waiting, from_tentative, read_tentative, from_committed, read_committed, read_placed, read_body}
use Rattle.letters.specs.Rows.{read_row}
use Rattle.letters.proofs.Codes.{Codes, codes_then, codes_map, codes_times, take_past}
use Rattle.letters.proofs.Round.{codes_two, codes_four, codes_entry}
use Rattle.letters.proofs.RowCodes.{row_round, row_cut}

codes_stamps : (xs : List ℕ) → length xs ≡ HUTS → Each (λ n. n < 2 ^ 32) xs → Codes read_stamps (flat_map four xs) xs
unfolding read_stamps
codes_stamps xs long fit =
    let all = codes_times read_four four (λ n. n < 2 ^ 32) codes_four xs fit in subst (λ n. Codes (read_times read_four n) (flat_map four xs) xs) long all

pub codes_waiting : (w : PlainWaiting) → WaitingOk w → Codes read_waiting (encode_waiting w) w
codes_waiting w ok =
    codes_then reads _ (encode w.entry) (flat_map four w.stood) w.entry w (codes_entry w.entry ok.entry_ok)
    (codes_map read_stamps (λ s. record { entry = w.entry; stood = s }) (flat_map four w.stood) w.stood (codes_stamps w.stood ok.sixteen ok.fit))

-- a body that was written, and whatever stands behind it
pub body_trip :
    (l : PlainLetter) (r : List ℕ) → LetterOk l
    → read_body (encode_body l ++ r) ≡ cond (eqb (length r) 0) (heard l.place l.committed l.tentative 0) damaged
body_trip l r ok =
    let n = length l.committed in
    let m = length l.tentative in
    let last = flat_map encode_waiting l.tentative ++ r in
    let third = two m ++ last in
    let second = flat_map encode l.committed ++ third in
    let first = four l.place ++ second in
    let parts : encode_body l ++ r ≡ two n ++ first =
    ap (λ t. two n ++ (four l.place ++ t)) (append_assoc (flat_map encode l.committed) (two m ++ flat_map encode_waiting l.tentative) r) in
    ap read_body parts
    ∙ ap (λ a. number a read_placed) ((codes_two n (omega (arith, ok.few))).round first)
    ∙ ap (λ a. number a (read_committed n)) ((codes_four l.place ok.place_ok).round second)
    ∙ ap (λ b. cond b damaged (from_committed n l.place (read_row reads n second))) (le-ltb MAX_LETTER_ENTRIES n (omega (arith, ok.few)))
    ∙ ap (from_committed n l.place) (row_round reads encode EntryOk codes_entry l.committed third ok.committed_ok)
    ∙ ap (λ a. number a (read_tentative n l.place l.committed)) ((codes_two m (omega (arith, ok.few))).round last)
    ∙ ap (λ b. cond b damaged (from_tentative l.place l.committed (read_row read_waiting m last))) (le-ltb MAX_LETTER_ENTRIES (n + m) ok.few)
    ∙ ap (from_tentative l.place l.committed) (row_round read_waiting encode_waiting WaitingOk codes_waiting l.tentative r ok.tentative_ok)

-- CUT SHORT

abbrev Cuts : (List ℕ → Heard) → List ℕ → Type 0
Cuts read ps = (k : ℕ) → k < length ps → read (take k ps) ≡ damaged

cuts_number :
    (first : List ℕ → Answer ℕ) (next : ℕ → List ℕ → Heard) (ps bs : List ℕ) (n : ℕ)
    → Codes first ps n → Cuts (next n) bs → Cuts (λ x. number (first x) next) (ps ++ bs)
cuts_number first next ps bs n one more k h = ⊎_elim early late (cases_lt k (length ps))
  where
    early : k < length ps → number (first (take k (ps ++ bs))) next ≡ damaged
    early lt = let le : k ≤ length ps = omega arith in rw (take-append-le k ps bs le, one.cut k lt) refl

    late : length ps ≤ k → number (first (take k (ps ++ bs))) next ≡ damaged
    late le =
        rw (take_past ps bs k le, one.round (take (k - length ps) bs)) (more (k - length ps) (omega (arith, h, length-append ps bs)))

cuts_tentative : (l : PlainLetter) → LetterOk l → Cuts (read_tentative (length l.committed) l.place l.committed (length l.tentative)) (flat_map encode_waiting l.tentative)
cuts_tentative l ok k h =
    rw (le-ltb MAX_LETTER_ENTRIES (length l.committed + length l.tentative) ok.few)
    (ap (from_tentative l.place l.committed) (row_cut read_waiting encode_waiting WaitingOk codes_waiting l.tentative k ok.tentative_ok h))

cuts_committed :
    (l : PlainLetter) (more : List ℕ) → LetterOk l
    → Cuts (λ r. number (read_two r) (read_tentative (length l.committed) l.place l.committed)) more
    → Cuts (read_committed (length l.committed) l.place) (flat_map encode l.committed ++ more)
cuts_committed l more ok rest k h =
    rw (le-ltb MAX_LETTER_ENTRIES (length l.committed) (omega (arith, ok.few))) (⊎_elim early late (cases_lt k (length (flat_map encode l.committed))))
  where
    early : k < length (flat_map encode l.committed) → from_committed (length l.committed) l.place (read_row reads (length l.committed) (take k (flat_map encode l.committed ++ more))) ≡ damaged
    early lt =
        let le : k ≤ length (flat_map encode l.committed) = omega arith in
        rw (take-append-le k (flat_map encode l.committed) more le, row_cut reads encode EntryOk codes_entry l.committed k ok.committed_ok lt) refl

    late : length (flat_map encode l.committed) ≤ k → from_committed (length l.committed) l.place (read_row reads (length l.committed) (take k (flat_map encode l.committed ++ more))) ≡ damaged
    late le =
        let j = k - length (flat_map encode l.committed) in
        rw (take_past (flat_map encode l.committed) more k le, row_round reads encode EntryOk codes_entry l.committed (take j more) ok.committed_ok)
        (rest j (omega (arith, h, length-append (flat_map encode l.committed) more)))

pub body_cut : (l : PlainLetter) (k : ℕ) → LetterOk l → k < length (encode_body l) → read_body (take k (encode_body l)) ≡ damaged
body_cut l k ok h =
    let n = length l.committed in
    let m = length l.tentative in
    cuts_number read_two read_placed (two n) _ n (codes_two n (omega (arith, ok.few)))
    (cuts_number read_four (read_committed n) (four l.place) _ l.place (codes_four l.place ok.place_ok)
    (cuts_committed l _ ok
    (cuts_number read_two (read_tentative n l.place l.committed) (two m) _ m (codes_two m (omega (arith, ok.few))) (cuts_tentative l ok))))
    k
    h

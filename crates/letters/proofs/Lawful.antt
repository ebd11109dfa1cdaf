-- The laws of letters that were written.
use Rattle.std.proofs.Common.{◌≡◌, ℕ, zero, suc, ◌+◌, ◌-◌, ◌<◌, ◌≤◌, Bool, true, false, cond, eqb, ltb, List, [], ◌∷◌, ◌++◌, length, get_or, take, drop, sym, refl, ap, ◌∙◌, ⊎_elim, append_assoc, append-nil, arith, length-append, length-take-le, take-take, take_at, drop_at}
use Rattle.digest.specs.declared.TheConstants.{DIGEST_BYTES}
use Rattle.letters.specs.declared.limits.TheConstants.{EMPTY_LETTER_BYTES}
use lib.Seq.{take-append-le}
use Rattle.std.proofs.lemmas.Slice.Eq.{bytes_eq-Decides}
use Rattle.std.proofs.lemmas.Bool.{cases_Bool, cases_lt, lt-ltb, le-ltb, ne_eqb}
use Rattle.digest.specs.Sha256.{digest_of}
use Rattle.digest.proofs.Lengths.{digest_long_lem}
use Rattle.letters.specs.Laws.{LetterRoundTrip, LetterInjective, UnsignedDamaged, CutDamaged, LongerDamaged}
use Rattle.letters.specs.Letters.{PlainLetter, Heard, heard, damaged, encode_body, encode_letter, signed, read_body, read_letter}
use Rattle.letters.proofs.Codes.{take_past}
use Rattle.letters.proofs.Lettering.{body_long}
use Rattle.letters.proofs.Signing.{read_signed}
use Rattle.letters.proofs.Trip.{body_trip, body_cut}

-- a signed letter is what its body is
signed-letter : (xs : List ℕ) → 8 ≤ length xs → read_letter ((66 ∷ xs) ++ digest_of (66 ∷ xs)) ≡ read_body xs
signed-letter xs long =
    let d = digest_of (66 ∷ xs) in
    let all : length ((66 ∷ xs) ++ d) ≡ suc (length xs) + DIGEST_BYTES = length-append (66 ∷ xs) d ∙ ap (λ k. suc (length xs) + k) (digest_long_lem (66 ∷ xs)) in
    let front : suc (length xs) ≡ length ((66 ∷ xs) ++ d) - DIGEST_BYTES = omega arith in
    let sum : signed ((66 ∷ xs) ++ d) ≡ true =
    (bytes_eq-Decides _ _).1 (ap digest_of (take_at (66 ∷ xs) d _ front) ∙ sym (drop_at (66 ∷ xs) d _ front)) in
    read_signed ((66 ∷ xs) ++ d) (length xs) (omega arith) refl sum (omega arith) ∙ ap read_body (take_at xs d (length xs) refl)

pub letter_round_trip_lem : LetterRoundTrip
letter_round_trip_lem l ok =
    signed-letter (encode_body l) (omega (arith, body_long l)) ∙ ap read_body (sym (append-nil (encode_body l))) ∙ body_trip l [] ok

letter_in : Heard → PlainLetter
letter_in damaged = record { place = 0; committed = []; tentative = [] }
letter_in (heard place cs ws out) = record { place = place; committed = cs; tentative = ws }

pub letter_injective_lem : LetterInjective
unfolding letter_in
letter_injective_lem l m p q same =
    let c : heard l.place l.committed l.tentative 0 ≡ heard m.place m.committed m.tentative 0 =
    sym (letter_round_trip_lem l p) ∙ ap read_letter same ∙ letter_round_trip_lem m q in
    ap letter_in c

neither : (b c : Bool) (h : Heard) → h ≡ damaged → cond b (cond c h damaged) damaged ≡ damaged
neither true true h is = is
neither true false h is = refl
neither false c h is = refl

unsigned : (b : Bool) (h : Heard) → cond b (cond false h damaged) damaged ≡ damaged
unsigned true h = refl
unsigned false h = refl

long_or_damaged : (a : Bool) (h : Heard) → h ≡ damaged → cond a damaged h ≡ damaged
long_or_damaged true h is = refl
long_or_damaged false h is = is

pub unsigned_damaged_lem : UnsignedDamaged
unsigned_damaged_lem bs no-sum =
    let off : signed bs ≡ false = ⊎_elim (λ yes-sum. absurd (no-sum ((bytes_eq-Decides _ _).0 yes-sum))) (λ e. e) (cases_Bool (signed bs)) in
    let body = read_body (take (length bs - (1 + DIGEST_BYTES)) (drop 1 bs)) in
    long_or_damaged (ltb (length bs) EMPTY_LETTER_BYTES) _ (ap (λ b. cond (eqb (get_or bs 0 0) 66) (cond b body damaged) damaged) off ∙ unsigned (eqb (get_or bs 0 0) 66) body)

-- where the body is damaged, the letter is
pub body_damaged : (bs : List ℕ) → (EMPTY_LETTER_BYTES ≤ length bs → read_body (take (length bs - (1 + DIGEST_BYTES)) (drop 1 bs)) ≡ damaged) → read_letter bs ≡ damaged
body_damaged bs body = ⊎_elim early late (cases_lt (length bs) EMPTY_LETTER_BYTES)
  where
    early : length bs < EMPTY_LETTER_BYTES → read_letter bs ≡ damaged
    early lt = rw (lt-ltb (length bs) EMPTY_LETTER_BYTES lt) refl

    late : EMPTY_LETTER_BYTES ≤ length bs → read_letter bs ≡ damaged
    late le = rw (le-ltb (length bs) EMPTY_LETTER_BYTES le) (neither (eqb (get_or bs 0 0) 66) (signed bs) _ (body le))

cut_at : (xs d : List ℕ) (k j : ℕ) → 1 ≤ k → j ≤ length xs → j + 1 ≤ k → take j (drop 1 (take k ((66 ∷ xs) ++ d))) ≡ take j xs
cut_at xs d zero j some le lt = absurd (omega arith)
cut_at xs d (suc k) j some le lt = take-take j k (xs ++ d) (omega arith) ∙ take-append-le j xs d le

pub cut-damaged : CutDamaged
cut-damaged l k ok h =
    let d = digest_of (66 ∷ encode_body l) in
    let all : length (encode_letter l) ≡ suc (length (encode_body l)) + DIGEST_BYTES = length-append (66 ∷ encode_body l) d ∙ ap (λ n. suc (length (encode_body l)) + n) (digest_long_lem (66 ∷ encode_body l)) in
    let fit : k ≤ length (encode_letter l) = omega (arith, h) in
    let long : length (take k (encode_letter l)) ≡ k = length-take-le k (encode_letter l) fit in
    body_damaged (take k (encode_letter l))
    (λ le.
    ap (λ n. read_body (take (n - (1 + DIGEST_BYTES)) (drop 1 (take k (encode_letter l))))) long
    ∙ ap read_body (cut_at (encode_body l) d k (k - (1 + DIGEST_BYTES)) (omega (arith, le, long)) (omega (arith, h, all)) (omega (arith, le, long)))
    ∙ body_cut l (k - (1 + DIGEST_BYTES)) ok (omega (arith, h, all, le, long)))

pub longer_damaged_lem : LongerDamaged
longer_damaged_lem l b bs ok =
    let xs = encode_body l in
    let d = digest_of (66 ∷ xs) ++ b ∷ bs in
    let d-long : length d ≡ 1 + DIGEST_BYTES + length bs = length-append (digest_of (66 ∷ xs)) (b ∷ bs) ∙ ap (λ n. n + suc (length bs)) (digest_long_lem (66 ∷ xs)) ∙ omega arith in
    let parts : encode_letter l ++ b ∷ bs ≡ 66 ∷ (xs ++ d) = append_assoc (66 ∷ xs) (digest_of (66 ∷ xs)) (b ∷ bs) in
    let j = length d - DIGEST_BYTES in
    let behind : length (take j d) ≡ j = length-take-le j d (omega arith) in
    let some : eqb (length (take j d)) 0 ≡ false = ne_eqb _ 0 (λ none. omega (arith, none, behind, d-long)) in
    ap read_letter parts
    ∙ body_damaged (66 ∷ (xs ++ d))
    (λ le.
    ap (λ n. read_body (take n (xs ++ d))) (let n-is : length (66 ∷ (xs ++ d)) - (1 + DIGEST_BYTES) ≡ length xs + j = omega (arith, length-append xs d, d-long) in n-is)
    ∙ ap read_body (take_past xs d (length xs + j) (omega arith) ∙ ap (λ n. xs ++ take n d) (omega arith))
    ∙ body_trip l (take j d) ok
    ∙ ap (λ t. cond t (heard l.place l.committed l.tentative 0) damaged) some)

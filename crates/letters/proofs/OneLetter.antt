-- What is heard whole is a letter, and its bytes are the one form that it has.
use Rattle.std.proofs.Common.{◌≡◌, ℕ, zero, suc, ◌+◌, ◌-◌, ◌^◌, ◌<◌, ◌≤◌, eqb, ltb, List, [], ◌∷◌, ◌++◌, length, get_or, take, drop, sym, refl, ap, ◌∙◌, subst, append-nil, arith}
use Rattle.std.specs.List.{flat_map}
use Rattle.std.proofs.lemmas.Slice.Eq.{bytes_eq-Decides}
use Rattle.std.proofs.lemmas.List.{take-append-drop}
use Rattle.std.proofs.lemmas.Bool.{ltb-false, eqb-true}
use Rattle.bookings.specs.Plain.{PlainEntry}
use Rattle.bookings.specs.Ranges.{Each}
use Rattle.bookings.specs.declared.limits.TheConstants.{HUTS}
use Rattle.digest.specs.declared.TheConstants.{DIGEST_BYTES}
use Rattle.entry_log.specs.Waits.{PlainWaiting}
use Rattle.digest.specs.Sha256.{digest_of}
use Rattle.entry_log.specs.declared.waiting.TheConstants.{MAX_LETTER_ENTRIES}
use Rattle.letters.specs.Format.{encode, two, four, read_two, read_four, reads}
use Rattle.letters.specs.Laws.{Bytes, EntryOk, WaitingOk, LetterOk, LetterOneForm}
use Rattle.letters.specs.Letters.{heard, encode_waiting, encode_body, read_stamps, read_waiting, read_tentative, read_committed, read_placed, signed, read_body}
use Rattle.letters.specs.Rows.{read_row}
use Rattle.letters.proofs.Bytes.{bytes_drop}
use Rattle.letters.proofs.Exact.{Exact, exact_got, exact_then, exact_times}
use Rattle.letters.proofs.HeardWhole.{number-heard, unless-damaged, if_heard, tentative-heard, committed-heard}
use Rattle.letters.proofs.OneEntry.{exact_entry}
use Rattle.letters.proofs.OneForm.{exact_two, exact_four}
use Rattle.letters.proofs.RowCodes.{row_exact}
use Rattle.letters.specs.declared.limits.TheConstants.{EMPTY_LETTER_BYTES}

abbrev StampsOk : List ℕ → Type 0
StampsOk xs = (length xs ≡ HUTS) × Each (λ n. n < 2 ^ 32) xs

exact_stamps : Exact [] read_stamps (flat_map four) StampsOk
unfolding read_stamps
exact_stamps = exact_times read_four four (λ n. n < 2 ^ 32) exact_four HUTS

pub exact_waiting : Exact [] read_waiting encode_waiting WaitingOk
exact_waiting =
    exact_then [] reads encode EntryOk _ encode_waiting WaitingOk exact_entry
    (λ e e-ok.
    exact_then (encode e) read_stamps (flat_map four) StampsOk _ encode_waiting WaitingOk exact_stamps
    (λ s s-ok.
    exact_got (encode e ++ flat_map four s) (record { entry = e; stood = s }) encode_waiting WaitingOk refl
    (record { entry_ok = e-ok; sixteen = s-ok.0; fit = s-ok.1 })))

abbrev Formed : ℕ → List PlainEntry → List PlainWaiting → List ℕ → Type 0
Formed p cs ws bs = LetterOk (record { place = p; committed = cs; tentative = ws }) × (bs ≡ encode_body (record { place = p; committed = cs; tentative = ws }))

-- the parts of a body, each in its one form
formed :
    (n q m : ℕ) (es : List PlainEntry) (ws : List PlainWaiting) (bs r s t u : List ℕ)
    → bs ≡ two n ++ r → r ≡ four q ++ s → s ≡ flat_map encode es ++ t → t ≡ two m ++ u → u ≡ flat_map encode_waiting ws ++ []
    → length es ≡ n → length ws ≡ m → q < 2 ^ 32 → Each EntryOk es → Each WaitingOk ws → n + m ≤ MAX_LETTER_ENTRIES → Formed q es ws bs
formed n q m es ws bs r s t u a b c d e n-is m-is q-ok es-ok ws-ok few = (
  record { place_ok = q-ok; committed_ok = es-ok; tentative_ok = ws-ok; few = omega (arith, n-is, m-is, few) },
  rw (a, b, c, d, e, append-nil (flat_map encode_waiting ws), n-is, m-is) refl,
)

body_formed : (p : ℕ) (cs : List PlainEntry) (ws : List PlainWaiting) (bs : List ℕ) → Bytes bs → read_body bs ≡ heard p cs ws 0 → Formed p cs ws bs
body_formed p cs ws bs bytes h =
    let one = number-heard p cs ws 0 (read_two bs) read_placed h in
    let n = one.0 in
    let r = one.1.0 in
    let a = exact_two bs n r bytes one.1.1.0 in
    let next = number-heard p cs ws 0 (read_four r) (read_committed n) one.1.1.1 in
    let q = next.0 in
    let s = next.1.0 in
    let b = exact_four r q s a.1.1 next.1.1.0 in
    let small = unless-damaged p cs ws 0 (ltb MAX_LETTER_ENTRIES n) _ next.1.1.1 in
    let row = committed-heard p cs ws n q s (read_row reads n s) refl small.1 in
    let es = row.0 in
    let t = row.1.0 in
    let c = row_exact reads encode EntryOk exact_entry n s es t b.1.1 row.1.1.0 in
    let count = number-heard p cs ws 0 (read_two t) (read_tentative n q es) row.1.1.1 in
    let m = count.0 in
    let u = count.1.0 in
    let d = exact_two t m u c.1.1 count.1.1.0 in
    let few = unless-damaged p cs ws 0 (ltb MAX_LETTER_ENTRIES (n + m)) _ count.1.1.1 in
    let last = tentative-heard p cs ws q m es u (read_row read_waiting m u) refl few.1 in
    let e = row_exact read_waiting encode_waiting WaitingOk exact_waiting m u ws [] d.1.1 last.0 in
    let all =
    formed n q m es ws bs r s t u a.0 b.0 c.0 d.0 e.0 c.1.0.0 e.1.0.0 b.1.0 c.1.0.1 e.1.0.1
    (ltb-false MAX_LETTER_ENTRIES (n + m) few.0) in
    subst (λ k. Formed k cs ws bs) last.1.0 (subst (λ xs. Formed q xs ws bs) last.1.1 all)

pub bytes_take : (n : ℕ) (bs : List ℕ) → Bytes bs → Bytes (take n bs)
bytes_take zero bs ok = tt
bytes_take (suc n) [] ok = tt
bytes_take (suc n) (b ∷ bs) ok = (ok.0, bytes_take n bs ok.1)

-- a list that is long enough: its first byte, what stands between, and its last 32
pub three_parts : (bs : List ℕ) → EMPTY_LETTER_BYTES ≤ length bs → get_or bs 0 0 ∷ take (length bs - (1 + DIGEST_BYTES)) (drop 1 bs) ≡ take (length bs - DIGEST_BYTES) bs
three_parts [] long = absurd (omega (arith, long))
three_parts (b ∷ bs) long =
    let n-is : length (b ∷ bs) - DIGEST_BYTES ≡ suc (length (b ∷ bs) - (1 + DIGEST_BYTES)) = omega (arith, long) in rw n-is refl

pub letter_one_form_lem : LetterOneForm
letter_one_form_lem bs l bytes h =
    let p = l.place in
    let cs = l.committed in
    let ws = l.tentative in
    let long = unless-damaged p cs ws 0 (ltb (length bs) EMPTY_LETTER_BYTES) _ h in
    let first = if_heard p cs ws 0 (eqb (get_or bs 0 0) 66) _ long.1 in
    let sum = if_heard p cs ws 0 (signed bs) _ first.1 in
    let front = three_parts bs (ltb-false (length bs) EMPTY_LETTER_BYTES long.0) in
    let body = body_formed p cs ws (take (length bs - (1 + DIGEST_BYTES)) (drop 1 bs)) (bytes_take (length bs - (1 + DIGEST_BYTES)) (drop 1 bs) (bytes_drop 1 bs bytes)) sum.1 in
    let head : take (length bs - DIGEST_BYTES) bs ≡ 66 ∷ encode_body l =
    sym front ∙ ap (λ b. b ∷ take (length bs - (1 + DIGEST_BYTES)) (drop 1 bs)) (eqb-true (get_or bs 0 0) 66 first.0) ∙ ap {B = List ℕ} (λ t. 66 ∷ t) body.1 in
    let same : digest_of (take (length bs - DIGEST_BYTES) bs) ≡ drop (length bs - DIGEST_BYTES) bs = (bytes_eq-Decides _ _).0 sum.0 in (
      body.0,
      sym (take-append-drop (length bs - DIGEST_BYTES) bs)
          ∙ ap (λ xs. take (length bs - DIGEST_BYTES) bs ++ xs) (sym same)
          ∙ ap (λ xs. xs ++ digest_of xs) head,
    )

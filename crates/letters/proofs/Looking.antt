-- What is heard of a letter, from where its rows end.
use Rattle.std.proofs.Common.{◌≡◌, ℕ, ◌+◌, ◌<◌, ◌≤◌, Bool, true, false, cond, eqb, List, [], length, sym, refl, ap, ◌∙◌, arith}
use Rattle.std.proofs.lemmas.Bool.{le-ltb, eq-eqb, ne_eqb, eqb-true}
use Rattle.bookings.specs.Plain.{PlainEntry}
use Rattle.entry_log.specs.Waits.{PlainWaiting}
use Rattle.entry_log.specs.declared.waiting.TheConstants.{MAX_LETTER_ENTRIES}
use Rattle.letters.specs.Answers.{Answer, got}
use Rattle.letters.specs.Format.{read_two, read_four, reads}
use Rattle.letters.specs.Letters.{heard, damaged, number, read_waiting, from_tentative, read_tentative, from_committed, read_committed, read_placed, read_body}
use Rattle.letters.specs.Rows.{read_row, End, through, halted, end_of, front}
use Rattle.letters.proofs.Rowing.{row_from, row_from_lem}

-- a row by its front and its end, which is the bytes behind it where nothing is kept out
ended : {A : Type 0} (read : List ℕ → Answer A) (n out : ℕ) (bs : List ℕ) (x : End) → end_of (read_row read n bs) ≡ cond (eqb out 0) x (halted out)
    → read_row read n bs ≡ row_from (front read n bs) (cond (eqb out 0) x (halted out))
ended read n out bs x h = row_from_lem read n bs ∙ ap (row_from (front read n bs)) h

to_committed :
    (bs r s : List ℕ) (n place : ℕ) → read_two bs ≡ got n r → read_four r ≡ got place s → n ≤ MAX_LETTER_ENTRIES
    → read_body bs ≡ from_committed n place (read_row reads n s)
to_committed bs r s n place one two few =
    ap (λ a. number a read_placed) one
    ∙ ap (λ a. number a (read_committed n)) two
    ∙ ap (λ b. cond b damaged (from_committed n place (read_row reads n s))) (le-ltb MAX_LETTER_ENTRIES n few)

pub looked_stopped :
    (bs r s : List ℕ) (n place out p : ℕ) (x : End) (cs : List PlainEntry) → read_two bs ≡ got n r → read_four r ≡ got place s → n ≤ MAX_LETTER_ENTRIES
    → end_of (read_row reads n s) ≡ cond (eqb out 0) x (halted out) → 0 < out → cs ≡ front reads n s → p ≡ place
    → read_body bs ≡ heard p cs [] out
looked_stopped bs r s n place out p x cs one two few end some cs-is p-is =
    let off : eqb out 0 ≡ false = ne_eqb out 0 (λ none. omega (arith, none, some)) in
    to_committed bs r s n place one two few
    ∙ ap (from_committed n place) (ended reads n out s x end)
    ∙ rw (off, cs-is, p-is) refl

pub looked_through :
    (bs r s : List ℕ) (n place out p m : ℕ) (t : List ℕ) (cs : List PlainEntry) → read_two bs ≡ got n r → read_four r ≡ got place s → n ≤ MAX_LETTER_ENTRIES
    → end_of (read_row reads n s) ≡ cond (eqb out 0) (through t) (halted out) → out ≤ 0 → cs ≡ front reads n s → p ≡ place → m + out ≡ n
    → read_body bs ≡ number (read_two t) (read_tentative m p cs)
looked_through bs r s n place out p m t cs one two few end none cs-is p-is all =
    let on : eqb out 0 ≡ true = eq-eqb out 0 (omega (arith, none)) in
    let m-is : m ≡ n = omega (arith, none, all) in
    to_committed bs r s n place one two few
    ∙ ap (from_committed n place) (ended reads n out s (through t) end)
    ∙ rw (on, cs-is, p-is, m-is) refl

pub looked_on :
    (bs r t : List ℕ) (n place m out : ℕ) (cs : List PlainEntry) (ws : List PlainWaiting) → read_two bs ≡ got m r → n + m ≤ MAX_LETTER_ENTRIES
    → end_of (read_row read_waiting m r) ≡ cond (eqb out 0) (through t) (halted out) → ws ≡ front read_waiting m r → (eqb out 0 ≡ true → length t ≡ 0)
    → number (read_two bs) (read_tentative n place cs) ≡ heard place cs ws out
looked_on bs r t n place m out cs ws one few end ws-is behind =
    ap (λ a. number a (read_tentative n place cs)) one
    ∙ ap (λ b. cond b damaged (from_tentative place cs (read_row read_waiting m r))) (le-ltb MAX_LETTER_ENTRIES (n + m) few)
    ∙ ap (from_tentative place cs) (ended read_waiting m out r (through t) end)
    ∙ rw ws-is (at-end (eqb out 0) refl)
  where
    at-end : (b : Bool) → eqb out 0 ≡ b → from_tentative place cs (row_from (front read_waiting m r) (cond b (through t) (halted out))) ≡ heard place cs (front read_waiting m r) out
    at-end true e = rw (eq-eqb (length t) 0 (behind e)) (ap (heard place cs (front read_waiting m r)) (sym (eqb-true out 0 e)))
    at-end false e = refl

-- Whatever the bytes are, no more entries are heard than a letter can have.
use Rattle.std.proofs.Common.{◌≡◌, ℕ, zero, suc, ◌+◌, ◌-◌, ◌≤◌, eqb, ltb, List, [], ◌∷◌, map, length, get_or, take, drop, refl, arith, length-append}
use Rattle.digest.specs.declared.TheConstants.{DIGEST_BYTES}
use Rattle.entry_log.specs.declared.waiting.TheConstants.{MAX_LETTER_ENTRIES}
use Rattle.letters.specs.declared.limits.TheConstants.{EMPTY_LETTER_BYTES}
use lib.ListN.{length-map}
use Rattle.std.proofs.lemmas.Bool.{cond_both, ltb-false}
use Rattle.bookings.specs.Plain.{PlainEntry}
use Rattle.entry_log.specs.Waits.{PlainWaiting}
use Rattle.letters.specs.Answers.{Answer, got, short, out}
use Rattle.letters.specs.Format.{reads, read_two, read_four}
use Rattle.letters.specs.Items.{waiting, placed_from, items_of}
use Rattle.letters.specs.Letters.{Heard, damaged, heard, number, from_tentative, read_tentative, from_committed, read_committed, read_placed, read_body, read_letter, read_waiting, signed}
use Rattle.letters.specs.Rows.{Row, whole, stopped, torn, adds, row_after, read_row}

-- what a row has
abbrev row_items : {A : Type 0} → Row A → List A
row_items (whole xs r) = xs
row_items (stopped xs k) = xs
row_items torn = []

row-few : {A : Type 0} (read : List ℕ → Answer A) (n : ℕ) (bs : List ℕ) → length (row_items (read_row read n bs)) ≤ n
row-few read zero bs = omega arith
row-few {A} read (suc n) bs = first (row-few read n) (read bs)
  where
    more : (x : A) (row : Row A) → length (row_items row) ≤ n → length (row_items (adds x row)) ≤ suc n
    more x (whole xs r) h = omega arith
    more x (stopped xs k) h = omega arith
    more x torn h = omega arith

    first : ((r : List ℕ) → length (row_items (read_row read n r)) ≤ n) → (a : Answer A) → length (row_items (row_after (suc n) a (λ x r. adds x (read_row read n r)))) ≤ suc n
    first few (got x r) = more x (read_row read n r) (few r)
    first few short = omega arith
    first few out = omega arith

abbrev Few : Heard → Type 0
Few h = length (items_of h) ≤ MAX_LETTER_ENTRIES

length_placed : (p : ℕ) (es : List PlainEntry) → length (placed_from p es) ≡ length es
length_placed p [] = refl
length_placed p (e ∷ es) = omega (arith, length_placed (suc p) es)

length-items : (p : ℕ) (cs : List PlainEntry) (ws : List PlainWaiting) (k : ℕ) → length (items_of (heard p cs ws k)) ≡ length cs + length ws
length-items p cs ws k = omega (arith, length-append (placed_from p cs) (map waiting ws), length_placed p cs, length-map ws waiting)

number-few : (a : Answer ℕ) (f : ℕ → List ℕ → Heard) → ((n : ℕ) (r : List ℕ) → Few (f n r)) → Few (number a f)
number-few (got n r) f each = each n r
number-few short f each = omega arith
number-few out f each = omega arith

tentative-few : (n p : ℕ) (cs : List PlainEntry) → length cs ≤ n → (m : ℕ) (bs : List ℕ) → Few (read_tentative n p cs m bs)
tentative-few n p cs few m bs =
    cond_both (ltb MAX_LETTER_ENTRIES (n + m)) damaged (from_tentative p cs (read_row read_waiting m bs)) Few (λ _. omega arith)
    (λ off. rows (read_row read_waiting m bs) (row-few read_waiting m bs) (ltb-false MAX_LETTER_ENTRIES (n + m) off))
  where
    rows : (row : Row PlainWaiting) → length (row_items row) ≤ m → n + m ≤ MAX_LETTER_ENTRIES → Few (from_tentative p cs row)
    rows (whole ws r) h le = cond_both (eqb (length r) 0) (heard p cs ws 0) damaged Few (λ _. omega (arith, length-items p cs ws 0)) (λ _. omega arith)
    rows (stopped ws k) h le = omega (arith, length-items p cs ws k)
    rows torn h le = omega arith

committed-few : (n p : ℕ) (bs : List ℕ) → Few (read_committed n p bs)
committed-few n p bs =
    cond_both (ltb MAX_LETTER_ENTRIES n) damaged (from_committed n p (read_row reads n bs)) Few (λ _. omega arith)
    (λ off. rows (read_row reads n bs) (row-few reads n bs) (ltb-false MAX_LETTER_ENTRIES n off))
  where
    rows : (row : Row PlainEntry) → length (row_items row) ≤ n → n ≤ MAX_LETTER_ENTRIES → Few (from_committed n p row)
    rows (whole cs r) h le = number-few (read_two r) (read_tentative n p cs) (tentative-few n p cs h)
    rows (stopped cs k) h le = omega (arith, length-items p cs [] k)
    rows torn h le = omega arith

pub heard-few : (bs : List ℕ) → length (items_of (read_letter bs)) ≤ MAX_LETTER_ENTRIES
heard-few bs =
    cond_both (ltb (length bs) EMPTY_LETTER_BYTES) damaged _ Few (λ _. omega arith)
    (λ _. cond_both (eqb (get_or bs 0 0) 66) _ damaged Few
    (λ _. cond_both (signed bs) (read_body (take (length bs - (1 + DIGEST_BYTES)) (drop 1 bs))) damaged Few
    (λ _. number-few (read_two (take (length bs - (1 + DIGEST_BYTES)) (drop 1 bs))) read_placed (λ n r. number-few (read_four r) (read_committed n) (committed-few n)))
    (λ _. omega arith))
    (λ _. omega arith))

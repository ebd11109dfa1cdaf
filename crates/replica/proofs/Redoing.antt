-- One entry fewer, and one more, of a list from its front.
use Rattle.std.proofs.Common.{◌≡◌, ℕ, zero, suc, ◌+◌, ◌-◌, ◌<◌, ◌≤◌, List, [], ◌∷◌, length, get_or, take, Ok, Err, Result, sym, refl, ap, ◌∙◌, arith, MatchResult}
use Rattle.bookings.specs.declared.book.TheConstants.{CAPACITY}
use mathlib.Core.Logic.{∥∥₁_elim}
use denote.Struct.Props.{props}
use lib.ListN.{length-map}
use Rattle.std.proofs.lemmas.List.{take_all, take_more, length-take-le}
use Rattle.bookings.proofs.Reach.{book-push}
use Rattle.bookings.specs.Books.{PlainBook, does, book_of}
use Rattle.bookings.specs.Plain.{PlainEntry}
use Rattle.bookings.specs.Ranges.{Each, InRange}
use Rattle.bookings.specs.Reached.{Reached}
use Rattle.bookings.specs.Refusals.{number_of}
use Rattle.bookings.specs.declared.refusal.Refusal.{Refusal}
use Rattle.entry_log.proofs.Known.{book-marks}

pub each_take : {A : Type 0} (P : A → Type 0) (n : ℕ) (xs : List A) → Each P xs → Each P (take n xs)
each_take P zero xs all = tt
each_take P (suc n) [] all = tt
each_take P (suc n) (x ∷ xs) all = (all.0, each_take P n xs all.1)

pub each_there : {A : Type 0} (P : A → Type 0) (xs : List A) (k : ℕ) (d : A) → Each P xs → k < length xs → P (get_or xs k d)
each_there P [] k d all h = absurd (omega arith)
each_there P (x ∷ xs) zero d all h = all.0
each_there P (x ∷ xs) (suc k) d all h = each_there P xs k d all.1 (omega arith)

pub book-length : (es : List PlainEntry) → length (book_of es).marks ≡ length es
book-length es = ap length (book-marks es) ∙ length-map es (λ e. e.mark)

-- the book of the first n entries is the one of the first n - 1, with the next done
pub book_front : (es : List PlainEntry) (k : ℕ) (d : PlainEntry) → k < length es → book_of (take (k + 1) es) ≡ does (get_or es k d) (book_of (take k es))
book_front es k d h = ap book_of (take_more es k d h) ∙ book-push (take k es) (get_or es k d)

pub undo_front :
    (es : List PlainEntry) (n : ℕ) (b c : PlainBook) → Each InRange es → 0 < n → n ≤ length es → b ≡ book_of (take n es)
    → ((e : PlainEntry) (a : PlainBook) → InRange e → Reached a → b ≡ does e a → c ≡ a) → c ≡ book_of (take (n - 1) es)
undo_front [] n b c ok some within is back = absurd (omega arith)
undo_front (e ∷ es) n b c ok some within is back =
    let at : n ≡ (n - 1) + 1 = omega arith in
    back (get_or (e ∷ es) (n - 1) e) (book_of (take (n - 1) (e ∷ es))) (each_there InRange (e ∷ es) (n - 1) e ok (omega arith)) ∣ (take (n - 1) (e ∷ es), each_take InRange (n - 1) (e ∷ es) ok, refl) ∣₁
    (is ∙ ap (λ k. book_of (take k (e ∷ es))) at ∙ book_front (e ∷ es) (n - 1) e (omega arith))

-- a book that entries made has one fewer when the last is undone
pub undo_shorter :
    (b c : PlainBook) → Reached b → 0 < length b.marks → ((e : PlainEntry) (a : PlainBook) → InRange e → Reached a → b ≡ does e a → c ≡ a)
    → length c.marks + 1 ≡ length b.marks
undo_shorter b c reached some back =
    ∥∥₁_elim reached (hlevel props) (λ made.
    let es : List PlainEntry = made.0 in
    let many : length b.marks ≡ length es = ap (λ (x : PlainBook). length x.marks) made.2 ∙ book-length es in
    let all : b ≡ book_of (take (length es) es) = made.2 ∙ sym (ap book_of (take_all (length es) es (omega arith))) in
    let left : c ≡ book_of (take (length es - 1) es) = undo_front es (length es) b c made.1 (omega (arith, many, some)) (omega arith) all back in
    omega (arith, many, some, ap (λ (x : PlainBook). length x.marks) left, book-length (take (length es - 1) es), length-take-le (length es - 1) es (omega arith)))

pub redo_front :
    (r : Result (Unit {0}) Refusal) (es : List PlainEntry) (k : ℕ) (e : PlainEntry) (b c : PlainBook) → k < length es → length es ≤ CAPACITY → e ≡ get_or es k e → b ≡ book_of (take k es)
    → MatchResult r (λ _. (length b.marks < CAPACITY) × (c ≡ does e b)) (λ w. (number_of w ≡ 8) × (CAPACITY ≤ length b.marks) × (c ≡ b)) → c ≡ book_of (take (k + 1) es)
redo_front (Ok u) es k e b c there room is done did =
    did.1 ∙ ap (does e) done ∙ ap (λ x. does x (book_of (take k es))) is ∙ sym (book_front es k e there)
redo_front (Err w) es k e b c there room is done did =
    absurd (omega (arith, did.1, ap (λ (x : PlainBook). length x.marks) done, book-length (take k es), length-take-le k es (omega arith)))

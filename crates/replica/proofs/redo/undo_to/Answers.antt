use Rattle.std.proofs.Common.{◌≡◌, ℕ, ◌+◌, ◌-◌, List, length, take, sym, ap, ◌∙◌, ⊎_elim, arith}
use Rattle.std.proofs.lemmas.List.{take_all}
use Rattle.std.proofs.lemmas.Bool.{cases_lt}
use Rattle.bookings.specs.Books.{PlainBook, book_of}
use Rattle.bookings.specs.Plain.{PlainEntry}
use Rattle.bookings.specs.Views.{book_in}
use Rattle.replica.proofs.Redoing.{undo_front, undo_shorter, book-length}
use Rattle.replica.proofs.redo.undo_to.Goals as goal

-- as many entries as marks
long : (b : PlainBook) (es : List PlainEntry) → b ≡ book_of es → length b.marks ≡ length es
long b es is = ap (λ (x : PlainBook). length x.marks) is ∙ book-length es

shorter : (c : goal.After-undo) → length (book_in c.undo.new.self).marks + 1 ≡ length (book_in c.loop-book.book).marks
shorter c = undo_shorter (book_in c.loop-book.book) (book_in c.undo.new.self) c.loop-book.book.reached (omega (arith, c.len.ensures, c.loop-book-test.true)) c.undo.ensures.before

pub loop-book-init : goal.loop-book-init
loop-book-init c = (
  λ es ok is. is ∙ sym (ap book_of (take_all (length (book_in c.args.book.now).marks) es (omega (arith, long (book_in c.args.book.now) es is)))),
  omega arith,
  omega arith,
)

pub loop-book-smaller : goal.loop-book-smaller
loop-book-smaller c = omega (arith, shorter c)

pub loop-book-preserved : goal.loop-book-preserved
loop-book-preserved c = (
  λ es ok is.
      let n : ℕ = length (book_in c.loop-book.book).marks in
      let one_fewer : n - 1 ≡ length (book_in c.undo.new.self).marks = omega (arith, shorter c) in
      undo_front es n (book_in c.loop-book.book) (book_in c.undo.new.self) ok (omega (arith, shorter c)) (omega (arith, long (book_in c.args.book.now) es is, c.loop-book.invariant.2)) (c.loop-book.invariant.0 es ok is) c.undo.ensures.before
      ∙ ap (λ k. book_of (take k es)) one_fewer,
  omega (arith, c.loop-book.invariant.1, c.len.ensures, c.loop-book-test.true, shorter c),
  omega (arith, c.loop-book.invariant.2, shorter c),
)

pub returns : goal.returns
returns c = λ es ok is.
    let n : ℕ = length (book_in c.loop-book.book).marks in
    let many = long (book_in c.args.book.now) es is in
    c.loop-book.invariant.0 es ok is
    ∙ ap book_of
    (⊎_elim (λ past. take_all n es (omega (arith, many, c.loop-book.invariant.1)) ∙ sym (take_all c.args.place es (omega arith)))
    (λ within. let same : n ≡ c.args.place = omega (arith, many, c.loop-book.invariant.1, c.loop-book.invariant.2, c.len.ensures, c.loop-book-test.false) in ap (λ k. take k es) same)
    (cases_lt (length es) c.args.place))

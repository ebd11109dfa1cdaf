-- A book that is in step with a log, and stays so.
use Rattle.std.proofs.Common.{◌≡◌, ℕ, ◌<◌, ◌≤◌, false, leb, List, [], ◌∷◌, ◌++◌, map, length, get_or, is_some, Some, None, Ok, Err, Option, Result, sym, refl, ap, ◌∙◌, ⊎_elim, arith, MatchResult}
use Rattle.bookings.specs.declared.book.TheConstants.{CAPACITY}
use Rattle.bookings.specs.declared.limits.TheConstants.{HUTS}
use mathlib.Core.Logic.{∥∥₁_elim, ∥∥₁_map}
use lib.ListN.{length-map}
use Rattle.std.proofs.lemmas.Bool.{cases_Bool, leb-false}
use Rattle.bookings.proofs.Reach.{book-push}
use Rattle.bookings.proofs.Sets.{book_prop}
use Rattle.bookings.specs.Books.{PlainBook, does, book_of, place_from}
use Rattle.bookings.specs.Plain.{PlainMark, PlainEntry}
use Rattle.bookings.specs.Refusals.{number_of}
use Rattle.bookings.specs.declared.refusal.Refusal.{Refusal}
use Rattle.entry_log.proofs.Known.{book-marks, has_found}
use Rattle.entry_log.proofs.Stamps.{has_low, vector_at}
use Rattle.entry_log.specs.Logs.{has}
use Rattle.entry_log.specs.Vectors.{vector_of}
use Rattle.replica.specs.Steps.{InStep}

pub step_is : (b : PlainBook) (es : List PlainEntry) → InStep b es → b ≡ book_of es
step_is b es step = ∥∥₁_elim step (book_prop b (book_of es)) (λ e. e)

pub step_marks : (b : PlainBook) (es : List PlainEntry) → InStep b es → b.marks ≡ map (λ e. e.mark) es
step_marks b es step = ap (λ (x : PlainBook). x.marks) (step_is b es step) ∙ book-marks es

pub step_length : (b : PlainBook) (es : List PlainEntry) → InStep b es → length b.marks ≡ length es
step_length b es step = ap length (step_marks b es step) ∙ length-map es (λ e. e.mark)

-- an entry that finds room is done, and stands last
pub step_push :
    (r : Result (Unit {0}) Refusal) (b c : PlainBook) (e : PlainEntry) (es fs : List PlainEntry)
    → MatchResult r (λ _. (length b.marks < CAPACITY) × (c ≡ does e b)) (λ w. (number_of w ≡ 8) × (CAPACITY ≤ length b.marks) × (c ≡ b)) → InStep b es → length es < CAPACITY
    → fs ≡ es ++ e ∷ [] → InStep c fs
step_push (Ok u) b c e es fs did step room is = ∥∥₁_map step (λ same. did.1 ∙ ap (does e) same ∙ sym (book-push es e) ∙ ap book_of (sym is))
step_push (Err w) b c e es fs did step room is = absurd (omega (arith, did.1, step_length b es step))

-- a stamp above all of its hut's stands nowhere
pub unreached : (m : PlainMark) (es : List PlainEntry) → m.hut < HUTS → leb m.stamp (get_or (vector_of es) m.hut 0) ≡ false → place_from 0 m (map (λ e. e.mark) es) ≡ None
unreached m es in-huts above = nowhere (place_from 0 m (map (λ e. e.mark) es)) (has_found m 0 es ∙ new)
  where
    new : has m es ≡ false
    new = ⊎_elim (λ there. absurd (omega (arith, has_low m es there, leb-false m.stamp (get_or (vector_of es) m.hut 0) above, vector_at es m.hut in-huts))) (λ not_there. not_there) (cases_Bool (has m es))

    nowhere : (o : Option ℕ) → is_some o ≡ false → o ≡ None
    nowhere (Some p) is = absurd (let z : ◌≡◌ {A = ℕ} 0 1 = cc in omega arith)
    nowhere None is = refl

-- Books that entries in range make: they are sound, and go on being made so.
use Rattle.std.proofs.Common.{◌≡◌, ℕ, ◌+◌, ◌<◌, ◌≤◌, List, [], ◌∷◌, ◌++◌, length, get_or, fold, sym, refl, ap, ◌∙◌, subst, ⊎_elim, arith}
use Rattle.bookings.specs.declared.limits.TheConstants.{INITIAL_BEDS, PLACES}
use mathlib.Core.Logic.{∥∥₁_elim, ∥∥₁_map}
use denote.Struct.Props.{props}
use lib.ListN.{length-replicate}
use Rattle.std.proofs.lemmas.List.{get_or-replicate, get_or_past, length_push}
use Rattle.std.proofs.lemmas.List.Sums.{fold_push}
use Rattle.std.proofs.lemmas.Bool.{cases_lt}
use Rattle.bookings.specs.Books.{PlainBook, row, empty_book, does, book_of}
use Rattle.bookings.specs.Held.{Covered, Few}
use Rattle.bookings.specs.Nights.{first}
use Rattle.bookings.specs.Outcomes.{PlainOutcome, holds, nothing, cancelled, changed, freed, resized}
use Rattle.bookings.specs.Plain.{PlainEntry}
use Rattle.bookings.specs.Ranges.{Each, InRange}
use Rattle.bookings.specs.Reached.{Reached}
use Rattle.bookings.specs.Undone.{undone}
use Rattle.bookings.proofs.Each.{each_push, each_prop}
use Rattle.bookings.proofs.Sound.{SoundBook, HeldOk, does_sound, standing-share}
use Rattle.bookings.proofs.Tally.{share_within}
use Rattle.bookings.proofs.Undoing.{undone-does}

pub length-row : (n : ℕ) → length (row n) ≡ PLACES
unfolding row
length-row n = length-replicate PLACES n

row_at : (n k : ℕ) → k < PLACES → get_or (row n) k 0 ≡ n
unfolding row
row_at n k h = get_or-replicate PLACES k n 0 h

row_past : (n k : ℕ) → PLACES ≤ k → get_or (row n) k 0 ≡ 0
row_past n k h = get_or_past (row n) k 0 (omega (arith, length-row n))

empty_sound : SoundBook empty_book
empty_sound = (
  record {
    long_beds = length-row INITIAL_BEDS;
    long_booked = length-row 0;
    within = λ k. ⊎_elim (λ h. omega (arith, row_at 0 k h)) (λ h. omega (arith, row_past 0 k h)) (cases_lt k PLACES);
    few = λ k. ⊎_elim (λ h. omega (arith, row_at INITIAL_BEDS k h)) (λ h. omega (arith, row_past INITIAL_BEDS k h)) (cases_lt k PLACES);
    tallies = λ k. ⊎_elim (λ h. omega (arith, row_at 0 k h)) (λ h. omega (arith, row_past 0 k h)) (cases_lt k PLACES);
    stays = tt;
  },
  refl,
)

folded_sound : (es : List PlainEntry) (b : PlainBook) → Each InRange es → SoundBook b → SoundBook (fold (λ c e. does e c) b es)
folded_sound [] b ok sound = sound
folded_sound (e ∷ es) b ok sound = folded_sound es (does e b) ok.1 (does_sound e b ok.0 sound)

pub made_sound : (es : List PlainEntry) → Each InRange es → SoundBook (book_of es)
made_sound es ok = folded_sound es empty_book ok empty_sound

pub book-push : (es : List PlainEntry) (e : PlainEntry) → book_of (es ++ e ∷ []) ≡ does e (book_of es)
book-push es e = fold_push (λ b e. does e b) empty_book es e

held_prop : (o : PlainOutcome) → IsProp (HeldOk o)
held_prop (holds g) = hlevel props
held_prop nothing = hlevel props
held_prop (cancelled g) = hlevel props
held_prop (changed g m) = hlevel props
held_prop (freed p) = hlevel props
held_prop (resized s were) = hlevel props

module _ (b : PlainBook) (reached : Reached b) where
  sound_of : (w : (es : List PlainEntry) × Each InRange es × (b ≡ book_of es)) → SoundBook b
  sound_of w = subst SoundBook (sym w.2) (made_sound w.0 w.1)

  pub reached_sound : SoundBook b
  reached_sound = (
    record {
      long_beds = ∥∥₁_elim reached (hlevel props) (λ w. (sound_of w).0.long_beds);
      long_booked = ∥∥₁_elim reached (hlevel props) (λ w. (sound_of w).0.long_booked);
      within = ∥∥₁_elim reached (hlevel props) (λ w. (sound_of w).0.within);
      few = ∥∥₁_elim reached (hlevel props) (λ w. (sound_of w).0.few);
      tallies = ∥∥₁_elim reached (hlevel props) (λ w. (sound_of w).0.tallies);
      stays = ∥∥₁_elim reached (each_prop HeldOk held_prop b.outcomes) (λ w. (sound_of w).0.stays);
    },
    ∥∥₁_elim reached (hlevel props) (λ w. (sound_of w).1),
  )

  pub reached_covered : Covered b.booked b.outcomes
  reached_covered p g is k h = share_within b.booked g.choice k h (standing-share p g (first g.choice.stay + k) reached_sound.0 is)

  pub reached_few : Few b.booked
  reached_few k = omega (arith, reached_sound.0.within k, reached_sound.0.few k)

pub reached_empty : Reached empty_book
reached_empty = ∣ ([], tt, refl) ∣₁

pub reached_does : (e : PlainEntry) (b c : PlainBook) → InRange e → Reached b → c ≡ does e b → Reached c
reached_does e b c ok reached is = ∥∥₁_map reached (λ w. (w.0 ++ e ∷ [], each_push InRange w.0 e w.1 ok, is ∙ ap (does e) w.2 ∙ sym (book-push w.0 e)))

-- a list that is not empty ends with an entry
ends_with : (es : List PlainEntry) → 0 < length es → (front : List PlainEntry) × (e : PlainEntry) × (es ≡ front ++ e ∷ [])
ends_with [] h = absurd (omega arith)
ends_with (e ∷ []) h = ([], e, refl)
ends_with (e ∷ f ∷ es) h = let rest = ends_with (f ∷ es) (omega arith) in (e ∷ rest.0, rest.1, ap (λ l. e ∷ l) rest.2)

each_front : (front : List PlainEntry) (e : PlainEntry) → Each InRange (front ++ e ∷ []) → Each InRange front × InRange e
each_front [] e ok = (tt, ok.0)
each_front (f ∷ front) e ok = let rest = each_front front e ok.1 in ((ok.0, rest.0), rest.1)

folded_marks : (es : List PlainEntry) (b : PlainBook) → length (fold (λ c e. does e c) b es).marks ≡ length b.marks + length es
folded_marks [] b = omega arith
folded_marks (e ∷ es) b = let rest = folded_marks es (does e b) in let one = length_push b.marks e.mark in omega arith

pub reached_undone : (b : PlainBook) → Reached b → 0 < length b.marks → Reached (undone b)
reached_undone b reached some =
    ∥∥₁_map reached
    (λ w.
    let count = ap (λ (x : PlainBook). length x.marks) w.2 ∙ folded_marks w.0 empty_book in
    let last = ends_with w.0 (omega arith) in
    let ok = each_front last.0 last.1 (subst (Each InRange) last.2 w.1) in
    (last.0, ok.0, ap undone (w.2 ∙ ap book_of last.2 ∙ book-push last.0 last.1) ∙ undone-does last.1 (book_of last.0) ok.1 (made_sound last.0 ok.0)))

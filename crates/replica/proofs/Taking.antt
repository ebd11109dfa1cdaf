-- A log with another's tentative entry.
use Rattle.std.proofs.Common.{◌≡◌, ℕ, ◌+◌, ◌<◌, ◌≤◌, max, List, ◌∷◌, ◌++◌, map, length, take, drop, vec_items, sym, ap, ◌∙◌, subst, arith, length-append}
use Rattle.bookings.specs.declared.book.TheConstants.{CAPACITY}
use Rattle.bookings.specs.declared.limits.TheConstants.{HUTS}
use lib.ListN.{length-map}
use Rattle.std.proofs.lemmas.List.Edits.{length-insert}
use Rattle.std.proofs.lemmas.List.{append_assoc, take_at, take-append-drop, length-take-le}
use Rattle.bookings.proofs.Each.{each_map}
use Rattle.bookings.proofs.Ranged.{in_range}
use Rattle.bookings.specs.Books.{PlainBook}
use Rattle.bookings.specs.Plain.{PlainEntry, plain}
use Rattle.bookings.specs.Ranges.{Each, InRange}
use Rattle.entry_log.proofs.Marks.{spot_within}
use Rattle.entry_log.proofs.Putting.{into-spot}
use Rattle.entry_log.proofs.Stamps.{top-append, top-into, highest-append, highest-cons, highest-into, vector_more}
use Rattle.entry_log.specs.Logs.{PlainLog, all_of, spot, into, top, add_tentative}
use Rattle.entry_log.specs.Order.{Once}
use Rattle.entry_log.specs.Vectors.{vector_of, noted, highest}
use Rattle.entry_log.specs.Views.{log_in}
use Rattle.entry_log.specs.declared.log.Log.{Log}
use Rattle.replica.proofs.Stepped.{step_is}
use Rattle.replica.specs.Steps.{InStep, SharesFront}

-- what a log holds is in range
log_in_range : (l : Log) → Each InRange (all_of (log_in l))
log_in_range l = subst (Each InRange) (sym (take-append-drop l.committed (map plain (vec_items l.entries)))) (each_map plain InRange (vec_items l.entries) in_range)

-- the book of a log, and another log that has the same up to a place
pub shares_front :
    (l : Log) (b : PlainBook) {place at : ℕ} {es fs : List PlainEntry} → InStep b (all_of (log_in l)) → at ≡ place → es ≡ fs → take place fs ≡ take place (all_of (log_in l))
    → SharesFront at b es
shares_front l b {at = at} {fs = fs} step here is same = (
  all_of (log_in l),
  log_in_range l,
  step_is b (all_of (log_in l)) step,
  ap (λ n. take n (all_of (log_in l))) here ∙ sym same ∙ ap (λ n. take n fs) (sym here) ∙ ap (take at) (sym is),
)

module _ (e : PlainEntry) (l : PlainLog) where
  pub place_within : length l.committed + spot e.mark l.tentative ≤ length (all_of l)
  place_within = omega (arith, spot_within e.mark l.tentative, length-append l.committed l.tentative)

  -- what stands before the place stays
  pub front_same : take (length l.committed + spot e.mark l.tentative) (all_of (add_tentative e l)) ≡ take (length l.committed + spot e.mark l.tentative) (all_of l)
  front_same =
      let s : ℕ = spot e.mark l.tentative in
      let front : List PlainEntry = l.committed ++ take s l.tentative in
      let long : length front ≡ length l.committed + s =
      length-append l.committed (take s l.tentative) ∙ ap (λ n. length l.committed + n) (length-take-le s l.tentative (spot_within e.mark l.tentative)) in
      let after : all_of (add_tentative e l) ≡ front ++ e ∷ drop s l.tentative =
      ap (λ t. l.committed ++ t) (into-spot e l.tentative) ∙ sym (append_assoc l.committed (take s l.tentative) (e ∷ drop s l.tentative)) in
      let was : all_of l ≡ front ++ drop s l.tentative =
      ap (λ t. l.committed ++ t) (sym (take-append-drop s l.tentative)) ∙ sym (append_assoc l.committed (take s l.tentative) (drop s l.tentative)) in
      ap (take (length l.committed + s)) after ∙ take_at front (e ∷ drop s l.tentative) (length l.committed + s) long
      ∙ sym (ap (take (length l.committed + s)) was ∙ take_at front (drop s l.tentative) (length l.committed + s) long)

  pub tentative-length : length (all_of (add_tentative e l)) ≡ length (all_of l) + 1
  tentative-length =
      let s : ℕ = spot e.mark l.tentative in
      omega (arith, length-append l.committed (into e l.tentative), length-append l.committed l.tentative, ap length (into-spot e l.tentative), length-insert l.tentative s e (spot_within e.mark l.tentative))

  pub tentative-top : top (all_of (add_tentative e l)) ≡ max e.mark.stamp (top (all_of l))
  tentative-top = omega (arith, top-append l.committed (into e l.tentative), top-append l.committed l.tentative, top-into e l.tentative)

  pub tentative_vector : e.mark.hut < HUTS → vector_of (all_of (add_tentative e l)) ≡ noted e.mark (vector_of (all_of l))
  tentative_vector in-huts =
      sym (vector_more (all_of l) (all_of (add_tentative e l)) e in-huts
      (λ h. highest-append l.committed (into e l.tentative) h ∙ ap (max (highest l.committed h)) (highest-into e l.tentative h) ∙ first-or-last h))
    where
      first-or-last : (h : ℕ) → max (highest l.committed h) (highest (e ∷ l.tentative) h) ≡ highest (e ∷ all_of l) h
      first-or-last h = omega (arith, highest-cons e l.tentative h, highest-cons e (all_of l) h, highest-append l.committed l.tentative h)

-- each mark of a log stands once, and a log is never too long
pub log_once : (l : Log) → Once (all_of (log_in l))
log_once l = subst Once (sym (take-append-drop l.committed (map plain (vec_items l.entries)))) l.once

pub log_few : (l : Log) → length (all_of (log_in l)) ≤ CAPACITY
log_few l =
    omega (arith, ap length (take-append-drop l.committed (map plain (vec_items l.entries))), length-map (vec_items l.entries) plain, l.entries.ok.0, l.room.0)

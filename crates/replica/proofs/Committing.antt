-- A log with a committed entry more: what stands before its place stays, and what a head says of it.
use Rattle.std.proofs.Common.{◌≡◌, ℕ, ◌+◌, ◌<◌, ◌≤◌, max, true, false, List, Some, [], ◌∷◌, ◌++◌, length, take, sym, refl, ap, ◌∙◌, arith, length-append}
use Rattle.std.proofs.lemmas.List.{append_assoc, take_at}
use Rattle.bookings.specs.Plain.{PlainEntry}
use Rattle.bookings.specs.declared.limits.TheConstants.{HUTS}
use Rattle.entry_log.proofs.Putting.{length_without, without_none, none_has, has_some, same_self, times-append}
use Rattle.entry_log.proofs.Stamps.{top-append, top-without, highest-append, highest-cons, highest-without, vector_more, vector_same}
use Rattle.entry_log.specs.Logs.{PlainLog, all_of, has, without, top, first_entry, add_committed}
use Rattle.entry_log.specs.Order.{times, Once}
use Rattle.entry_log.specs.Vectors.{vector_of, noted, highest}

module _ (e : PlainEntry) (l : PlainLog) where
  -- the committed entries, this one, and the others
  pub committed_all : all_of (add_committed e l) ≡ l.committed ++ e ∷ without e.mark l.tentative
  committed_all = append_assoc l.committed (e ∷ []) (without e.mark l.tentative)

  pub committed_front : take (length l.committed) (all_of (add_committed e l)) ≡ take (length l.committed) (all_of l)
  committed_front =
      ap (take (length l.committed)) committed_all ∙ take_at l.committed (e ∷ without e.mark l.tentative) (length l.committed) refl
      ∙ sym (take_at l.committed l.tentative (length l.committed) refl)

  committed-length : length (all_of (add_committed e l)) ≡ length l.committed + 1 + length (without e.mark l.tentative)
  committed-length = omega (arith, ap length committed_all, length-append l.committed (e ∷ without e.mark l.tentative))

  committed-highest : (h : ℕ) → highest (all_of (add_committed e l)) h ≡ max (highest l.committed h) (highest (e ∷ without e.mark l.tentative) h)
  committed-highest h = ap (λ es. highest es h) committed_all ∙ highest-append l.committed (e ∷ without e.mark l.tentative) h

  committed-top : top (all_of (add_committed e l)) ≡ max (top l.committed) (max e.mark.stamp (top (without e.mark l.tentative)))
  committed-top = ap top committed_all ∙ top-append l.committed (e ∷ without e.mark l.tentative)

  -- one that was tentative
  pub known_length : has e.mark l.tentative ≡ true → Once (all_of l) → length (all_of (add_committed e l)) ≡ length (all_of l)
  known_length there once =
      let few : times e.mark l.tentative ≤ 1 = omega (arith, once e.mark, times-append e.mark l.committed l.tentative) in
      omega (arith, committed-length, length_without e.mark l.tentative there few, length-append l.committed l.tentative)

  pub known_top : has e.mark l.tentative ≡ true → top (all_of (add_committed e l)) ≡ top (all_of l)
  known_top there = omega (arith, committed-top, top-without e.mark l.tentative there, top-append l.committed l.tentative)

  pub known_vector : has e.mark l.tentative ≡ true → vector_of (all_of (add_committed e l)) ≡ vector_of (all_of l)
  known_vector there =
      vector_same (all_of (add_committed e l)) (all_of l)
      (λ h. committed-highest h ∙ ap (max (highest l.committed h)) (highest-without e l.tentative h there) ∙ sym (highest-append l.committed l.tentative h))

  -- one that was not known
  pub new_length : has e.mark l.tentative ≡ false → length (all_of (add_committed e l)) ≡ length (all_of l) + 1
  new_length new = omega (arith, committed-length, ap length (without_none e.mark l.tentative new), length-append l.committed l.tentative)

  pub new_top : has e.mark l.tentative ≡ false → top (all_of (add_committed e l)) ≡ max e.mark.stamp (top (all_of l))
  new_top new = omega (arith, committed-top, ap top (without_none e.mark l.tentative new), top-append l.committed l.tentative)

  pub new_vector : has e.mark l.tentative ≡ false → e.mark.hut < HUTS → vector_of (all_of (add_committed e l)) ≡ noted e.mark (vector_of (all_of l))
  new_vector new in-huts =
      sym (vector_more (all_of l) (all_of (add_committed e l)) e in-huts
      (λ h.
      let rest = ap (λ es. highest (e ∷ es) h) (without_none e.mark l.tentative new) in
      omega (arith, committed-highest h, highest-cons e l.tentative h, highest-cons e (all_of l) h, highest-append l.committed l.tentative h)))

-- the first tentative entry is no committed one
pub first_known : (l : PlainLog) (ts : List PlainEntry) (e : PlainEntry) → l.tentative ≡ ts → first_entry ts ≡ Some e → has e.mark l.tentative ≡ true
first_known l [] e is first = absurd (let z : ◌≡◌ {A = ℕ} 0 1 = cc in omega arith)
first_known l (f ∷ fs) e is first =
    let same : f ≡ e = cc in ap (has e.mark) (is ∙ ap (λ x. x ∷ fs) same) ∙ rw (same_self e.mark) refl

pub first_uncommitted : (l : PlainLog) (e : PlainEntry) → first_entry l.tentative ≡ Some e → Once (all_of l) → has e.mark l.committed ≡ false
first_uncommitted l e first once =
    none_has e.mark l.committed (omega (arith, once e.mark, times-append e.mark l.committed l.tentative, has_some e.mark l.tentative (first_known l l.tentative e refl first)))

-- Undoing the entry that was done last gives back the very book.
use Rattle.std.proofs.Common.{◌≡◌, ℕ, ◌+◌, ◌-◌, max, List, [], ◌∷◌, ◌++◌, length, get_or, take, drop, set, Some, None, Option, sym, refl, ap, ◌∙◌, arith}
use Rattle.std.proofs.lemmas.List.{length_push, take_at, get_or_at, get_or-set_same, set-set, set-get_or, get_or-take, get_or-drop}
use Rattle.bookings.specs.Books.{PlainBook, Standing, Effect, entered, booking, cancelling, changing, changing_to, effect_of, first_free, standing, does}
use Rattle.bookings.specs.Nights.{first, claim, release, resize, restore, numbers_on}
use Rattle.bookings.specs.Outcomes.{PlainGrant, PlainOutcome, holds, nothing, cancelled, changed, once_held_by}
use Rattle.bookings.specs.Plain.{PlainMark, PlainChoice, PlainKind, book, cancel, change, supply, PlainEntry}
use Rattle.bookings.specs.Ranges.{StayOk, ChoiceOk, Each, InRange, KindOk}
use Rattle.bookings.specs.Undone.{Rest, reinstated, reinstated_at, taken_back, undone}
use Rattle.bookings.proofs.Find.{standing-holds}
use Rattle.bookings.proofs.Fit.{first_each}
use Rattle.bookings.proofs.Over.{over_back, length_over, stay_fits, claim_after_release, release_after_claim}
use Rattle.bookings.proofs.Sound.{Sound, SoundBook, standing-stay, standing-share}
use Rattle.bookings.proofs.Tally.{holds_within, share_within}
use Rattle.bookings.specs.declared.limits.TheConstants.{PLACES}

abbrev rest_of : PlainBook → Rest
rest_of b = record { beds = b.beds; booked = b.booked; outcomes = b.outcomes }

abbrev afterwards : Effect → Rest
afterwards e = record { beds = e.beds; booked = e.booked; outcomes = e.outcomes }

abbrev with_marks : List PlainMark → Rest → PlainBook
with_marks ms r = record { beds = r.beds; booked = r.booked; marks = ms; outcomes = r.outcomes }

push_last : {A : Type 0} (xs : List A) (x d : A) → get_or (xs ++ x ∷ []) (length (xs ++ x ∷ []) - 1) d ≡ x
push_last xs x d = get_or_at xs x [] d (length (xs ++ x ∷ []) - 1) (omega (arith, length_push xs x))

push_front : {A : Type 0} (xs : List A) (x : A) → take (length (xs ++ x ∷ []) - 1) (xs ++ x ∷ []) ≡ xs
push_front xs x = take_at xs (x ∷ []) (length (xs ++ x ∷ []) - 1) (omega (arith, length_push xs x))

-- the entry's mark and outcome are taken out, and what it did is taken back
undone-entered : (b : PlainBook) (m : PlainMark) (e : Effect) → undone (entered b m e) ≡ with_marks b.marks (taken_back e.own (afterwards e))
undone-entered b m e = rw (push_last e.outcomes e.own nothing, push_front e.outcomes e.own, push_front b.marks m) refl

-- a booking that gave its beds back gets them again
reinstated_back :
    (beds booked : List ℕ) (os : List PlainOutcome) (p : ℕ) (g : PlainGrant) (o : PlainOutcome) → Sound beds booked os → get_or os p nothing ≡ holds g → once_held_by o ≡ Some g
    → reinstated (Some p) (record { beds = beds; booked = release booked g.choice; outcomes = set os p o }) ≡ record { beds = beds; booked = booked; outcomes = os }
reinstated_back beds booked os p g o s is once =
    let there = get_or-set_same os p o nothing (holds_within os p g is) in
    let again = claim_after_release booked g.choice s.long_booked (standing-stay p g s is) (λ k h. share_within booked g.choice k h (standing-share p g (first g.choice.stay + k) s is)) in
    let whole : set (set os p o) p (holds g) ≡ os = set-set os p o (holds g) ∙ ap (set os p) (sym is) ∙ set-get_or os p nothing in
    ap (λ q. reinstated_at p (once_held_by q) (record { beds = beds; booked = release booked g.choice; outcomes = set os p o })) there
    ∙ ap (λ q. reinstated_at p q (record { beds = beds; booked = release booked g.choice; outcomes = set os p o })) once
    ∙ ap (λ n. record { beds = beds; booked = n; outcomes = set (set os p o) p (holds g) }) again
    ∙ ap (λ l. record { beds = beds; booked = booked; outcomes = l }) whole

-- beds that were changed are put back
restored_back : (beds booked : List ℕ) (c : PlainChoice) → length beds ≡ PLACES → StayOk c.stay → restore (resize beds booked c) c.stay (numbers_on beds c.stay) ≡ beds
restored_back beds booked c long ok =
    over_back (λ k _. max c.beds (get_or booked k 0)) (λ k _. get_or (numbers_on beds c.stay) (k - first c.stay) 0) beds (first c.stay) c.stay.nights (omega (arith, stay_fits c.stay ok))
    (λ k from upto.
    let at : first c.stay + (k - first c.stay) ≡ k = omega arith in
    get_or-take c.stay.nights (drop (first c.stay) beds) (k - first c.stay) 0 (omega arith)
    ∙ get_or-drop (first c.stay) beds (k - first c.stay) 0 ∙ ap (λ j. get_or beds j 0) at)

module _ (b : PlainBook) (s : Sound b.beds b.booked b.outcomes) where
  booking_back : (cs : List PlainChoice) (g : Option PlainGrant) → Each ChoiceOk cs → first_free b.beds b.booked None 0 cs ≡ g → taken_back (booking b g).own (afterwards (booking b g)) ≡ rest_of b
  booking_back cs None ok is = refl
  booking_back cs (Some g) ok is =
      let got = first_each ChoiceOk b.beds b.booked None 0 g cs ok is in
      ap (λ p. reinstated p (record { beds = b.beds; booked = release (claim b.booked g.choice) g.choice; outcomes = b.outcomes })) got.1
      ∙ ap (λ n. record { beds = b.beds; booked = n; outcomes = b.outcomes }) (release_after_claim b.booked g.choice s.long_booked got.0.0)

  cancelling_back : (n : PlainMark) (o : Option Standing) → standing b.marks b.outcomes n ≡ o → taken_back (cancelling b o).own (afterwards (cancelling b o)) ≡ rest_of b
  cancelling_back n None is = refl
  cancelling_back n (Some f) is =
      reinstated_back b.beds b.booked b.outcomes f.place f.grant (cancelled f.grant) s (standing-holds b.outcomes _ f is) refl

  changing_to_back :
      (m : PlainMark) (cs : List PlainChoice) (f : Standing) (g : Option PlainGrant) → Each ChoiceOk cs → get_or b.outcomes f.place nothing ≡ holds f.grant
      → first_free b.beds (release b.booked f.grant.choice) (Some f.place) 0 cs ≡ g → taken_back (changing_to m b f g).own (afterwards (changing_to m b f g)) ≡ rest_of b
  changing_to_back m cs f None ok holding is = refl
  changing_to_back m cs f (Some g) ok holding is =
      let given = release b.booked f.grant.choice in
      let got = first_each ChoiceOk b.beds given (Some f.place) 0 g cs ok is in
      let long = length_over (λ _ n. n - f.grant.choice.beds) b.booked (first f.grant.choice.stay) f.grant.choice.stay.nights ∙ s.long_booked in
      ap (λ p. reinstated p (record { beds = b.beds; booked = release (claim given g.choice) g.choice; outcomes = set b.outcomes f.place (changed f.grant m) })) got.1
      ∙ ap (λ n. reinstated (Some f.place) (record { beds = b.beds; booked = n; outcomes = set b.outcomes f.place (changed f.grant m) })) (release_after_claim given g.choice long got.0.0)
      ∙ reinstated_back b.beds b.booked b.outcomes f.place f.grant (changed f.grant m) s holding refl

  changing_back : (m n : PlainMark) (cs : List PlainChoice) (o : Option Standing) → Each ChoiceOk cs → standing b.marks b.outcomes n ≡ o → taken_back (changing m cs b o).own (afterwards (changing m cs b o)) ≡ rest_of b
  changing_back m n cs None ok is = refl
  changing_back m n cs (Some f) ok is = changing_to_back m cs f _ ok (standing-holds b.outcomes _ f is) refl

  effect_back : (m : PlainMark) (k : PlainKind) → KindOk k → taken_back (effect_of m k b).own (afterwards (effect_of m k b)) ≡ rest_of b
  effect_back m (book guest cs) ok = booking_back cs _ ok.1 refl
  effect_back m (cancel n) ok = cancelling_back n _ refl
  effect_back m (change n cs) ok = changing_back m n cs _ ok.1.1 refl
  effect_back m (supply c) ok = ap (λ n. record { beds = n; booked = b.booked; outcomes = b.outcomes }) (restored_back b.beds b.booked c s.long_beds ok.0)

pub undone-does : (e : PlainEntry) (b : PlainBook) → InRange e → SoundBook b → undone (does e b) ≡ b
undone-does e b ok sound =
    undone-entered b e.mark (effect_of e.mark e.kind b) ∙ ap (with_marks b.marks) (effect_back b sound.0 e.mark e.kind ok.1)

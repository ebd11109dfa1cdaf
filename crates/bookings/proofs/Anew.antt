-- A change is a cancellation and a new booking.
use Rattle.std.proofs.Common.{◌≡◌, ℕ, suc, ◌<◌, Bool, true, false, cond, List, [], ◌∷◌, length, set, Some, None, Option, refl, ◌∙◌, sym, subst, inl, inr, arith}
use Rattle.std.proofs.lemmas.List.{get_or-set_same, get_or_append_left, length-set}
use Rattle.bookings.specs.Books.{PlainBook, Standing, entered, first_free, booking, cancelling, changing, changing_to, book_of}
use Rattle.bookings.specs.Laws.{CameTo, CancelThenBook, ChangeIsCancelThenBook}
use Rattle.bookings.specs.Nights.{is_free, release}
use Rattle.bookings.specs.Outcomes.{PlainGrant, changed, holds, nothing}
use Rattle.bookings.specs.Plain.{PlainChoice, PlainMark}
use Rattle.bookings.proofs.Find.{place_within}
use Rattle.bookings.proofs.Gone.{many_outcomes, place_more}
use Rattle.bookings.proofs.Theorems.{came_standing}

-- the same grant, of an entry that replaces another
abbrev over : Option ℕ → Option PlainGrant → Option PlainGrant
over o None = None
over o (Some g) = Some (record { number = g.number; choice = g.choice; replaces = o })

over_free :
    (beds booked : List ℕ) (o : Option ℕ) (i : ℕ) (cs : List PlainChoice) → first_free beds booked o i cs ≡ over o (first_free beds booked None i cs)
over_free beds booked o i [] = refl
over_free beds booked o i (c ∷ cs) = by (is_free beds booked c) (over_free beds booked o (suc i) cs)
  where
    by :
        (b : Bool) → first_free beds booked o (suc i) cs ≡ over o (first_free beds booked None (suc i) cs)
        → cond b (Some (record { number = i; choice = c; replaces = o })) (first_free beds booked o (suc i) cs)
        ≡ over o (cond b (Some (record { number = i; choice = c; replaces = None })) (first_free beds booked None (suc i) cs))
    by true further = refl
    by false further = further

module _ (b : PlainBook) (own m c n : PlainMark) (cs : List PlainChoice) where
  -- the book after a cancellation of what stands, and after a new booking that gets so much
  abbrev gone : Option Standing → PlainBook
  gone s = entered b c (cancelling b s)

  abbrev anew : Option Standing → Option PlainGrant → PlainBook
  anew s f = entered (gone s) n (booking (gone s) f)

  by_grant :
      (g : PlainGrant) (came : CameTo b m (holds g)) (f : Option PlainGrant) → came.0 < length b.outcomes
      → CancelThenBook own m g b (gone (Some (record { place = came.0; grant = g }))) (anew (Some (record { place = came.0; grant = g })) f)
      (entered b own (changing_to own b (record { place = came.0; grant = g }) (over (Some came.0) f)))
  by_grant g came None low = inr (refl, record { beds = refl; booked = refl; outcomes = refl })
  by_grant g came (Some h) low =
      let got : PlainGrant = record { number = h.number; choice = h.choice; replaces = Some came.0 } in
      let os = set b.outcomes came.0 (changed g own) in
      inl (
        h,
        refl,
        record {
          beds = refl;
          booked = refl;
          old = (
            came.0,
            place_more m own 0 came.0 b.marks came.1,
            get_or_append_left os (holds got ∷ []) nothing came.0 (omega (arith, low, length-set b.outcomes came.0 (changed g own)))
                ∙ get_or-set_same b.outcomes came.0 (changed g own) nothing low,
          );
          got = got;
          outcomes = refl;
          number = refl;
          choice = refl;
        },
      )

  by_free :
      (g : PlainGrant) (came : CameTo b m (holds g)) → came.0 < length b.outcomes
      → CancelThenBook own m g b (gone (Some (record { place = came.0; grant = g })))
      (anew (Some (record { place = came.0; grant = g })) (first_free b.beds (release b.booked g.choice) None 0 cs))
      (entered b own (changing own cs b (Some (record { place = came.0; grant = g }))))
  by_free g came low =
      let booked = release b.booked g.choice in
      let s : Standing = record { place = came.0; grant = g } in
      subst
      (λ (f : Option PlainGrant). CancelThenBook own m g b (gone (Some s)) (anew (Some s) (first_free b.beds booked None 0 cs)) (entered b own (changing_to own b s f)))
      (sym (over_free b.beds booked (Some came.0) 0 cs)) (by_grant g came (first_free b.beds booked None 0 cs) low)

pub change_is_cancel_then_book_lem : ChangeIsCancelThenBook
change_is_cancel_then_book_lem es own m c n guest cs g came =
    let b = book_of es in
    subst
    (λ (s : Option Standing).
    CancelThenBook own m g b (gone b own m c n cs s) (anew b own m c n cs s (first_free (gone b own m c n cs s).beds (gone b own m c n cs s).booked None 0 cs))
    (entered b own (changing own cs b s)))
    (sym (came_standing b m (holds g) came)) (by_free b own m c n cs g came (let within = place_within m 0 came.0 b.marks came.1 in omega (arith, many_outcomes es)))

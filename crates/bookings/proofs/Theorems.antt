-- The laws of bookings.
use Rattle.std.proofs.Common.{◌≡◌, ℕ, ◌-◌, ◌<◌, ◌≤◌, max, false, ◌⊎◌, [], ◌∷◌, ◌++◌, length, get_or, Some, None, Option, sym, refl, ap, ◌∙◌, inl, inr, ⊎_elim, arith}
use Rattle.std.proofs.lemmas.Bool.{cases_Bool}
use Rattle.bookings.specs.Books.{PlainBook, effect_of, first_free, standing, standing_at, standing_with, place_from, changing, changing_to, does, book_of}
use Rattle.bookings.specs.Laws.{NoneFree, IsFirstFree, DoesNothing, Names, by_cancel, by_change, CameTo}
use Rattle.bookings.specs.Laws.{NeverOverbooked, BookedIsHeld, GetsFirstFree, UndoGivesBack, OldMarkDoesNothing, ChangeNotFreeDoesNothing, UnknownMarkDoesNothing, BedsAreSet}
use Rattle.bookings.specs.Nights.{place_of, first, release, is_free}
use Rattle.bookings.specs.Outcomes.{PlainGrant, PlainOutcome, holds, nothing, cancelled, changed, freed, held_by}
use Rattle.bookings.specs.Plain.{PlainMark, PlainChoice, PlainKind, book, change}
use Rattle.bookings.specs.Undone.{undone}
use Rattle.bookings.proofs.Find.{place_is}
use Rattle.bookings.proofs.Fit.{first-is_free, first_found, first_none, none_first}
use Rattle.bookings.proofs.Over.{over_cases, stay_fits}
use Rattle.bookings.proofs.Reach.{made_sound, book-push}
use Rattle.bookings.proofs.Sound.{Sound, standing-stay}
use Rattle.bookings.proofs.Tally.{release-share}
use Rattle.bookings.proofs.Undoing.{undone-does}
use Rattle.bookings.proofs.Words.{covers-inside, all_held, free_yes, free_no}

pub never_overbooked_lem : NeverOverbooked
never_overbooked_lem es ok hut night = (made_sound es ok).0.within (place_of hut night)

pub booked_is_held_lem : BookedIsHeld
booked_is_held_lem es ok hut night in-huts in-year =
    let sound = (made_sound es ok).0 in
    sound.tallies (place_of hut night) ∙ all_held (book_of es).outcomes hut night sound.stays in-year

pub gets_first_free_lem : GetsFirstFree
gets_first_free_lem es ok m guest cs in_range = by_grant (first_free (book_of es).beds (book_of es).booked None 0 cs) refl
  where
    sound : Sound (book_of es).beds (book_of es).booked (book_of es).outcomes
    sound = (made_sound es ok).0

    by_grant :
        (g : Option PlainGrant) → first_free (book_of es).beds (book_of es).booked None 0 cs ≡ g
        → ((g : PlainGrant) × ((does (record { mark = m; kind = book guest cs }) (book_of es)).outcomes ≡ (book_of es).outcomes ++ holds g ∷ []) × IsFirstFree (book_of es) cs g)
        ⊎ (((does (record { mark = m; kind = book guest cs }) (book_of es)).outcomes ≡ (book_of es).outcomes ++ nothing ∷ []) × NoneFree (book_of es) cs)
    by_grant (Some g) is =
        let found = first_found (book_of es).beds (book_of es).booked None 0 g cs is in
        let at : g.number - 0 ≡ g.number = omega arith in
        inl (
          g,
          rw is refl,
          record {
            one_of = (omega arith, rw at at found.2);
            free = free_yes (book_of es) g.choice sound.within (first-is_free (book_of es).beds (book_of es).booked None 0 g cs is);
            none_before = λ k d h. free_no (book_of es) (get_or cs k d) (found.3 k d (omega arith));
          },
        )
    by_grant None is =
        inr (rw is refl, λ k d h. free_no (book_of es) (get_or cs k d) (first_none (book_of es).beds (book_of es).booked None 0 cs is k d h))

pub undo_gives_back_lem : UndoGivesBack
undo_gives_back_lem es e ok in_range = ap undone (book-push es e) ∙ undone-does e (book_of es) in_range (made_sound es ok)

-- an entry that names a booking which does not stand does nothing
nobody_stands : (b : PlainBook) (own m : PlainMark) (k : PlainKind) → Names k m → standing b.marks b.outcomes m ≡ None → DoesNothing (record { mark = own; kind = k }) b
nobody_stands b own m k by_cancel none = record { beds = rw none refl; booked = rw none refl; own = freed None; outcomes = rw none refl; holds-nothing = refl }
nobody_stands b own m k by_change none = record { beds = rw none refl; booked = rw none refl; own = nothing; outcomes = rw none refl; holds-nothing = refl }

pub came_standing : (b : PlainBook) (m : PlainMark) (o : PlainOutcome) (came : CameTo b m o) → standing b.marks b.outcomes m ≡ standing_with came.0 (held_by o)
came_standing b m o came = ap (standing_at b.outcomes) came.1 ∙ ap (λ q. standing_with came.0 (held_by q)) came.2

pub old_mark-does-nothing : OldMarkDoesNothing
old_mark-does-nothing es e m g names old =
    nobody_stands (book_of es) e.mark m e.kind names
    (⊎_elim (λ came. came_standing (book_of es) m (cancelled g) came) (λ came. came_standing (book_of es) m (changed g came.0) came.1) old)

pub unknown_mark-does-nothing : UnknownMarkDoesNothing
unknown_mark-does-nothing es e m names unknown = nobody_stands (book_of es) e.mark m e.kind names (nowhere (place_from 0 m (book_of es).marks) refl)
  where
    nowhere : (p : Option ℕ) → place_from 0 m (book_of es).marks ≡ p → standing (book_of es).marks (book_of es).outcomes m ≡ None
    nowhere None is = ap (standing_at (book_of es).outcomes) is
    nowhere (Some p) is =
        let there = place_is m 0 p (book_of es).marks is in
        let at : p - 0 ≡ p = omega arith in
        absurd (unknown (p, omega arith, rw at at there.1))

pub change_not_free-does-nothing : ChangeNotFreeDoesNothing
change_not_free-does-nothing es own m cs g ok in_range came none_free =
    record { beds = rw did refl; booked = rw did refl; own = nothing; outcomes = rw did refl; holds-nothing = refl }
  where
    given : PlainBook
    given = record { beds = (book_of es).beds; booked = release (book_of es).booked g.choice; marks = []; outcomes = [] }

    sound : Sound (book_of es).beds (book_of es).booked (book_of es).outcomes
    sound = (made_sound es ok).0

    within : (k : ℕ) → get_or (release (book_of es).booked g.choice) k 0 ≤ get_or (book_of es).beds k 0
    within k = omega (arith, release-share (book_of es).booked g.choice sound.long_booked (standing-stay came.0 g sound came.2) k, sound.within k)

    not_free : (k : ℕ) (d : PlainChoice) → k < length cs → is_free (book_of es).beds (release (book_of es).booked g.choice) (get_or cs k d) ≡ false
    not_free k d h =
        ⊎_elim (λ yes-free. absurd (none_free k d h (free_yes given (get_or cs k d) within yes-free))) (λ not_so. not_so)
        (cases_Bool (is_free (book_of es).beds (release (book_of es).booked g.choice) (get_or cs k d)))

    did : effect_of own (change m cs) (book_of es) ≡ record { beds = (book_of es).beds; booked = (book_of es).booked; outcomes = (book_of es).outcomes; own = nothing }
    did =
        ap (changing own cs (book_of es)) (came_standing (book_of es) m (holds g) came)
        ∙ ap (changing_to own (book_of es) (record { place = came.0; grant = g })) (none_first (book_of es).beds (release (book_of es).booked g.choice) (Some came.0) 0 cs not_free)

pub beds_are_set_lem : BedsAreSet
beds_are_set_lem es m c ok in_range hut night in-huts in-year =
    let sound = (made_sound es ok).0 in
    let where-it-is = covers-inside c.stay hut night in_range.0 in-year in
    ⊎_elim (λ h. rw (sym where-it-is ∙ h.0) h.1) (λ h. rw (sym where-it-is ∙ h.0) h.1)
    (over_cases (λ k _. max c.beds (get_or (book_of es).booked k 0)) (book_of es).beds (first c.stay) c.stay.nights (place_of hut night) (omega (arith, stay_fits c.stay in_range.0, sound.long_beds)))

-- What was cancelled gave its beds back, and holds nothing from then on.
use Rattle.std.proofs.Common.{◌≡◌, ℕ, zero, suc, ◌+◌, ◌<◌, Bool, true, false, cond, ◌⊎◌, List, [], ◌∷◌, ◌++◌, length, get_or, set, fold, Some, None, Option, sym, refl, ap, ◌∙◌, subst, inl, inr, ⊎_elim, arith}
use Rattle.std.proofs.lemmas.Bool.{cases_eq, eq-eqb, false≢true}
use Rattle.std.proofs.lemmas.List.{get_or-set_same, get_or-set_other, get_or_append_left, length-set, length_push}
use Rattle.std.proofs.lemmas.List.Sums.{fold-append}
use Rattle.bookings.specs.Books.{PlainBook, Standing, Effect, entered, same_mark, effect_of, first_free, standing, standing_at, standing_with, place_from, cancelling, changing, changing_to, does, book_of, empty_book}
use Rattle.bookings.specs.Laws.{CameTo, CancelFrees, CancelLasts, beds_of, booked_on}
use Rattle.bookings.specs.Held.{share}
use Rattle.bookings.specs.Nights.{place_of, release}
use Rattle.bookings.specs.Outcomes.{PlainGrant, PlainOutcome, holds, nothing, cancelled, changed, freed, held_by}
use Rattle.bookings.specs.Plain.{PlainMark, PlainChoice, PlainKind, PlainEntry, book, cancel, change, supply}
use Rattle.bookings.specs.Ranges.{StayOk}
use Rattle.bookings.proofs.Find.{place_within}
use Rattle.bookings.proofs.Reach.{made_sound}
use Rattle.bookings.proofs.Sound.{Sound, standing-stay, standing-share}
use Rattle.bookings.proofs.Theorems.{came_standing}
use Rattle.bookings.proofs.Tally.{release-share}
use Rattle.bookings.proofs.Words.{covers-inside}
use Rattle.bookings.specs.declared.limits.TheConstants.{HUTS, NIGHTS}

-- a mark that is found is found there when more marks follow
more_step : (m n : PlainMark) (i p : ℕ) (ms : List PlainMark) (b : Bool)
    → (place_from (suc i) m ms ≡ Some p → place_from (suc i) m (ms ++ n ∷ []) ≡ Some p) → cond b (Some i) (place_from (suc i) m ms) ≡ Some p
    → cond b (Some i) (place_from (suc i) m (ms ++ n ∷ [])) ≡ Some p
more_step m n i p ms true further e = e
more_step m n i p ms false further e = further e

pub place_more : (m n : PlainMark) (i p : ℕ) (ms : List PlainMark) → place_from i m ms ≡ Some p → place_from i m (ms ++ n ∷ []) ≡ Some p
place_more m n i p [] e = absurd (let z : ◌≡◌ {A = ℕ} 0 1 = cc in omega arith)
place_more m n i p (x ∷ ms) e = more_step m n i p ms (same_mark m x) (place_more m n (suc i) p ms) e

-- an entry changes at most one outcome, to one that holds nothing
abbrev Changes : List PlainOutcome → List PlainOutcome → Type 0
Changes os now = (now ≡ os) ⊎ ((q : ℕ) × (o : PlainOutcome) × (held_by o ≡ None) × (now ≡ set os q o))

effect_changes : (m : PlainMark) (k : PlainKind) (b : PlainBook) → Changes b.outcomes (effect_of m k b).outcomes
effect_changes m (book guest cs) b = inl refl
effect_changes m (cancel n) b = by (standing b.marks b.outcomes n)
  where
    by : (s : Option Standing) → Changes b.outcomes (cancelling b s).outcomes
    by None = inl refl
    by (Some s) = inr (s.place, cancelled s.grant, refl, refl)
effect_changes m (change n cs) b = by (standing b.marks b.outcomes n)
  where
    to : (s : Standing) (g : Option PlainGrant) → Changes b.outcomes (changing_to m b s g).outcomes
    to s None = inl refl
    to s (Some g) = inr (s.place, changed s.grant m, refl, refl)

    by : (s : Option Standing) → Changes b.outcomes (changing m cs b s).outcomes
    by None = inl refl
    by (Some s) = to s (first_free b.beds (release b.booked s.grant.choice) (Some s.place) 0 cs)
effect_changes m (supply c) b = inl refl

-- a place that holds nothing goes on so
set_holds : (os : List PlainOutcome) (q p : ℕ) (o : PlainOutcome) → held_by o ≡ None → p < length os → held_by (get_or os p nothing) ≡ None → held_by (get_or (set os q o) p nothing) ≡ None
set_holds os q p o none within old =
    ⊎_elim
    (λ same. subst (λ (i : ℕ). held_by (get_or (set os i o) p nothing) ≡ None) same (ap held_by (get_or-set_same os p o nothing within) ∙ none))
    (λ other. ap held_by (get_or-set_other os q p o nothing other) ∙ old)
    (cases_eq p q)

changes_long : (os now : List PlainOutcome) → Changes os now → length now ≡ length os
changes_long os now (inl same) = ap (λ l. length l) same
changes_long os now (inr (q, o, none, is)) = ap (λ l. length l) is ∙ length-set os q o

changes_hold : (os now : List PlainOutcome) (p : ℕ) → Changes os now → p < length os → held_by (get_or os p nothing) ≡ None → held_by (get_or now p nothing) ≡ None
changes_hold os now p (inl same) within old = subst (λ (l : List PlainOutcome). held_by (get_or l p nothing) ≡ None) (sym same) old
changes_hold os now p (inr (q, o, none, is)) within old =
    subst (λ (l : List PlainOutcome). held_by (get_or l p nothing) ≡ None) (sym is) (set_holds os q p o none within old)

-- a book has as many marks as outcomes
many_folded : (es : List PlainEntry) (b : PlainBook) → length b.marks ≡ length b.outcomes → length (fold (λ c e. does e c) b es).marks ≡ length (fold (λ c e. does e c) b es).outcomes
many_folded [] b many = many
many_folded (e ∷ es) b many =
    let f = effect_of e.mark e.kind b in
    many_folded es (does e b)
    (omega (arith, length_push b.marks e.mark, length_push f.outcomes f.own, changes_long b.outcomes f.outcomes (effect_changes e.mark e.kind b)))

pub many_outcomes : (es : List PlainEntry) → length (book_of es).marks ≡ length (book_of es).outcomes
many_outcomes es = many_folded es empty_book refl

abbrev Gone : ℕ → PlainMark → PlainBook → Type 0
Gone p m b = (place_from 0 m b.marks ≡ Some p) × (held_by (get_or b.outcomes p nothing) ≡ None) × (length b.marks ≡ length b.outcomes)

gone_entered :
    (b : PlainBook) (x : PlainMark) (f : Effect) (p : ℕ) (m : PlainMark) → place_from 0 m b.marks ≡ Some p → length b.marks ≡ length b.outcomes
    → held_by (get_or f.outcomes p nothing) ≡ None → length f.outcomes ≡ length b.outcomes → Gone p m (entered b x f)
gone_entered b x f p m at many none same =
    let within = place_within m 0 p b.marks at in (
      place_more m x 0 p b.marks at,
      ap held_by (get_or_append_left f.outcomes (f.own ∷ []) nothing p (omega arith)) ∙ none,
      omega (arith, length_push b.marks x, length_push f.outcomes f.own),
    )

gone_does : (e : PlainEntry) (b : PlainBook) (p : ℕ) (m : PlainMark) → Gone p m b → Gone p m (does e b)
gone_does e b p m g =
    let within = place_within m 0 p b.marks g.0 in
    let changes = effect_changes e.mark e.kind b in
    let os = (effect_of e.mark e.kind b).outcomes in
    gone_entered b e.mark (effect_of e.mark e.kind b) p m g.0 g.2 (changes_hold b.outcomes os p changes (omega (arith, g.2)) g.1) (changes_long b.outcomes os changes)

gone_folded : (es : List PlainEntry) (b : PlainBook) (p : ℕ) (m : PlainMark) → Gone p m b → Gone p m (fold (λ c e. does e c) b es)
gone_folded [] b p m g = g
gone_folded (e ∷ es) b p m g = gone_folded es (does e b) p m (gone_does e b p m g)

same_self : (m : PlainMark) → same_mark m m ≡ true
same_self m = rw (eq-eqb m.stamp m.stamp refl, eq-eqb m.hut m.hut refl) refl

found_step : (m x : PlainMark) (i : ℕ) (ms : List PlainMark) (b : Bool) → same_mark m x ≡ b
    → ((k : ℕ) → k < length ms → m ≡ get_or ms k m → (p : ℕ) × (place_from (suc i) m ms ≡ Some p))
    → (k : ℕ) → k < length (x ∷ ms) → m ≡ get_or (x ∷ ms) k m → (p : ℕ) × (cond b (Some i) (place_from (suc i) m ms) ≡ Some p)
found_step m x i ms true same further k h is = (i, refl)
found_step m x i ms false same further zero h is = absurd (false≢true (sym same ∙ subst (λ (y : PlainMark). same_mark m y ≡ true) is (same_self m)))
found_step m x i ms false same further (suc k) h is = further k (omega arith) is

-- a mark that stands is found
stands_found : (m : PlainMark) (i k : ℕ) (ms : List PlainMark) → k < length ms → m ≡ get_or ms k m → (p : ℕ) × (place_from i m ms ≡ Some p)
stands_found m i k [] h is = absurd (omega arith)
stands_found m i k (x ∷ ms) h is = found_step m x i ms (same_mark m x) refl (λ k h is. stands_found m (suc i) k ms h is) k h is

-- after a cancellation the booking that it names holds nothing
cancelled_gone :
    (x m : PlainMark) (b : PlainBook) (p : ℕ) → place_from 0 m b.marks ≡ Some p → length b.marks ≡ length b.outcomes
    → Gone p m (entered b x (cancelling b (standing b.marks b.outcomes m)))
cancelled_gone x m b p at many =
    let within = place_within m 0 p b.marks at in
    subst (λ (s : Option Standing). Gone p m (entered b x (cancelling b s))) (sym (ap (standing_at b.outcomes) at)) (by (held_by (get_or b.outcomes p nothing)) refl (omega arith))
  where
    by : (h : Option PlainGrant) → held_by (get_or b.outcomes p nothing) ≡ h → p < length b.outcomes → Gone p m (entered b x (cancelling b (standing_with p h)))
    by None none low = gone_entered b x (cancelling b None) p m at many none refl
    by (Some g) held low =
        gone_entered b x (cancelling b (Some (record { place = p; grant = g }))) p m at many
        (ap held_by (get_or-set_same b.outcomes p (cancelled g) nothing low)) (length-set b.outcomes p (cancelled g))

-- and so it is whatever comes then
pub lasts_at :
    (front back : List PlainEntry) (c : PlainEntry) (m : PlainMark) (g : PlainGrant) (p : ℕ) → c.kind ≡ cancel m → place_from 0 m (book_of front).marks ≡ Some p
    → CameTo (book_of (front ++ c ∷ back)) m (holds g) → ⊥
lasts_at front back c m g p is at came =
    let first : Gone p m (does c (book_of front)) =
    subst (λ (k : PlainKind). Gone p m (entered (book_of front) c.mark (effect_of c.mark k (book_of front)))) (sym is)
    (cancelled_gone c.mark m (book_of front) p at (many_outcomes front)) in
    let last : Gone p m (book_of (front ++ c ∷ back)) =
    subst (Gone p m) (sym (fold-append (λ b e. does e b) empty_book front (c ∷ back))) (gone_folded back (does c (book_of front)) p m first) in
    none_some g (sym last.1 ∙ ap held_by (holding last.0))
  where
    some_one : (a b : ℕ) → Some a ≡ Some b → a ≡ b
    some_one a b e = cc

    holding : place_from 0 m (book_of (front ++ c ∷ back)).marks ≡ Some p → get_or (book_of (front ++ c ∷ back)).outcomes p nothing ≡ holds g
    holding at = subst (λ (q : ℕ). get_or (book_of (front ++ c ∷ back)).outcomes q nothing ≡ holds g) (some_one came.0 p (sym came.1 ∙ at)) came.2

    none_some : (g : PlainGrant) → None ≡ Some g → ⊥
    none_some g e = let z : ◌≡◌ {A = ℕ} 0 1 = cc in omega arith

pub cancel_lasts_lem : CancelLasts
cancel_lasts_lem front back c m g is stands came =
    let at = stands_found m 0 stands.0 (book_of front).marks stands.1 stands.2 in lasts_at front back c m g at.0 is at.1 came

-- the beds of a choice on a night are its share there
pub share_is : (c : PlainChoice) (hut night : ℕ) → StayOk c.stay → night < NIGHTS → share (place_of hut night) c ≡ beds_of c hut night
share_is c hut night ok in-year = rw (covers-inside c.stay hut night ok in-year) refl

abbrev Frees : PlainBook → PlainMark → PlainGrant → PlainBook → Type 0
Frees was m g now =
    (now.beds ≡ was.beds)
    × ((hut night : ℕ) → hut < HUTS → night < NIGHTS → booked_on now hut night + beds_of g.choice hut night ≡ booked_on was hut night)
    × CameTo now m (cancelled g)

pub cancel_frees_lem : CancelFrees
cancel_frees_lem es own m g ok came =
    subst (λ (s : Option Standing). Frees (book_of es) m g (entered (book_of es) own (cancelling (book_of es) s))) (sym (came_standing (book_of es) m (holds g) came)) (
      refl,
      λ hut night in-huts in-year. omega (
        arith,
        release-share (book_of es).booked g.choice sound.long_booked stay (place_of hut night),
        share_is g.choice hut night stay in-year,
        standing-share came.0 g (place_of hut night) sound came.2,
      ),
      (came.0, place_more m own 0 came.0 (book_of es).marks came.1, now),
    )
  where
    sound : Sound (book_of es).beds (book_of es).booked (book_of es).outcomes
    sound = (made_sound es ok).0

    stay : StayOk g.choice.stay
    stay = standing-stay came.0 g sound came.2

    low : came.0 < length (book_of es).outcomes
    low = let within = place_within m 0 came.0 (book_of es).marks came.1 in omega (arith, many_outcomes es)

    now : get_or (set (book_of es).outcomes came.0 (cancelled g) ++ freed (Some came.0) ∷ []) came.0 nothing ≡ cancelled g
    now =
        get_or_append_left (set (book_of es).outcomes came.0 (cancelled g)) (freed (Some came.0) ∷ []) nothing came.0 (omega (arith, low, length-set (book_of es).outcomes came.0 (cancelled g)))
        ∙ get_or-set_same (book_of es).outcomes came.0 (cancelled g) nothing low

-- What came of an entry changes only by a later one that names it.
use Rattle.std.proofs.Common.{◌≡◌, ℕ, ◌-◌, ◌<◌, ◌⊎◌, List, [], ◌∷◌, ◌++◌, length, get_or, set, Some, None, Option, sym, refl, ap, ◌∙◌, subst, inl, inr, append_assoc, append-nil, arith, length-append}
use mathlib.Core.List.{Memᴰ}
use Rattle.std.proofs.lemmas.Bool.{cases_eq}
use Rattle.std.proofs.lemmas.List.{get_or-map, get_or-set_same, get_or-set_other, get_or_append_left}
use Rattle.std.proofs.Math.Seq.{drop-append_seam}
use lib.ListN.{length-map}
use Rattle.bookings.proofs.Find.{place_is, standing-holds}
use Rattle.bookings.proofs.Gone.{many_outcomes}
use Rattle.bookings.proofs.Reach.{book-push}
use Rattle.bookings.specs.Books.{PlainBook, Standing, book_of, cancelling, changing, changing_to, effect_of, first_free, place_from, standing, standing_at, standing_with}
use Rattle.bookings.specs.Nights.{release}
use Rattle.bookings.specs.Outcomes.{PlainGrant, PlainOutcome, cancelled, changed, holds, nothing}
use Rattle.bookings.specs.Plain.{PlainEntry, PlainKind, PlainMark, book, cancel, change, supply}
use Rattle.entry_log.proofs.Known.{book-marks}
use Rattle.network.specs.Shown.{Ends, OutcomeStays, came_at}
use Rattle.network.proofs.Lists.{place_in_first}

-- where a booking that stands is found
standing_place :
    (os : List PlainOutcome) (o : Option ℕ) (s : Standing) → standing_at os o ≡ Some s → o
    ≡ Some s.place
standing_place os None s q = absurd (let z : ◌≡◌ {A = ℕ} 0 1 = cc in omega arith)
standing_place os (Some p) s q = with_held _ q
  where
    with_held : (h : Option PlainGrant) → standing_with p h ≡ Some s → Some p ≡ Some s.place
    with_held None e = absurd (let z : ◌≡◌ {A = ℕ} 0 1 = cc in omega arith)
    with_held (Some g) e =
        let same : record { place = p; grant = g } ≡ s =
        cc in ap (λ (x : Standing). Some x.place) same

-- of an outcome at a place: it stays, or it held a choice, and the entry ends it
abbrev Steps : PlainMark → PlainKind → PlainBook → ℕ → List PlainOutcome → Type 0
Steps m k b p now =
    (get_or now p nothing ≡ get_or b.outcomes p nothing)
    ⊎ ((n : PlainMark) × (g : PlainGrant) × (place_from 0 n b.marks ≡ Some p)
    × (get_or b.outcomes p nothing ≡ holds g)
    × Ends (record { mark = m; kind = k }) n g (get_or now p nothing))

module _ (m : PlainMark) (b : PlainBook) (p : ℕ) (low : p < length b.outcomes) where
  ends_one :
      (k : PlainKind) (n : PlainMark) (s : Standing) (o : PlainOutcome)
      → standing b.marks b.outcomes n ≡ Some s → Ends (record { mark = m; kind = k }) n s.grant o
      → Steps m k b p (set b.outcomes s.place o)
  ends_one k n s o is ends = elim (cases_eq p s.place) [
    | inl same ↦
        inr (
          n,
          s.grant,
          standing_place b.outcomes (place_from 0 n b.marks) s is ∙ ap Some (sym same),
          ap (λ (q : ℕ). get_or b.outcomes q nothing) same
              ∙ standing-holds b.outcomes (place_from 0 n b.marks) s is,
          subst (Ends (record { mark = m; kind = k }) n s.grant)
              (sym (get_or-set_same b.outcomes p o nothing low)
              ∙ ap (λ (q : ℕ). get_or (set b.outcomes q o) p nothing) same) ends,
        )
    | inr other ↦ inl (get_or-set_other b.outcomes s.place p o nothing other)
  ]

  effect_came : (k : PlainKind) → Steps m k b p (effect_of m k b).outcomes
  effect_came (book guest cs) = inl refl
  effect_came (cancel n) = by (standing b.marks b.outcomes n) refl
    where
      by :
          (o : Option Standing) → standing b.marks b.outcomes n ≡ o
          → Steps m (cancel n) b p (cancelling b o).outcomes
      by None q = inl refl
      by (Some s) q = ends_one (cancel n) n s (cancelled s.grant) q (inl (refl, refl))
  effect_came (change n cs) = by (standing b.marks b.outcomes n) refl
    where
      to :
          (s : Standing) (g : Option PlainGrant) → standing b.marks b.outcomes n ≡ Some s
          → Steps m (change n cs) b p (changing_to m b s g).outcomes
      to s None q = inl refl
      to s (Some g) q = ends_one (change n cs) n s (changed s.grant m) q (inr (cs, refl, refl))

      by :
          (o : Option Standing) → standing b.marks b.outcomes n ≡ o
          → Steps m (change n cs) b p (changing m cs b o).outcomes
      by None q = inl refl
      by (Some s) q =
          to s (first_free b.beds (release b.booked s.grant.choice) (Some s.place) 0 cs) q
  effect_came (supply c) = inl refl

-- one outcome for each entry
outcomes_long : (es : List PlainEntry) → length (book_of es).outcomes ≡ length es
outcomes_long es =
    sym (many_outcomes es) ∙ ap (λ (ms : List PlainMark). length ms) (book-marks es)
    ∙ length-map es (λ e. e.mark)

module _ (front : List PlainEntry) (e : PlainEntry) (p : ℕ) (low : p < length front) where
  abbrev now : List PlainOutcome
  now = (effect_of e.mark e.kind (book_of front)).outcomes

  -- with one entry more, what came of an earlier one is what that entry made of it
  came_push : came_at (front ++ e ∷ []) p ≡ get_or now p nothing
  came_push =
      let own = (effect_of e.mark e.kind (book_of front)).own in
      let as_done : (book_of (front ++ e ∷ [])).outcomes ≡ now ++ own ∷ [] =
      ap (λ (b : PlainBook). b.outcomes) (book-push front e) in
      let long = outcomes_long (front ++ e ∷ []) in
      ap (λ (os : List PlainOutcome). get_or os p nothing) as_done
      ∙ get_or_append_left now (own ∷ []) nothing p
      (omega (
        arith,
        low,
        long,
        ap (λ (os : List PlainOutcome). length os) as_done,
        length-append
            now (own ∷ []),
        length-append front (e ∷ []),
      ))

  marked :
      (n : PlainMark) (d : PlainEntry) → place_from 0 n (book_of front).marks ≡ Some p → n
      ≡ (get_or front p d).mark
  marked n d at =
      let q : p - 0 ≡ p = omega arith in
      (place_is n 0 p (book_of front).marks at).1
      ∙ ap (λ (i : ℕ). get_or (book_of front).marks i n) q
      ∙ ap (λ (ms : List PlainMark). get_or ms p n) (book-marks front)
      ∙ get_or-map (λ x. x.mark) front p d n low

  came_one :
      (d : PlainEntry)
      → (came_at (front ++ e ∷ []) p ≡ came_at front p)
      ⊎ ((g : PlainGrant) × (came_at front p ≡ holds g)
      × Ends e (get_or front p d).mark g (came_at (front ++ e ∷ []) p))
  came_one d =
      elim (effect_came e.mark (book_of front) p (omega (arith, low, outcomes_long front)) e.kind) [
        | inl same ↦ inl (came_push ∙ same)
        | inr (n, g, at, held, ends) ↦
            inr (
              g,
              held,
              subst (λ (x : PlainMark). Ends e x g (came_at (front ++ e ∷ []) p))
                  (marked n d at) (subst (Ends e n g) (sym came_push) ends),
            )
      ]

ends_holds : (c : PlainEntry) (m : PlainMark) (g h : PlainGrant) → Ends c m g (holds h) → ⊥
ends_holds c m g h (inl (is, q)) = let z : ◌≡◌ {A = ℕ} 0 1 = cc in omega arith
ends_holds c m g h (inr (cs, is, q)) = let z : ◌≡◌ {A = ℕ} 0 1 = cc in omega arith

-- what came of it in a longer list
abbrev Came : (front back : List PlainEntry) → ℕ → PlainEntry → Type 0
Came front back p d =
    (came_at (front ++ back) p ≡ came_at front p)
    ⊎ ((c : PlainEntry) × (g : PlainGrant) × Memᴰ c back × (came_at front p ≡ holds g)
    × Ends c (get_or front p d).mark g (came_at (front ++ back) p))

came_both :
    (front back : List PlainEntry) (e : PlainEntry) (p : ℕ) (d : PlainEntry) → p < length front
    → (came_at (front ++ e ∷ []) p ≡ came_at front p)
    ⊎ ((g : PlainGrant) × (came_at front p ≡ holds g)
    × Ends e (get_or front p d).mark g (came_at (front ++ e ∷ []) p))
    → Came (front ++ e ∷ []) back p d → Came front (e ∷ back) p d
came_both front back e p d low one more = both one more
  where
    is : came_at ((front ++ e ∷ []) ++ back) p ≡ came_at (front ++ e ∷ back) p
    is = ap (λ (l : List PlainEntry). came_at l p) (append_assoc front (e ∷ []) back)

    named : get_or (front ++ e ∷ []) p d ≡ get_or front p d
    named = place_in_first front (e ∷ []) p d low

    both :
        (came_at (front ++ e ∷ []) p ≡ came_at front p)
        ⊎ ((g : PlainGrant) × (came_at front p ≡ holds g)
        × Ends e (get_or front p d).mark g (came_at (front ++ e ∷ []) p))
        → Came (front ++ e ∷ []) back p d → Came front (e ∷ back) p d
    both (inl s) (inl t) = inl (sym is ∙ t ∙ s)
    both (inl s) (inr (c, g, m, held, ends)) =
        inr (
          c,
          g,
          Memᴰ.tail m,
          sym s
              ∙ held,
          subst (λ (x : PlainEntry). Ends c x.mark g (came_at (front ++ e ∷ back) p)) named
              (subst (Ends c (get_or (front ++ e ∷ []) p d).mark g) is ends),
        )
    both (inr (g, held, ends)) (inl t) =
        inr (e, g, Memᴰ.head refl, held, subst (Ends e (get_or front p d).mark g) (sym t ∙ is) ends)
    both (inr (g, held, ends)) (inr (c, h, m, again, end)) =
        absurd (ends_holds e (get_or front p d).mark g h
        (subst (Ends e (get_or front p d).mark g) again ends))

came_on :
    (front back : List PlainEntry) (p : ℕ) (d : PlainEntry) → p < length front → Came front back p d
came_on front [] p d low = inl (ap (λ (l : List PlainEntry). came_at l p) (append-nil front))
came_on front (e ∷ back) p d low =
    came_both front back e p d low (came_one front e p low d)
    (came_on (front ++ e ∷ []) back p d (omega (arith, low, length-append front (e ∷ []))))

pub outcome_stays : OutcomeStays
outcome_stays front back p low d = elim (came_on front back p d low) [
  | inl s ↦ inl s
  | inr (c, g, m, held, ends) ↦ inr (
    c,
    g,
    subst (λ (l : List PlainEntry). Memᴰ c l) (sym (drop-append_seam front back))
        m,
    held,
    ends,
  )
]

-- What holds of every book that entries in range make.
use Rattle.std.proofs.Common.{◌≡◌, ℕ, ◌+◌, ◌-◌, ◌≤◌, max, true, List, [], ◌∷◌, ◌++◌, length, get_or, set, Some, None, Option, sym, refl, ap, ◌∙◌, subst, ⊎_elim, arith, length-set}
use Rattle.std.proofs.lemmas.List.{length_push}
use Rattle.bookings.specs.Books.{PlainBook, Standing, Effect, booking, cancelling, changing, changing_to, effect_of, first_free, standing, does}
use Rattle.bookings.specs.Held.{share, held_at, held_on}
use Rattle.bookings.specs.Nights.{first, claim, release, resize, is_free}
use Rattle.bookings.specs.Outcomes.{PlainGrant, PlainOutcome, holds, nothing, cancelled, changed, freed, resized}
use Rattle.bookings.specs.Plain.{PlainMark, PlainChoice, PlainKind, book, cancel, change, supply, PlainEntry}
use Rattle.bookings.specs.Ranges.{StayOk, ChoiceOk, Each, InRange, KindOk}
use Rattle.bookings.proofs.Each.{each_push, each_set, each_at}
use Rattle.bookings.proofs.Fit.{first-is_free, first_each}
use Rattle.bookings.proofs.Find.{standing-holds}
use Rattle.bookings.proofs.Over.{length_over, over_cases, stay_fits}
use Rattle.bookings.proofs.Tally.{held_push, held_set, held_member, holds_within, claim-share, release-share, free-share}
use Rattle.bookings.specs.declared.limits.TheConstants.{MAX_HUT_BEDS, PLACES}

-- a choice that is held is of nights that there are
abbrev pub HeldOk : PlainOutcome → Type 0
HeldOk (holds g) = StayOk g.choice.stay
HeldOk nothing = Unit {0}
HeldOk (cancelled g) = Unit {0}
HeldOk (changed g m) = Unit {0}
HeldOk (freed p) = Unit {0}
HeldOk (resized s were) = Unit {0}

pub record Sound (beds booked : List ℕ) (os : List PlainOutcome) : Type 0 where
  pub long_beds : length beds ≡ PLACES
  pub long_booked : length booked ≡ PLACES
  pub within : (k : ℕ) → get_or booked k 0 ≤ get_or beds k 0
  pub few : (k : ℕ) → get_or beds k 0 ≤ MAX_HUT_BEDS
  pub tallies : (k : ℕ) → get_or booked k 0 ≡ held_on k os
  pub stays : Each HeldOk os

-- what is held at a place with a standing booking there
pub standing-stay : {beds booked : List ℕ} {os : List PlainOutcome} (p : ℕ) (g : PlainGrant) → Sound beds booked os → get_or os p nothing ≡ holds g → StayOk g.choice.stay
standing-stay {beds} {booked} {os} p g sound is = subst HeldOk is (each_at HeldOk os p nothing sound.stays tt)

pub standing-share : {beds booked : List ℕ} {os : List PlainOutcome} (p : ℕ) (g : PlainGrant) (k : ℕ) → Sound beds booked os → get_or os p nothing ≡ holds g → share k g.choice ≤ get_or booked k 0
standing-share {beds} {booked} {os} p g k sound is =
    let part : share k g.choice ≤ held_on k os = subst (λ o. held_at k o ≤ held_on k os) is (held_member k p os) in omega (arith, sound.tallies k)

-- an entry that does nothing
pub idle_sound : {beds booked : List ℕ} {os : List PlainOutcome} (o : PlainOutcome) → Sound beds booked os → ((k : ℕ) → held_at k o ≡ 0) → HeldOk o → Sound beds booked (os ++ o ∷ [])
idle_sound {beds} {booked} {os} o s none ok =
    record {
      long_beds = s.long_beds;
      long_booked = s.long_booked;
      within = s.within;
      few = s.few;
      tallies = λ k. omega (arith, s.tallies k, held_push k os o, none k);
      stays = each_push HeldOk os o s.stays ok;
    }

-- a booking that gets a free choice
pub claim_sound :
    {beds booked : List ℕ} {os : List PlainOutcome} (g : PlainGrant) → Sound beds booked os → is_free beds booked g.choice ≡ true → StayOk g.choice.stay
    → Sound beds (claim booked g.choice) (os ++ holds g ∷ [])
claim_sound {beds} {booked} {os} g s free ok =
    record {
      long_beds = s.long_beds;
      long_booked = length_over (λ _ n. n + g.choice.beds) booked (first g.choice.stay) g.choice.stay.nights ∙ s.long_booked;
      within = λ k. omega (arith, claim-share booked g.choice s.long_booked ok k, free-share beds booked g.choice k free (s.within k));
      few = s.few;
      tallies = λ k. omega (arith, claim-share booked g.choice s.long_booked ok k, s.tallies k, held_push k os (holds g));
      stays = each_push HeldOk os (holds g) s.stays ok;
    }

-- a booking that gives its beds back, and holds them no more
pub release_sound :
    {beds booked : List ℕ} {os : List PlainOutcome} (p : ℕ) (g : PlainGrant) (o : PlainOutcome) → Sound beds booked os → get_or os p nothing ≡ holds g
    → ((k : ℕ) → held_at k o ≡ 0) → HeldOk o → Sound beds (release booked g.choice) (set os p o)
release_sound {beds} {booked} {os} p g o s is none ok =
    let there = holds_within os p g is in
    let stay = standing-stay p g s is in
    let left = release-share booked g.choice s.long_booked stay in
    record {
      long_beds = s.long_beds;
      long_booked = length_over (λ _ n. n - g.choice.beds) booked (first g.choice.stay) g.choice.stay.nights ∙ s.long_booked;
      within = λ k. omega (arith, left k, s.within k);
      few = s.few;
      tallies = λ k.
          let gone : held_on k (set os p o) + share k g.choice ≡ held_on k os + held_at k o =
          subst (λ q. held_on k (set os p o) + held_at k q ≡ held_on k os + held_at k o) is (held_set k p os o there) in
          omega (arith, left k, s.tallies k, none k);
      stays = each_set HeldOk os p o s.stays ok;
    }

-- a change of beds
pub resize_sound :
    {beds booked : List ℕ} {os : List PlainOutcome} (c : PlainChoice) → Sound beds booked os → StayOk c.stay → c.beds ≤ MAX_HUT_BEDS
    → Sound (resize beds booked c) booked os
resize_sound {beds} {booked} {os} c s ok low =
    let at = λ (k : ℕ). over_cases (λ k _. max c.beds (get_or booked k 0)) beds (first c.stay) c.stay.nights k (omega (arith, stay_fits c.stay ok, s.long_beds)) in
    record {
      long_beds = length_over (λ k _. max c.beds (get_or booked k 0)) beds (first c.stay) c.stay.nights ∙ s.long_beds;
      long_booked = s.long_booked;
      within = λ k. ⊎_elim (λ h. omega (arith, h.1)) (λ h. omega (arith, h.1, s.within k)) (at k);
      few = λ k. ⊎_elim (λ h. omega (arith, h.1, s.within k, s.few k)) (λ h. omega (arith, h.1, s.few k)) (at k);
      tallies = s.tallies;
      stays = s.stays;
    }

-- a book whose entries have marks and outcomes one for one
abbrev pub SoundBook : PlainBook → Type 0
SoundBook b = Sound b.beds b.booked b.outcomes × (length b.marks ≡ length b.outcomes)

-- an effect whose tables are sound, and which leaves as many outcomes as there were
abbrev SoundEffect : PlainBook → Effect → Type 0
SoundEffect b e = Sound e.beds e.booked (e.outcomes ++ e.own ∷ []) × (length e.outcomes ≡ length b.outcomes)

module _ (b : PlainBook) (s : Sound b.beds b.booked b.outcomes) where
  booking_sound : (cs : List PlainChoice) (g : Option PlainGrant) → Each ChoiceOk cs → first_free b.beds b.booked None 0 cs ≡ g → SoundEffect b (booking b g)
  booking_sound cs None ok is = (idle_sound nothing s (λ k. refl) tt, refl)
  booking_sound cs (Some g) ok is =
      (claim_sound g s (first-is_free b.beds b.booked None 0 g cs is) (first_each ChoiceOk b.beds b.booked None 0 g cs ok is).0.0, refl)

  cancelling_sound : (n : PlainMark) (o : Option Standing) → standing b.marks b.outcomes n ≡ o → SoundEffect b (cancelling b o)
  cancelling_sound n None is = (idle_sound (freed None) s (λ k. refl) tt, refl)
  cancelling_sound n (Some f) is =
      let holding = standing-holds b.outcomes _ f is in (
        idle_sound (freed (Some f.place)) (release_sound f.place f.grant (cancelled f.grant) s holding (λ k. refl) tt) (λ k. refl) tt,
        length-set b.outcomes f.place (cancelled f.grant),
      )

  changing_to_sound :
      (m : PlainMark) (cs : List PlainChoice) (f : Standing) (g : Option PlainGrant) → Each ChoiceOk cs → get_or b.outcomes f.place nothing ≡ holds f.grant
      → first_free b.beds (release b.booked f.grant.choice) (Some f.place) 0 cs ≡ g → SoundEffect b (changing_to m b f g)
  changing_to_sound m cs f None ok holding is = (idle_sound nothing s (λ k. refl) tt, refl)
  changing_to_sound m cs f (Some g) ok holding is =
      let given = release b.booked f.grant.choice in (
        claim_sound g (release_sound f.place f.grant (changed f.grant m) s holding (λ k. refl) tt)
            (first-is_free b.beds given (Some f.place) 0 g cs is) (first_each ChoiceOk b.beds given (Some f.place) 0 g cs ok is).0.0,
        length-set b.outcomes f.place (changed f.grant m),
      )

  changing_sound : (m n : PlainMark) (cs : List PlainChoice) (o : Option Standing) → Each ChoiceOk cs → standing b.marks b.outcomes n ≡ o → SoundEffect b (changing m cs b o)
  changing_sound m n cs None ok is = (idle_sound nothing s (λ k. refl) tt, refl)
  changing_sound m n cs (Some f) ok is = changing_to_sound m cs f _ ok (standing-holds b.outcomes _ f is) refl

  effect_sound : (m : PlainMark) (k : PlainKind) → KindOk k → SoundEffect b (effect_of m k b)
  effect_sound m (book guest cs) ok = booking_sound cs _ ok.1 refl
  effect_sound m (cancel n) ok = cancelling_sound n _ refl
  effect_sound m (change n cs) ok = changing_sound m n cs _ ok.1.1 refl
  effect_sound m (supply c) ok = (idle_sound _ (resize_sound c s ok.0 ok.1) (λ k. refl) tt, refl)

-- an entry in range leaves a sound book
pub does_sound : (e : PlainEntry) (b : PlainBook) → InRange e → SoundBook b → SoundBook (does e b)
does_sound e b ok sound =
    let done = effect_sound b sound.0 e.mark e.kind ok.1 in
    (done.0, length_push b.marks e.mark ∙ ap (λ n. n + 1) (sound.1 ∙ sym done.1) ∙ sym (length_push (effect_of e.mark e.kind b).outcomes (effect_of e.mark e.kind b).own))

-- Every event, and every list of events, keeps what holds of a net.
use Rattle.std.proofs.Common.{◌≡◌, ℕ, ◌+◌, ◌<◌, ◌≤◌, ltb, List, [], ◌∷◌, length, get_or, refl, ap, arith, ltb→lt}
use mathlib.Core.List.Memᴰ
use Rattle.bookings.specs.Plain.{PlainEntry}
use Rattle.journal.specs.History.{state_in}
use Rattle.entry_log.proofs.Stamps.{vector_at, vector_none}
use Rattle.entry_log.specs.Vectors.{highest, no_stamps}
use Rattle.replica.specs.Model.{entry_made, leader}
use Rattle.network.specs.Net.{Commits, Crashes, Damaged, Event, Makes, MakesFor, Net, Syncs, Takes, TakesBut, Visits, Writes, among, huts, run, start, step}
use Rattle.network.specs.Promise.{makings}
use Rattle.network.proofs.Alone.{commit_step, crash_step, make-step, sync_step}
use Rattle.network.proofs.Growth.{valid_grows}
use Rattle.network.proofs.Guests.{makes_for-step, visit-step}
use Rattle.network.proofs.Holds.{Becomes, Holds, durables, histories, stays}
use Rattle.network.proofs.Leading.{start_led}
use Rattle.network.proofs.Lists.{none_in}
use Rattle.network.proofs.Parts.{older_self, older_trans}
use Rattle.network.proofs.Sending.{writes_step}
use Rattle.network.proofs.Taking.{take_nth-step, takes_some-step}
use Rattle.network.proofs.Tests.{cond_by}

pub among-step : {every : List PlainEntry} (i : ℕ) (m n : Net) → Holds every n → (i < huts → Becomes every n m) → Becomes every n (among i m n)
among-step {every} i m n I b = cond_by (Becomes every n) (ltb i huts) m n (λ t. b (ltb→lt i huts t)) (λ _. stays n I)

-- all that was ever made, when an event has come
abbrev pub listing : Event → Net → List PlainEntry → List PlainEntry
listing (Makes i kind) n every = entry_made kind (state_in (n.hut i)) ∷ every
listing (Commits i) n every = every
listing (Syncs i) n every = every
listing (Writes i count has) n every = every
listing (Takes j nth) n every = every
listing (TakesBut leaves j nth) n every = every
listing (Damaged j) n every = every
listing (Crashes i lost) n every = every
listing (Visits g i) n every = every
listing (MakesFor g i kind) n every = entry_made kind (state_in (n.hut i)) ∷ every

-- it may list more
pub more_listed : (e : PlainEntry) {every : List PlainEntry} (n : Net) → Holds every n → Holds (e ∷ every) n
more_listed e {every} n I =
    record {
      own = I.own;
      valid = λ h. valid_grows every (e ∷ every) (λ k m. Memᴰ.tail m) (durables n) (durables n) (λ x. older_self (durables n x)) h (histories n h) (I.valid h);
      all = I.all;
      led = I.led;
      said = I.said;
      guests = I.guests;
    }

-- every event
pub step_becomes : (e : Event) {every : List PlainEntry} (n : Net) → Holds every n → Becomes (listing e n every) n (step e n)
step_becomes (Makes i kind) n I = let J = more_listed (entry_made kind (state_in (n.hut i))) n I in among-step i _ n J (λ low. make-step n J i kind low (Memᴰ.head refl))
step_becomes (Commits i) n I = among-step i _ n I (λ low. commit_step n I i)
step_becomes (Syncs i) n I = among-step i _ n I (λ low. sync_step n I i)
step_becomes (Writes i count has) n I = among-step i _ n I (λ low. writes_step n I i count has)
step_becomes (Takes j nth) n I = among-step j _ n I (λ low. take_nth-step n I j nth)
step_becomes (TakesBut leaves j nth) n I = among-step j _ n I (λ low. takes_some-step leaves n I j nth)
step_becomes (Damaged j) n I = stays n I
step_becomes (Crashes i lost) n I = among-step i _ n I (λ low. crash_step n I i lost)
step_becomes (Visits g i) n I = among-step i _ n I (λ low. visit-step n I i g)
step_becomes (MakesFor g i kind) n I = let J = more_listed (entry_made kind (state_in (n.hut i))) n I in among-step i _ n J (λ low. makes_for-step n J i g kind low (Memᴰ.head refl))

listing-length : (e : Event) (es : List Event) (n : Net) (every : List PlainEntry) → length (listing e n every) + makings es ≡ length every + makings (e ∷ es)
unfolding makings
listing-length (Makes i kind) es n every = omega arith
listing-length (Commits i) es n every = refl
listing-length (Syncs i) es n every = refl
listing-length (Writes i count has) es n every = refl
listing-length (Takes j nth) es n every = refl
listing-length (TakesBut leaves j nth) es n every = refl
listing-length (Damaged j) es n every = refl
listing-length (Crashes i lost) es n every = refl
listing-length (Visits g i) es n every = refl
listing-length (MakesFor g i kind) es n every = omega arith

-- every list of events; what was ever made is no more than there were makings
pub run_becomes :
    (es : List Event) {every : List PlainEntry} (n : Net) → Holds every n
    → (later : List PlainEntry) × (length later ≤ length every + makings es) × Becomes later n (run es n)
unfolding run makings
run_becomes [] {every} n I = (every, omega arith, stays n I)
run_becomes (e ∷ es) {every} n I =
    let b = step_becomes e n I in
    let r = run_becomes es (step e n) b.holds in
    (r.0, omega (arith, r.1, listing-length e es n every), record { holds = r.2.holds; grows = λ h. older_trans (durables n h) (durables (step e n) h) (durables (run es (step e n)) h) (b.grows h) (r.2.grows h) })

pub start-holds : Holds [] start
unfolding no_stamps
start-holds =
    record {
      own = λ h. refl;
      valid = λ h. tt;
      all = [];
      led = start_led leader;
      said = λ l m. none_in m;
      guests = λ g. record { lasts = λ k m. none_in m; low = λ k m. none_in m; long = refl; noted = λ k m. none_in m; only = none-noted };
    }
  where
    none-noted : (h : ℕ) → h < huts → get_or no_stamps h 0 ≤ highest [] h
    none-noted h lt = omega (arith, ap (λ (v : List ℕ). get_or v h 0) vector_none, vector_at [] h lt)

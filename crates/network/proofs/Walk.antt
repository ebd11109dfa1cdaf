-- Walking from hut to hut: events that only write and take letters, sync and commit, one after another.
use Rattle.std.proofs.Common.{◌≡◌, ℕ, zero, suc, ◌+◌, ◌<◌, ◌≤◌, T, List, [], ◌∷◌, ◌++◌, sym, refl, subst, append_assoc, append-nil, arith}
use Rattle.bookings.specs.Plain.{PlainEntry}
use Rattle.journal.specs.History.{PlainRecord}
use Rattle.replica.specs.Model.{capacity}
use Rattle.network.specs.Net.{Commits, Crashes, Damaged, Event, Makes, MakesFor, Net, Syncs, Takes, TakesBut, Visits, Writes, after, huts, run, start, step}
use Rattle.network.specs.Promise.{all_hand_on, hands_on, makings}
use Rattle.network.specs.Replicas.{entries_of}
use Rattle.network.proofs.Marks.{◌∈◌}
use Rattle.network.proofs.Safety.{hist}
use Rattle.network.proofs.Tests.{Apart, and_has, and_makes, below, by_same}

-- a run is a run after a run, so what holds after every list of events holds at every state on the way
pub run-append : (es later : List Event) (n : Net) → run (es ++ later) n ≡ run later (run es n)
unfolding run
run-append [] later n = refl
run-append (e ∷ es) later n = run-append es later (step e n)

-- walking makes nothing
walk-append : (a b : List Event) → T (all_hand_on a) → T (all_hand_on b) → T (all_hand_on (a ++ b))
unfolding all_hand_on
walk-append [] b s t = t
walk-append (e ∷ a) b s t =
    let p = and_has (hands_on e) (all_hand_on a) s in
    and_makes (hands_on e) (all_hand_on (a ++ b)) p.0 (walk-append a b p.1 t)

pub makings-append : (a b : List Event) → makings (a ++ b) ≡ makings a + makings b
unfolding makings
makings-append [] b = omega arith
makings-append (Makes i kind ∷ a) b = omega (arith, makings-append a b)
makings-append (Commits i ∷ a) b = makings-append a b
makings-append (Syncs i ∷ a) b = makings-append a b
makings-append (Writes i count has ∷ a) b = makings-append a b
makings-append (Takes j nth ∷ a) b = makings-append a b
makings-append (TakesBut leaves j nth ∷ a) b = makings-append a b
makings-append (Damaged j ∷ a) b = makings-append a b
makings-append (Crashes i lost ∷ a) b = makings-append a b
makings-append (Visits g i ∷ a) b = makings-append a b
makings-append (MakesFor g i kind ∷ a) b = omega (arith, makings-append a b)

makings_none : (a : List Event) → T (all_hand_on a) → makings a ≡ 0
unfolding makings all_hand_on
makings_none [] t = refl
makings_none (Makes i kind ∷ a) t = absurd t
makings_none (Commits i ∷ a) t = makings_none a t
makings_none (Syncs i ∷ a) t = makings_none a t
makings_none (Writes i count has ∷ a) t = makings_none a t
makings_none (Takes j nth ∷ a) t = makings_none a t
makings_none (TakesBut leaves j nth ∷ a) t = absurd t
makings_none (Damaged j ∷ a) t = absurd t
makings_none (Crashes i lost ∷ a) t = absurd t
makings_none (Visits g i ∷ a) t = absurd t
makings_none (MakesFor g i kind ∷ a) t = absurd t

-- fewer entries were ever made than a log has room for
abbrev pub Roomy : List Event → Type 0
Roomy es = makings es < capacity

-- walking on from a state one comes to a state with P
pub record WalkTo (es : List Event) (P : List Event → Type 0) : Type 0 where
  pub later : List Event
  pub walk : T (all_hand_on later)
  pub there : P (es ++ later)

pub stay : {P : List Event → Type 0} {es : List Event} → P es → WalkTo es P
unfolding all_hand_on
stay {P} {es} h = record { later = []; walk = tt; there = subst P (sym (append-nil es)) h }

pub walk-map : {P Q : List Event → Type 0} {es : List Event} → WalkTo es P → ((on : List Event) → P on → Q on) → WalkTo es Q
walk-map {es = es} w f = record { later = w.later; walk = w.walk; there = f (es ++ w.later) w.there }

-- first to P, and from any such state to Q
pub then_on : {P Q : List Event → Type 0} {es : List Event} → Roomy es → WalkTo es P → ((on : List Event) → Roomy on → P on → WalkTo on Q) → WalkTo es Q
then_on {P} {Q} {es} few w f =
    let r : Roomy (es ++ w.later) = omega (arith, makings-append es w.later, makings_none w.later w.walk) in
    let g : WalkTo (es ++ w.later) Q = f (es ++ w.later) r w.there in
    record { later = w.later ++ g.later; walk = walk-append w.later g.later w.walk g.walk; there = subst Q (append_assoc es w.later g.later) g.there }

-- one hut after another: what is reached for a hut is kept while the next are seen to
pub each_hut :
    (I : List Event → Type 0) (Q : List Event → ℕ → Type 0)
    → ((es : List Event) → Roomy es → I es → (c : ℕ) → c < huts → WalkTo es (λ on. I on × Q on c × ((i : ℕ) → Apart i c → Q es i → Q on i))) → (c : ℕ) → c ≤ huts
    → (es : List Event) → Roomy es → I es → WalkTo es (λ on. I on × ((i : ℕ) → i < c → Q on i))
each_hut I Q one zero le es few inv = stay (inv, λ i lt. absurd (omega arith))
each_hut I Q one (suc c) le es few inv =
    then_on few (each_hut I Q one c (omega arith) es few inv)
    (λ on more h. walk-map (one on more h.0 c (omega arith))
    (λ end g. (g.0, λ i lt. by_same i c (λ p. subst (Q end) (sym p) g.1) (λ a. g.2 i a (h.1 i (below i c lt a))))))

-- the log of a history has an entry
abbrev pub InLog : PlainEntry → List PlainRecord → Type 0
InLog k rs = k ∈ entries_of rs

-- no hut but j has written anything
abbrev pub Only : ℕ → List Event → List Event → Type 0
Only j es on = (x : ℕ) → Apart x j → hist on x ≡ hist es x

-- the net after one event more, and after two
pub after_one : (es : List Event) (a : Event) → after (es ++ (a ∷ [])) ≡ step a (after es)
unfolding run
after_one es a = run-append es (a ∷ []) start

pub after_two : (es : List Event) (a b : Event) → after (es ++ (a ∷ b ∷ [])) ≡ step b (step a (after es))
unfolding run
after_two es a b = run-append es (a ∷ b ∷ []) start

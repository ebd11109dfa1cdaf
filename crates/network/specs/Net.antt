-- Sixteen replicas that hand letters on to each other, late, twice or never, and crash at any time. Hut 0 is the primary.
use Rattle.std.specs.Prelude.{ℕ, zero, suc, Bool, cond, List, [], ◌∷◌, ◌++◌, Some, None, Option, ◌==◌, nat_lt}
use Rattle.bookings.specs.Plain.{PlainKind, PlainEntry}
use Rattle.bookings.specs.declared.limits.TheConstants.{HUTS}
use Rattle.journal.specs.History.{Kept, empty, state_in, synced, crashed, makes, commits}
use Rattle.entry_log.specs.Vectors.{vector_of, no_stamps, joined_with}
use Rattle.replica.specs.Model.{entry_made, make_refusal, serves, slip_after}
use Rattle.network.specs.Items.{Letter, Leaves, words_for, items_taken, items_but}
use Rattle.network.specs.Replicas.{entries_in}

-- a guest: its slip, what it had made, newest first, and what it was shown
pub record Guest : Type 0 where
  pub slip : List ℕ
  pub gave : List PlainEntry
  pub seen : List PlainEntry

-- the replica of each hut, every letter ever written, oldest first, and the guests
pub record Net : Type 0 where
  pub hut : ℕ → Kept
  pub sent : List Letter
  pub guest : ℕ → Guest

abbrev pub start : Net
start = record { hut = empty; sent = []; guest = λ g. record { slip = no_stamps; gave = []; seen = [] } }

abbrev pub huts : ℕ
huts = HUTS

-- `Commits i`: any hut may try, and the primary does; `Writes i count has`: hut i syncs and writes a letter for one who says to have that,
-- true or not; `Takes j nth`: hut j takes a letter of those ever written, from 0; `TakesBut leaves j nth`: it leaves some of it; `Damaged j`: bytes that are no letter come to hut j;
-- `Crashes i lost`: hut i loses its newest records that are not synced, so many of them; `Visits g i`: guest g is shown the log of hut i,
-- if it is served there; `MakesFor g i kind`: it then has an entry made there.
pub data Event : Type 0 where
  Makes : (i : ℕ) → PlainKind → Event
  Commits : (i : ℕ) → Event
  Syncs : (i : ℕ) → Event
  Writes : (i count : ℕ) (has : List ℕ) → Event
  Takes : (j nth : ℕ) → Event
  TakesBut : Leaves → (j nth : ℕ) → Event
  Damaged : (j : ℕ) → Event
  Crashes : (i lost : ℕ) → Event
  Visits : (g i : ℕ) → Event
  MakesFor : (g i : ℕ) → PlainKind → Event

abbrev pub put {ℓ} : {A : Type ℓ} → ℕ → A → (ℕ → A) → ℕ → A
put i x f j = cond (j == i) x (f j)

abbrev pub with_hut : ℕ → Kept → Net → Net
with_hut i k n = record { hut = put i k n.hut; sent = n.sent; guest = n.guest }

abbrev pub send : Letter → Net → Net
send l n = record { hut = n.hut; sent = n.sent ++ l ∷ []; guest = n.guest }

abbrev pub with_guest : ℕ → Guest → Net → Net
with_guest g x n = record { hut = n.hut; sent = n.sent; guest = put g x n.guest }

-- the letter at a place, if there is one
unfoldable pub take_nth : ℕ → List Letter → Kept → Kept
take_nth nth [] k = k
take_nth zero (l ∷ ls) k = items_taken l k
take_nth (suc nth) (l ∷ ls) k = take_nth nth ls k

-- the same, with what the hut leaves
unfoldable pub take_nth_but : Leaves → ℕ → List Letter → Kept → Kept
take_nth_but leaves nth [] k = k
take_nth_but leaves zero (l ∷ ls) k = items_but leaves l k
take_nth_but leaves (suc nth) (l ∷ ls) k = take_nth_but leaves nth ls k

-- all that a guest may ask for again
abbrev pub held : Guest → List PlainEntry
held g = g.gave ++ g.seen

abbrev pub served : Guest → Kept → Bool
served g k = serves g.slip (state_in k)

abbrev pub shown : Guest → Kept → Guest
shown g k = record { slip = slip_after g.slip (state_in k); gave = g.gave; seen = g.seen ++ entries_in k }

abbrev pub gives : Guest → PlainEntry → Guest
gives g e = record { slip = joined_with g.slip (vector_of (e ∷ [])); gave = e ∷ g.gave; seen = g.seen }

-- the hut syncs before the guest is shown its log, or told that its entry is made
abbrev pub visit : ℕ → ℕ → Net → Net
visit g i n = cond (served (n.guest g) (n.hut i)) (with_guest g (shown (n.guest g) (n.hut i)) (with_hut i (synced (n.hut i)) n)) n

abbrev pub unless_refused : Option ℕ → Net → Net → Net
unless_refused None before after = after
unless_refused (Some number) before after = before

abbrev pub makes_for : ℕ → ℕ → PlainKind → Net → Net
makes_for g i kind n =
    cond (served (n.guest g) (n.hut i))
    (unless_refused (make_refusal kind (state_in (n.hut i))) n
    (with_guest g (gives (n.guest g) (entry_made kind (state_in (n.hut i)))) (with_hut i (synced (makes kind (n.hut i))) n)))
    n

abbrev pub among : ℕ → Net → Net → Net
among i m n = cond (nat_lt i huts) m n

abbrev pub step : Event → Net → Net
step (Makes i kind) n = among i (with_hut i (makes kind (n.hut i)) n) n
step (Commits i) n = among i (with_hut i (commits (n.hut i)) n) n
step (Syncs i) n = among i (with_hut i (synced (n.hut i)) n) n
step (Writes i count has) n = among i (send (words_for count has (n.hut i)) (with_hut i (synced (n.hut i)) n)) n
step (Takes j nth) n = among j (with_hut j (take_nth nth n.sent (n.hut j)) n) n
step (TakesBut leaves j nth) n = among j (with_hut j (take_nth_but leaves nth n.sent (n.hut j)) n) n
step (Damaged j) n = n
step (Crashes i lost) n = among i (with_hut i (crashed lost (n.hut i)) n) n
step (Visits g i) n = among i (visit g i n) n
step (MakesFor g i kind) n = among i (makes_for g i kind n) n

unfoldable pub run : List Event → Net → Net
run [] n = n
run (e ∷ es) n = run es (step e n)

abbrev pub after : List Event → Net
after es = run es start

-- Days: an entry whose maker's day is far above a hut's own is not taken there; and what holds whatever a hut leaves.
use Rattle.std.specs.Prelude.{◌≡◌, ℕ, ◌+◌, ◌<◌, ◌≤◌, true, cond, not, ◌&&◌, List, [], ◌∷◌, nat_lt, ◌==◌}
use mathlib.Core.List.{Memᴰ}
use Rattle.bookings.specs.Plain.{PlainEntry}
use Rattle.entry_log.specs.Logs.{all_of, has}
use Rattle.letters.specs.Items.{settled, waiting}
use Rattle.replica.specs.Model.{capacity}
use Rattle.network.specs.Items.{Leaves}
use Rattle.network.specs.Net.{Net, Event, Takes, TakesBut, after, huts, start, step}
use Rattle.network.specs.Promise.{hands_on, makings}
use Rattle.network.specs.Replicas.{committed_in, entries_in, tentative_in}

-- the day of an entry, which is its maker's own
abbrev pub DayOf : Type 0
DayOf = PlainEntry → ℕ

-- more than 30 above; what is known already is not taken anew
abbrev pub too_far : DayOf → ℕ → Leaves
too_far day_of today (settled place e) s = not (has e.mark (all_of s.log)) && nat_lt (today + 30) (day_of e)
too_far day_of today (waiting w) s = nat_lt (today + 30) (day_of w.entry)

-- a net, and each hut's own day
pub record Timed : Type 0 where
  pub net : Net
  pub today : ℕ → ℕ

-- `Dawns i day`: hut i's clock says a day, any day; `Does e`: as before, where a hut takes no entry that is too far
pub data Happens : Type 0 where
  Dawns : (i day : ℕ) → Happens
  Does : Event → Happens

abbrev pub timed_does : DayOf → Event → Timed → Net
timed_does day_of (Takes j nth) t = step (TakesBut (too_far day_of (t.today j)) j nth) t.net
timed_does day_of e t = step e t.net

abbrev pub timed_step : DayOf → Happens → Timed → Timed
timed_step day_of (Dawns i day) t = record { net = t.net; today = λ j. cond (j == i) day (t.today j) }
timed_step day_of (Does e) t = record { net = timed_does day_of e t; today = t.today }

unfoldable pub timed_run : DayOf → List Happens → Timed → Timed
timed_run day_of [] t = t
timed_run day_of (e ∷ es) t = timed_run day_of es (timed_step day_of e t)

abbrev pub timed_after : DayOf → List Happens → Timed
timed_after day_of es = timed_run day_of es (record { net = start; today = λ i. 0 })

-- handing on, committing, and days that go on, alone
abbrev pub goes_on : Timed → Happens → Type 0
goes_on t (Dawns i day) = t.today i ≤ day
goes_on t (Does e) = hands_on e ≡ true

abbrev pub AllGoOn : DayOf → Timed → List Happens → Type 0
AllGoOn day_of t [] = Unit {0}
AllGoOn day_of t (e ∷ es) = goes_on t e × AllGoOn day_of (timed_step day_of e t) es

unfoldable pub timed_makings : List Happens → ℕ
timed_makings [] = 0
timed_makings (Dawns i day ∷ es) = timed_makings es
timed_makings (Does e ∷ es) = makings (e ∷ []) + timed_makings es

-- LAW: from every state handing on, committing and days that go on can alone bring all replicas to one log, all of it committed, with every entry that
-- any has; no day has to go beyond the highest of these entries' days.
abbrev pub TimedAgree : DayOf → List Happens → Type 0
TimedAgree day_of es =
    timed_makings es < capacity
    → (later : List Happens) × AllGoOn day_of (timed_after day_of es) later
    × ((i : ℕ) → i < huts
    → (tentative_in ((timed_run day_of later (timed_after day_of es)).net.hut i) ≡ [])
    × (committed_in ((timed_run day_of later (timed_after day_of es)).net.hut i) ≡ committed_in ((timed_run day_of later (timed_after day_of es)).net.hut 0)))
    × ((i : ℕ) (e : PlainEntry) → Memᴰ e (entries_in ((timed_after day_of es).net.hut i)) → Memᴰ e (committed_in ((timed_run day_of later (timed_after day_of es)).net.hut 0)))

-- LAW: taking an entry changes no hut's day: only a clock does.
abbrev pub DaysStay : DayOf → List Happens → Type 0
DaysStay day_of es = (e : Event) (i : ℕ) → (timed_step day_of (Does e) (timed_after day_of es)).today i ≡ (timed_after day_of es).today i

-- LAW: whatever the clocks say, a run with days is a run of the network in which huts leave some of what letters bring: so all its laws hold.
abbrev pub TimedIsRun : DayOf → List Happens → Type 0
TimedIsRun day_of es = (bs : List Event) × (makings bs ≡ timed_makings es) × ((timed_after day_of es).net ≡ after bs)

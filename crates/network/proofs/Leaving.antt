-- Days: a run with days is a run of the network in which huts leave some of what letters bring; and once each hut's day is near enough, none is left.
use Rattle.std.proofs.Common.{◌≡◌, ℕ, zero, suc, ◌+◌, ◌<◌, ◌≤◌, max, Bool, true, false, cond, not, ◌&&◌, T, ltb, List, [], ◌∷◌, ◌++◌, map, sym, refl, ap, ◌∙◌, subst, inl, inr, arith, ltb→lt}
use mathlib.Core.List.Memᴰ
use mathlib.Core.List.{Memᴰ}
use Rattle.std.proofs.lemmas.Bool.{cases_eq, eq-eqb, ne_eqb}
use Rattle.bookings.specs.Plain.{PlainEntry}
use Rattle.entry_log.specs.Logs.{all_of, has}
use Rattle.journal.specs.History.{Kept, state_in}
use Rattle.letters.specs.Items.{PlainItem, settled, waiting}
use Rattle.replica.specs.Model.{State}
use Rattle.network.specs.Days.{AllGoOn, DayOf, Dawns, Does, DaysStay, Happens, Timed, TimedAgree, TimedIsRun, timed_after, timed_does, timed_makings, timed_run, timed_step, too_far}
use Rattle.network.specs.Items.{Leaves, Letter, items_but, items_taken, takes}
use Rattle.network.specs.Lasting.{Lasting, known_now}
use Rattle.network.specs.Net.{Commits, Crashes, Damaged, Event, Makes, MakesFor, Net, Syncs, Takes, TakesBut, Visits, Writes, after, huts, run, start, step, take_nth, take_nth_but, with_hut}
use Rattle.network.specs.Promise.{all_hand_on, makings}
use Rattle.network.specs.Replicas.{committed_in, committed_of, entries_in, tentative_in, tentative_of}
use Rattle.network.proofs.Leading.{place_more}
use Rattle.network.proofs.Agree.{can_agree}
use Rattle.network.proofs.Holds.{Holds, Said, durables, histories, huts_of}
use Rattle.network.proofs.Growth.{made_grows}
use Rattle.network.proofs.Knowing.{maker_knows}
use Rattle.network.proofs.Letters.{in_item}
use Rattle.network.proofs.Lists.{stands}
use Rattle.network.proofs.Marks.{◌∈◌}
use Rattle.network.proofs.Parts.{committed_older}
use Rattle.network.proofs.Room.{known_own}
use Rattle.network.proofs.Safety.{after_holds, entries_made}
use Rattle.network.proofs.Steps.{step_becomes}
use Rattle.network.proofs.Tests.{by_test, cond_no, cond_yes, true_T}
use Rattle.network.proofs.Walk.{makings-append}

pub days_stay : (day_of : DayOf) (es : List Happens) → DaysStay day_of es
days_stay day_of es e i = refl

-- THE RUN WITHOUT DAYS

-- what an event with days comes to
does_as : DayOf → Timed → Event → Event
does_as day_of t (Makes i kind) = Makes i kind
does_as day_of t (Commits i) = Commits i
does_as day_of t (Syncs i) = Syncs i
does_as day_of t (Writes i count has) = Writes i count has
does_as day_of t (Takes j nth) = TakesBut (too_far day_of (t.today j)) j nth
does_as day_of t (TakesBut leaves j nth) = TakesBut leaves j nth
does_as day_of t (Damaged j) = Damaged j
does_as day_of t (Crashes i lost) = Crashes i lost
does_as day_of t (Visits g i) = Visits g i
does_as day_of t (MakesFor g i kind) = MakesFor g i kind

does_is : (day_of : DayOf) (t : Timed) (e : Event) → (timed_does day_of e t ≡ step (does_as day_of t e) t.net) × (makings (does_as day_of t e ∷ []) ≡ makings (e ∷ []))
unfolding does_as makings
does_is day_of t (Makes i kind) = (refl, refl)
does_is day_of t (Commits i) = (refl, refl)
does_is day_of t (Syncs i) = (refl, refl)
does_is day_of t (Writes i count has) = (refl, refl)
does_is day_of t (Takes j nth) = (refl, refl)
does_is day_of t (TakesBut leaves j nth) = (refl, refl)
does_is day_of t (Damaged j) = (refl, refl)
does_is day_of t (Crashes i lost) = (refl, refl)
does_is day_of t (Visits g i) = (refl, refl)
does_is day_of t (MakesFor g i kind) = (refl, refl)

one_more : (e : Event) (bs : List Event) → makings (e ∷ bs) ≡ makings (e ∷ []) + makings bs
one_more e bs = makings-append (e ∷ []) bs

run_is : (day_of : DayOf) (es : List Happens) (t : Timed) → (bs : List Event) × (makings bs ≡ timed_makings es) × ((timed_run day_of es t).net ≡ run bs t.net)
unfolding run makings timed_run timed_makings
run_is day_of [] t = ([], refl, refl)
run_is day_of (Dawns i day ∷ es) t = run_is day_of es (timed_step day_of (Dawns i day) t)
run_is day_of (Does e ∷ es) t =
    let d = does_is day_of t e in
    let r = run_is day_of es (timed_step day_of (Does e) t) in
    (does_as day_of t e ∷ r.0, omega (arith, one_more (does_as day_of t e) r.0, d.1, r.1), r.2 ∙ ap (run r.0) d.0)

pub timed_is_run : (day_of : DayOf) (es : List Happens) → TimedIsRun day_of es
timed_is_run day_of es = run_is day_of es (record { net = start; today = λ i. 0 })

-- ONCE EACH DAY IS NEAR ENOUGH

-- the highest day of a list of entries
top_of : DayOf → List PlainEntry → ℕ
top_of day_of [] = 0
top_of day_of (e ∷ es) = max (day_of e) (top_of day_of es)

abbrev UpTo : DayOf → ℕ → List PlainEntry → Type 0
UpTo day_of top every = (k : PlainEntry) → k ∈ every → day_of k ≤ top

up_to : (day_of : DayOf) (es : List PlainEntry) → UpTo day_of (top_of day_of es) es
unfolding top_of
up_to day_of [] k m = elim m [ ]
up_to day_of (e ∷ es) k m = elim (Memᴰ.cases_cons m) [ inl q ↦ let p = ap day_of q in omega (arith, p) | inr q ↦ let r = up_to day_of es k q in omega (arith, r) ]

-- the entry of a true item was made
said_listed : {every : List PlainEntry} (n : Net) → Holds every n → (w : PlainItem) → Said (durables n) w → in_item w ∈ every
said_listed n I (settled p e) s =
    let a = place_more (committed_of (durables n s.0)) (committed_of (histories n s.0)) p e (committed_older (durables n s.0) (histories n s.0) ((huts_of n I).part s.0)) s.1 in
    (known_own n I s.0 e (Memᴰ.append_left (tentative_of (histories n s.0)) (subst (λ (l : List PlainEntry). e ∈ l) (sym a.2) (stands e a.0 a.1)))).1
said_listed n I (waiting w) s =
    (known_own n I w.entry.mark.hut w.entry (maker_knows (huts_of n I) w.entry s.0 (made_grows (durables n) (histories n) (huts_of n I).part w.entry s.0 s.1))).1

false_by : (b : Bool) → (T b → ⊥) → b ≡ false
false_by true f = absurd (f tt)
false_by false f = refl

and_false : (a b : Bool) → b ≡ false → (a && b) ≡ false
and_false true b q = q
and_false false b q = refl

near_item : (day_of : DayOf) (today top : ℕ) → top ≤ today + 30 → (w : PlainItem) (s : State) → day_of (in_item w) ≤ top → too_far day_of today w s ≡ false
near_item day_of today top near (settled p e) s le =
    and_false (not (has e.mark (all_of s.log))) (ltb (today + 30) (day_of e)) (false_by (ltb (today + 30) (day_of e)) (λ t. let l = ltb→lt (today + 30) (day_of e) t in omega (arith, l, le, near)))
near_item day_of today top near (waiting w) s le =
    false_by (ltb (today + 30) (day_of w.entry)) (λ t. let l = ltb→lt (today + 30) (day_of w.entry) t in omega (arith, l, le, near))

-- where nothing is left, all is taken
taken_all : (leaves : Leaves) (l : Letter) (k : Kept) → ((w : PlainItem) → Memᴰ w l → (s : State) → leaves w s ≡ false) → items_but leaves l k ≡ items_taken l k
unfolding items_but items_taken
taken_all leaves [] k none = refl
taken_all leaves (w ∷ ws) k none =
    ap (λ (b : Bool). items_but leaves ws (cond b k (takes w k))) (none w (Memᴰ.head refl) (state_in k)) ∙ taken_all leaves ws (takes w k) (λ x m. none x (Memᴰ.tail m))

taken_nth :
    (leaves : Leaves) (nth : ℕ) (ls : List Letter) (k : Kept) → ((l : Letter) → Memᴰ l ls → (w : PlainItem) → Memᴰ w l → (s : State) → leaves w s ≡ false)
    → take_nth_but leaves nth ls k ≡ take_nth nth ls k
unfolding take_nth_but take_nth
taken_nth leaves nth [] k none = refl
taken_nth leaves zero (l ∷ ls) k none = taken_all leaves l k (none l (Memᴰ.head refl))
taken_nth leaves (suc nth) (l ∷ ls) k none = taken_nth leaves nth ls k (λ x m. none x (Memᴰ.tail m))

module _ (day_of : DayOf) (top : ℕ) (every : List PlainEntry) (high : UpTo day_of top every) where
  -- no hut finds an entry too far
  abbrev Near : Timed → Type 0
  Near t = (i : ℕ) → i < huts → top ≤ t.today i + 30

  takes_same : (t : Timed) → Holds every t.net → Near t → (j nth : ℕ) → step (TakesBut (too_far day_of (t.today j)) j nth) t.net ≡ step (Takes j nth) t.net
  takes_same t I near j nth =
      let n = t.net in
      let a = with_hut j (take_nth_but (too_far day_of (t.today j)) nth n.sent (n.hut j)) n in
      let b = with_hut j (take_nth nth n.sent (n.hut j)) n in
      by_test (ltb j huts)
      (λ u. cond_yes (ltb j huts) a n u
      ∙ ap (λ (k : Kept). with_hut j k n) (taken_nth (too_far day_of (t.today j)) nth n.sent (n.hut j)
      (λ l m w o s. near_item day_of (t.today j) top (near j (ltb→lt j huts u)) w s (high (in_item w) (said_listed n I w (I.said l m w o)))))
      ∙ sym (cond_yes (ltb j huts) b n u))
      (λ u. cond_no (ltb j huts) a n u ∙ sym (cond_no (ltb j huts) b n u))

  abbrev Same : List Event → Timed → Type 0
  Same later t = ((timed_run day_of (map Does later) t).net ≡ run later t.net) × AllGoOn day_of t (map Does later)

  -- a run of handing on and committing is then what it is without days
  same_run : (later : List Event) → T (all_hand_on later) → (t : Timed) → Holds every t.net → Near t → Same later t
  unfolding run timed_run all_hand_on
  same_run [] w t I near = (refl, tt)
  same_run (Commits i ∷ later) w t I near =
      let r = same_run later w (timed_step day_of (Does (Commits i)) t) (step_becomes (Commits i) t.net I).holds near in (r.0, (refl, r.1))
  same_run (Syncs i ∷ later) w t I near =
      let r = same_run later w (timed_step day_of (Does (Syncs i)) t) (step_becomes (Syncs i) t.net I).holds near in (r.0, (refl, r.1))
  same_run (Writes i count has ∷ later) w t I near =
      let r = same_run later w (timed_step day_of (Does (Writes i count has)) t) (step_becomes (Writes i count has) t.net I).holds near in (r.0, (refl, r.1))
  same_run (Takes j nth ∷ later) w t I near =
      let but = TakesBut (too_far day_of (t.today j)) j nth in
      let r = same_run later w (timed_step day_of (Does (Takes j nth)) t) (step_becomes but t.net I).holds near in
      (r.0 ∙ ap (run later) (takes_same t I near j nth), (refl, r.1))
  same_run (Makes i kind ∷ later) w t I near = absurd w
  same_run (TakesBut leaves j nth ∷ later) w t I near = absurd w
  same_run (Damaged j ∷ later) w t I near = absurd w
  same_run (Crashes i lost ∷ later) w t I near = absurd w
  same_run (Visits g i ∷ later) w t I near = absurd w
  same_run (MakesFor g i kind ∷ later) w t I near = absurd w

-- days that go on, until each is so high
abbrev Raised : DayOf → ℕ → ℕ → Timed → List Happens → Type 0
Raised day_of top c t later =
    AllGoOn day_of t later × ((timed_run day_of later t).net ≡ t.net) × ((i : ℕ) → i < c → top ≤ (timed_run day_of later t).today i)
    × ((i : ℕ) → t.today i ≤ (timed_run day_of later t).today i)

raise : (day_of : DayOf) (top c : ℕ) (t : Timed) → (later : List Happens) × Raised day_of top c t later
unfolding timed_run
raise day_of top zero t = ([], (tt, refl, λ i lt. absurd (omega arith), λ i. omega arith))
raise day_of top (suc c) t =
    let d = max (t.today c) top in
    let u = timed_step day_of (Dawns c d) t in
    let r = raise day_of top c u in
    let here : u.today c ≡ d = rw (eq-eqb c c refl) refl in
    let up : (i : ℕ) → t.today i ≤ u.today i =
    λ i. elim (cases_eq i c) [
      | inl q ↦ subst (λ (x : ℕ). t.today x ≤ u.today x) (sym q) (omega (arith, here))
      | inr q ↦ rw (ne_eqb i c q) (omega arith)
    ] in (
      Dawns c d ∷ r.0,
      (
        (omega arith, r.1.0),
        r.1.1,
        λ i lt. elim (cases_eq i c) [
          | inl q ↦ subst (λ (x : ℕ). top ≤ (timed_run day_of r.0 u).today x) (sym q) (let m = r.1.3 c in omega (arith, here, m))
          | inr q ↦ r.1.2 i (omega arith)
        ],
        λ i. let m = r.1.3 i in let l = up i in omega (arith, l, m),
      ),
    )

run_append : (day_of : DayOf) (a b : List Happens) (t : Timed) → timed_run day_of (a ++ b) t ≡ timed_run day_of b (timed_run day_of a t)
unfolding timed_run
run_append day_of [] b t = refl
run_append day_of (e ∷ a) b t = run_append day_of a b (timed_step day_of e t)

go_append : (day_of : DayOf) (a b : List Happens) (t : Timed) → AllGoOn day_of t a → AllGoOn day_of (timed_run day_of a t) b → AllGoOn day_of t (a ++ b)
unfolding timed_run
go_append day_of [] b t p q = q
go_append day_of (e ∷ a) b t p q = (p.0, go_append day_of a b (timed_step day_of e t) p.1 q)

pub timed_agree : (day_of : DayOf) (es : List Happens) → TimedAgree day_of es
timed_agree day_of es few = (
  r.0 ++ map Does g.0,
  go_append day_of r.0 (map Does g.0) t r.1.0 s.1,
  subst (λ (n : Net). (i : ℕ) → i < huts → (tentative_in (n.hut i) ≡ []) × (committed_in (n.hut i) ≡ committed_in (n.hut 0))) (sym end) g.2,
  λ i e d. subst (λ (n : Net). e ∈ committed_in (n.hut 0)) (sym end) (g.3 e (known_now (i, subst (λ (n : Net). e ∈ entries_in (n.hut i)) z.2 d))),
)
  where
    t : Timed
    t = timed_after day_of es

    z : TimedIsRun day_of es
    z = timed_is_run day_of es

    top : ℕ
    top = top_of day_of (entries_made z.0)

    r : (later : List Happens) × Raised day_of (top_of day_of (entries_made (timed_is_run day_of es).0)) huts (timed_after day_of es) later
    r = raise day_of top huts t

    g :
        (later : List Event) × (all_hand_on later ≡ true)
        × ((i : ℕ) → i < huts → (tentative_in ((run later (after z.0)).hut i) ≡ []) × (committed_in ((run later (after z.0)).hut i) ≡ committed_in ((run later (after z.0)).hut 0)))
        × ((e : PlainEntry) → Lasting z.0 e → Memᴰ e (committed_in ((run later (after z.0)).hut 0)))
    g = can_agree z.0 (omega (arith, few, z.1))

    s : Same day_of top (entries_made z.0) (up_to day_of (entries_made z.0)) g.0 (timed_run day_of r.0 t)
    s =
        same_run day_of top (entries_made z.0) (up_to day_of (entries_made z.0)) g.0 (true_T (all_hand_on g.0) g.1) (timed_run day_of r.0 t)
        (subst (Holds (entries_made z.0)) (sym (r.1.1 ∙ z.2)) (after_holds z.0)) (λ i lt. let m = r.1.2 i lt in omega (arith, m))

    end : (timed_run day_of (r.0 ++ map Does g.0) t).net ≡ run g.0 (after z.0)
    end = ap (λ (x : Timed). x.net) (run_append day_of r.0 (map Does g.0) t) ∙ s.0 ∙ ap (run g.0) (r.1.1 ∙ z.2)

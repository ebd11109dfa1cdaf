-- The session guarantees, of guests and of slips.
use Rattle.std.proofs.Common.{◌≡◌, ℕ, true, ltb, List, ◌∷◌, Option, sym, refl, ap, ◌∙◌, subst, lt→ltb}
use mathlib.Core.List.Memᴰ
use mathlib.Core.List.{Memᴰ}
use Rattle.std.proofs.lemmas.Bool.{eq-eqb}
use Rattle.bookings.specs.Plain.{PlainEntry, PlainKind}
use Rattle.journal.specs.History.{PlainRecord, Tentative, history_of, makes, state_in, synced, unless, wrote}
use Rattle.replica.specs.Model.{entry_made, make_refusal}
use Rattle.network.specs.Net.{Event, Makes, MakesFor, Net, Syncs, after, gives, held, huts, makes_for, run, served, step, unless_refused, with_guest, with_hut}
use Rattle.network.specs.Promise.{Always}
use Rattle.network.specs.Replicas.{entries_of}
use Rattle.network.specs.Sessions.{Knows, MayMake, MonotonicReads, MonotonicWrites, ReadYourWrites, Serves, StandsBehind, WritesFollowReads, made_at, making, showing}
use Rattle.network.specs.Slips.{Covered}
use Rattle.network.proofs.Holds.{Holds, durables, histories, huts_of}
use Rattle.network.proofs.Knowing.{behind, known_covered, known_then}
use Rattle.network.proofs.Logs.{log_new}
use Rattle.network.proofs.Marks.{◌∈◌}
use Rattle.network.proofs.Parts.{Older, older_self, older_trans}
use Rattle.network.proofs.Safety.{after_holds, entries_made, guests_keep, lasts}
use Rattle.network.proofs.Slipping.{made_there, sync_durable}
use Rattle.network.proofs.Steps.{run_becomes, step_becomes}
use Rattle.network.proofs.Tests.{cond_yes, true_T}
use Rattle.network.proofs.Valid.{Made}

-- what a hut had when it synced is known wherever a slip that covers it is served
covered_found :
    {every :
    List PlainEntry} (m : Net) → Holds every m → (i : ℕ) (rs : List PlainRecord)
    → Older rs (durables m i) → (k : PlainEntry) → k ∈ entries_of rs
    → (later : List Event) (j : ℕ) (slip : List ℕ) → Covered slip k → Serves (run later m) j slip
    → Knows (run later m) j k
covered_found m I i rs o k d later j slip covered t =
    let r = (run_becomes later m I).2 in
    let H = huts_of (run later m) r.holds in
    let w = known_then H i rs (lasts m I later i rs o) k d in
    known_covered H j slip t k w.0 w.1 covered

-- what a hut knew when it made an entry stands before that entry
behind_made :
    {every :
    List PlainEntry} (m : Net) → Holds every m
    → (i : ℕ) (e : PlainEntry) (rs : List PlainRecord) → e.mark.hut ≡ i
    → Older (Tentative e ∷ rs) (durables m i)
    → (k : PlainEntry) → k ∈ entries_of rs → (last : List Event) → StandsBehind (run last m) e k
behind_made m I i e rs own o k d last j front back q =
    let r = (run_becomes last m I).2 in
    let H = huts_of (run last m) r.holds in
    let made : Made H.hist e rs =
    subst (λ (x : ℕ). Older (Tentative e ∷ rs) (H.hist x)) (sym own)
    (lasts m I last i (Tentative e ∷ rs) o) in
    behind H j e front back rs q made k d

-- a hut makes an entry and syncs: what holds of a net still does
making_holds :
    {every :
    List PlainEntry} (n : Net) → Holds every n → (i : ℕ) (kind : PlainKind)
    → Holds (made_at n i kind ∷ every) (making i kind n)
making_holds n I i kind =
    (step_becomes (Syncs i) (step (Makes i kind) n) (step_becomes (Makes i kind) n I).holds).holds

-- an entry that was made and synced is durable, just behind what its hut knew
making_durable :
    (n : Net) (i : ℕ) (kind : PlainKind) → MayMake n i kind
    → Older (Tentative (made_at n i kind) ∷ histories n i) (durables (making i kind n) i)
making_durable n i kind may =
    let one = step (Makes i kind) n in
    older_trans (Tentative (made_at n i kind) ∷ histories n i) (histories one i)
    (durables (making i kind n) i) (made_there n i kind may.0 may.1) (sync_durable one i may.0)

-- and so is one that was made for a guest
made_for_durable :
    (n : Net) (g i : ℕ) (kind : PlainKind) → MayMake n i kind → served (n.guest g) (n.hut i) ≡ true
    → Older (Tentative (made_at n i kind) ∷ histories n i) (durables (step (MakesFor g i kind) n) i)
made_for_durable n g i kind may t =
    let then = with_guest g (gives (n.guest g) e) (with_hut i (synced (makes kind (n.hut i))) n) in
    subst (λ (m : Net). Older (Tentative e ∷ histories n i) (durables m i))
    (sym (cond_yes (ltb i huts) (makes_for g i kind n) n (lt→ltb i huts may.0)
    ∙ cond_yes (served (n.guest g) (n.hut i))
    (unless_refused (make_refusal kind (state_in (n.hut i))) n then) n
    (true_T (served (n.guest g) (n.hut i)) t)
    ∙ ap (λ (o : Option ℕ). unless_refused o n then) may.1))
    (rw (eq-eqb i i refl, durables)
    (subst (λ (o : Option ℕ). Older (Tentative e ∷ histories n i)
    (history_of (unless o (n.hut i) (wrote (Tentative e) (n.hut i))))) (sym may.1)
    (older_self (Tentative e ∷ histories n i))))
  where
    e : PlainEntry
    e = entry_made kind (state_in (n.hut i))

-- what is made for a guest stands behind all that the guest holds
behind_held :
    (es : List Event) (g i : ℕ) (kind : PlainKind) → MayMake (after es) i kind
    → served ((after es).guest g) ((after es).hut i) ≡ true
    → (k : PlainEntry) → Memᴰ k (held ((after es).guest g)) → (last : List Event)
    → StandsBehind (run last (step (MakesFor g i kind) (after es))) (made_at (after es) i kind) k
behind_held es g i kind may t k d last =
    let n = after es in
    let I = after_holds es in
    behind_made (step (MakesFor g i kind) n) (step_becomes (MakesFor g i kind) n I).holds i
    (made_at n i kind) (histories n i) (I.own i) (made_for_durable n g i kind may t)
    k (guests_keep es g i t k d) last

showing_holds : (es : List Event) (i : ℕ) → Holds (entries_made es) (showing i (after es))
showing_holds es i = (step_becomes (Syncs i) (after es) (after_holds es)).holds

-- what is made where a slip is served stands behind what the slip covers
behind_found :
    {every :
    List PlainEntry} (m : Net) → Holds every m → (i : ℕ) (rs : List PlainRecord)
    → Older rs (durables m i) → (k : PlainEntry) → k ∈ entries_of rs
    → (later : List Event) (j : ℕ) (slip : List ℕ) (kind : PlainKind) → Covered slip k
    → Serves (run later m) j slip → MayMake (run later m) j kind
    → (last : List Event)
    → StandsBehind (run last (making j kind (run later m))) (made_at (run later m) j kind) k
behind_found m I i rs o k d later j slip kind covered t may last =
    let n = run later m in
    let J = (run_becomes later m I).2.holds in
    behind_made (making j kind n) (making_holds n J j kind) j (made_at n j kind) (histories n j)
    (J.own j) (making_durable n j kind may)
    k (covered_found m I i rs o k d later j slip covered t) last

pub read_your_writes : Always ReadYourWrites
read_your_writes es = (
  λ g i t k d. guests_keep es g i t k (Memᴰ.append_left ((after es).guest g).seen d),
  λ i kind may later j slip covered t.
      let n = after es in
      covered_found (making i kind n) (making_holds n (after_holds es) i kind) i
      (Tentative (made_at n i kind) ∷ histories n i) (making_durable n i kind may)
      (made_at n i kind) (log_new (Tentative (made_at n i kind)) (histories n i)) later j slip
      covered t,
)

pub monotonic_reads : Always MonotonicReads
monotonic_reads es = (
  λ g i t k d. guests_keep es g i t k (Memᴰ.append_right ((after es).guest g).gave d),
  λ i low k d later j slip covered t.
      covered_found (showing i (after es)) (showing_holds es i) i (histories (after es) i)
      (sync_durable (after es) i low) k d later j slip covered t,
)

pub writes_follow_reads : Always WritesFollowReads
writes_follow_reads es = (
  λ g i kind may t k d. behind_held es g i kind may t k
      (Memᴰ.append_right ((after es).guest g).gave d),
  λ i low k d later j slip kind covered t may.
      behind_found (showing i (after es)) (showing_holds es i) i (histories (after es) i)
      (sync_durable (after es) i low) k d later j slip kind covered t may,
)

pub monotonic_writes : Always MonotonicWrites
monotonic_writes es = (
  λ g i kind may t k d. behind_held es g i kind may t k
      (Memᴰ.append_left ((after es).guest g).seen d),
  λ i first may later j slip kind covered t next.
      let n = after es in
      behind_found (making i first n) (making_holds n (after_holds es) i first) i
      (Tentative (made_at n i first) ∷ histories n i) (making_durable n i first may)
      (made_at n i first) (log_new (Tentative (made_at n i first)) (histories n i)) later j slip
      kind covered t next,
)

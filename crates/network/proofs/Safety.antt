-- The laws of safety: what holds after every list of events.
use Rattle.std.proofs.Common.{◌≡◌, ℕ, ◌≤◌, true, ◌⊎◌, eqb, eqb→eq, ltb, lt→ltb, List, length, is_some, Some, None, Option, sym, refl, ap, ◌∙◌, subst, arith}
use lib.Dec.{eqb_refl}
use mathlib.Core.List.Memᴰ
use Rattle.bookings.proofs.Gone.{lasts_at}
use Rattle.bookings.specs.Books.{book_of, named_by, place_from}
use Rattle.bookings.specs.Laws.{CameTo}
use Rattle.bookings.specs.Outcomes.{holds}
use Rattle.bookings.specs.Plain.{PlainEntry, PlainMark}
use Rattle.journal.specs.History.{Kept, PlainRecord, state_in, synced}
use Rattle.entry_log.proofs.Known.{book-marks, has_found}
use Rattle.entry_log.proofs.Stamps.{vector_at}
use Rattle.entry_log.specs.Logs.{has}
use Rattle.entry_log.specs.Vectors.{vector_of}
use Rattle.replica.specs.Model.{is_primary, leader}
use Rattle.network.specs.Net.{Event, Net, Writes, after, held, huts, run, start, step}
use Rattle.network.specs.Promise.{Always, BehindKnown, CancelledHoldsNothing, Final, GuestsKeep, KnownStays, KnownWhenWritten, NamedBefore, NoGaps, OnceEach, OneOrder, OnePrimary, Prefix, PrimaryLeads, SlipsSay, StoodSays, VectorsSay, makings}
use Rattle.network.specs.Replicas.{committed_of, entries_of, vector_in}
use Rattle.network.proofs.Growth.{made_grows}
use Rattle.network.proofs.Histories.{log_once}
use Rattle.network.proofs.Holds.{Holds, durables, durably, histories, huts_of, so_far}
use Rattle.network.proofs.Knowing.{Huts, behind, known_below, known_covered, known_here, known_then, made-own}
use Rattle.network.proofs.Leading.{leader_has, one_leads, order}
use Rattle.network.proofs.Lists.{mem_splits, stands}
use Rattle.network.proofs.Marks.{◌∈◌, ◌⊆◌, has_one, one_has}
use Rattle.network.proofs.Numbers.{covers_all, covers_known, highest_more, vector_above}
use Rattle.network.proofs.Parts.{Older, committed_older, older_self, older_trans}
use Rattle.network.proofs.Sorting.{once_times}
use Rattle.network.proofs.Steps.{run_becomes, start-holds, step_becomes}
use Rattle.network.proofs.Tests.{T_true, cond_yes, true_T}
use Rattle.network.proofs.Valid.{log_older}

-- all entries that were ever made
pub entries_made : List Event → List PlainEntry
entries_made es = (run_becomes es start start-holds).0

pub made-few : (es : List Event) → length (entries_made es) ≤ makings es
unfolding entries_made
made-few es = omega (arith, (run_becomes es start start-holds).1)

pub after_holds : (es : List Event) → Holds (entries_made es) (after es)
unfolding entries_made
after_holds es = (run_becomes es start start-holds).2.holds

-- the histories of all huts after some events
abbrev pub All : List Event → Huts
All es = huts_of (after es) (after_holds es)

abbrev pub hist : List Event → ℕ → List PlainRecord
hist es = (All es).hist

abbrev pub dur : List Event → ℕ → List PlainRecord
dur es = (All es).dur

-- what is durable stays among the records of its hut
pub lasts : {every : List PlainEntry} (n : Net) → Holds every n → (later : List Event) (i : ℕ) (rs : List PlainRecord) → Older rs (durables n i) → Older rs (histories (run later n) i)
lasts n I later i rs o =
    let m = run later n in
    let r = (run_becomes later n I).2 in
    older_trans rs (durables m i) (histories m i) (older_trans rs (durables n i) (durables m i) o (r.grows i)) ((huts_of m r.holds).part i)

-- who may commit leads by what it has
pub leads_here : {every : List PlainEntry} (n : Net) → Holds every n → (i : ℕ) → is_primary (state_in (n.hut i)) ≡ true → leader (so_far n i) ≡ i
leads_here n I i p = sym (eqb→eq (n.hut i).hut (leader (so_far n i)) (true_T (is_primary (state_in (n.hut i))) p)) ∙ I.own i

pub one_primary : Always OnePrimary
one_primary es i j p q =
    let n = after es in
    let I = after_holds es in
    one_leads leader (durably n) (so_far n) I.all I.led i j (leads_here n I i p) (leads_here n I j q)

pub primary_leads : Always PrimaryLeads
primary_leads es i j p =
    let n = after es in
    let I = after_holds es in
    leader_has leader (durably n) (so_far n) I.all I.led i j (leads_here n I i p)

-- one of two replicas has as committed all that the other has
pub order_in :
    {every : List PlainEntry} (n : Net) → Holds every n → (i j : ℕ)
    → Prefix (committed_of (histories n i)) (committed_of (histories n j)) ⊎ Prefix (committed_of (histories n j)) (committed_of (histories n i))
order_in n I i j = order leader (durably n) (so_far n) I.all I.led i j

pub one_order : Always OneOrder
one_order es i j = order_in (after es) (after_holds es) i j

pub final : Always Final
final es later i = committed_older (dur es i) ((run later (after es)).hut i).durable ((run_becomes later (after es) (after_holds es)).2.grows i)

pub once_each : Always OnceEach
once_each es i = (once_times (entries_of (hist es i)) (log_once (entries_made es) (dur es) i (hist es i) ((All es).valid i)), λ e m. let w = known_here (All es) i e m in (w.0, w.1))

pub behind_known : Always BehindKnown
behind_known es i front back e q older m = behind (All es) i e front back older q m

pub named_before : Always NamedBefore
named_before es i front back e m q named =
    let w = known_here (All es) i e (subst (λ (l : List PlainEntry). e ∈ l) (sym q) (stands e front back)) in
    let k = has_one m (entries_of w.0) ((made-own (All es) e w.0 w.1).named m named) in
    let first = behind (All es) i e front back w.0 q w.1 k.0 k.1 in
    subst (λ (x : PlainMark). has x front ≡ true) k.2 (T_true (has k.0.mark front) (one_has k.0 front first))

-- the booking stands before its cancellation, which takes it away
pub cancelled-holds-nothing : Always CancelledHoldsNothing
cancelled-holds-nothing es i c m g d is came =
    let s = mem_splits (entries_of (hist es i)) d in
    let front = s.0 in
    let found = some_is (place_from 0 m (book_of front).marks)
    (ap (λ ms. is_some (place_from 0 m ms)) (book-marks front) ∙ has_found m 0 front ∙ named_before es i front s.1 c m s.2 (ap named_by is)) in
    lasts_at front s.1 c m g found.0 is found.1 (subst (λ (l : List PlainEntry). CameTo (book_of l) m (holds g)) s.2 came)
  where
    some_is : (o : Option ℕ) → is_some o ≡ true → (p : ℕ) × (o ≡ Some p)
    some_is None t = cc
    some_is (Some p) t = (p, refl)

pub no_gaps : Always NoGaps
no_gaps es i j e f m n q l = let w = known_here (All es) j e m in known_below (All es) i e f w.0 w.1 n q (omega arith)

pub vectors_say : Always VectorsSay
vectors_say es i j front part = (
  λ t k u.
      let w = known_here (All es) i k (subst (λ (l : List PlainEntry). k ∈ l) (sym part.1) (Memᴰ.append_left part.0 u)) in
      known_covered (All es) j (vector_of front) t k w.0 w.1 (vector_above k front u (made-own (All es) k w.0 w.1).hut),
  λ all. covers_known (entries_of (hist es j)) front all,
)

pub guests_keep : Always GuestsKeep
guests_keep es g i t k m =
    let s = (after_holds es).guests g in
    let l = s.lasts k m in
    known_covered (All es) i ((after es).guest g).slip t k l.0 (made_grows (dur es) (hist es) (All es).part k l.0 l.1) (s.noted k m)

pub slips_say : Always SlipsSay
slips_say es g i all =
    covers_all (vector_in ((after es).hut i)) ((after es).guest g).slip
    (λ h l. omega (arith, ((after_holds es).guests g).only h l, vector_at (entries_of (hist es i)) h l, highest_more (held ((after es).guest g)) (entries_of (hist es i)) h all))

-- what is durable is known ever after
known_on :
    {every : List PlainEntry} (n : Net) (I : Holds every n) (later : List Event) (i : ℕ) (rs : List PlainRecord) → Older rs (durables n i)
    → entries_of rs ⊆ entries_of (histories (run later n) i)
known_on n I later i rs o =
    let m = run later n in
    let r = run_becomes later n I in
    log_older r.0 (durables m) i rs (histories m i) (lasts n I later i rs o) (r.2.holds.valid i)

pub known_stays : Always KnownStays
known_stays es later i k m = known_on (after es) (after_holds es) later i (dur es i) (older_self (dur es i)) k m

pub known_when_written : Always KnownWhenWritten
known_when_written es later i count has low k m =
    let e = Writes i count has in
    known_on (step e (after es)) (step_becomes e (after es) (after_holds es)).holds later i (hist es i)
    (subst (λ (rs : List PlainRecord). Older (hist es i) rs) (sym is) (older_self (hist es i))) k m
  where
    is : durables (step (Writes i count has) (after es)) i ≡ hist es i
    is =
        ap (λ (m : Net). (m.hut i).durable) (cond_yes (ltb i huts) _ (after es) (lt→ltb i huts low))
        ∙ ap (λ (x : Kept). x.durable) (cond_yes (eqb i i) (synced ((after es).hut i)) ((after es).hut i) (eqb_refl i))

pub stood_says : Always StoodSays
stood_says es later i j front part =
    let n = run later (after es) in
    let H = huts_of n (run_becomes later (after es) (after_holds es)).2.holds in (
      λ t k u.
          let at = lasts (after es) (after_holds es) later i (dur es i) (older_self (dur es i)) in
          let w = known_then H i (dur es i) at k (subst (λ (l : List PlainEntry). k ∈ l) (sym part.1) (Memᴰ.append_left part.0 u)) in
          known_covered H j (vector_of front) t k w.0 w.1 (vector_above k front u (made-own H k w.0 w.1).hut),
      λ all. covers_known (entries_of (histories n j)) front all,
    )

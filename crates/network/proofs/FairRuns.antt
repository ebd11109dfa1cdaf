-- In a fair run there are as many rounds and commits as one likes, one phase after the other.
use Rattle.std.proofs.Common.{◌≡◌, ◌≢◌, ℕ, zero, suc, ◌+◌, ◌*◌, ◌<◌, ◌≤◌, List, [], ◌++◌, sym, ap, ◌∙◌, subst, arith}
use mathlib.Core.List.{Memᴰ}
use Rattle.bookings.specs.Plain.{PlainEntry}
use Rattle.bookings.specs.declared.book.TheConstants.{CAPACITY}
use Rattle.entry_log.specs.declared.waiting.TheConstants.{MAX_LETTER_ENTRIES}
use Rattle.replica.specs.Model.{capacity}
use Rattle.network.specs.Fairness.{CommitsAgain, FairRunSettles, RoundsAgain, segment}
use Rattle.network.specs.Net.{Event, Net, after, huts, run}
use Rattle.network.specs.Promise.{Always, makings}
use Rattle.network.specs.Replicas.{committed_of, entries_of}
use Rattle.network.specs.Rounds.{Rounds, SyncedCommits}
use Rattle.network.proofs.Segments.{segment_append}
use Rattle.network.proofs.Settling.{synced_settles}
use Rattle.network.proofs.Tests.{below, by_same}
use Rattle.network.proofs.Walk.{run-append}
use Rattle.network.proofs.WalksAgree.{other}
use Rattle.network.proofs.Counting.{commits_more, rounds-then, rounds_more}

-- what comes again and again, and can be counted from a net on, comes as often as one likes
module _ (s : ℕ → Event) (n : Net) where
  at_time : (t u : ℕ) → run (segment s 0 (t + u)) n ≡ run (segment s t u) (run (segment s 0 t) n)
  at_time t u =
      let same : 0 + t ≡ t = omega arith in
      ap (λ (l : List Event). run l n)
      (segment_append s t u 0 ∙ ap (λ (x : ℕ). segment s 0 t ++ segment s x u) same)
      ∙ run-append (segment s 0 t) (segment s t u) n

  module _
      (P : ℕ → Net → List Event → Type 0) (none : (m : Net) → P zero m [])
      (more : (count : ℕ) (m : Net) (a b : List Event) → P 1 m a → P count (run a m) b → P (suc count) m (a ++ b)) where
    so_often :
        ((t : ℕ) → (u : ℕ) × P 1 (run (segment s 0 t) n) (segment s t u)) → (count t : ℕ) → (u : ℕ)
        × P count (run (segment s 0 t) n) (segment s t u)
    so_often again zero t = (0, none (run (segment s 0 t) n))
    so_often again (suc count) t =
        let a = again t in
        let r = so_often again count (t + a.0) in
        let m = run (segment s 0 t) n in
        let others = subst (λ (x : Net). P count x (segment s (t + a.0) r.0)) (at_time t a.0) r.1 in (
          a.0 + r.0,
          subst (P (suc count) m) (sym (segment_append s a.0 r.0 t))
              (more count m (segment s t a.0) (segment s (t + a.0) r.0) a.1 others),
        )

-- three phases of such a run
module _
    (es : List Event) (enough commits : ℕ)
    (bound : (m : ℕ) → m < capacity → (2 * m < enough * MAX_LETTER_ENTRIES) × (m ≤ commits)) (s : ℕ → Event)
    (few : (t : ℕ) → makings (es ++ segment s 0 t) < capacity) where
  module _
      (i c j : ℕ) (low : i < huts) (mid : c < huts) (lt : j < huts)
      (in_rounds : i ≢ c → RoundsAgain i c (after es) s) (tries : CommitsAgain c (after es) s)
      (out_rounds : c ≢ j → RoundsAgain c j (after es) s) where
    abbrev n : Net
    n = after es

    a : (u : ℕ) × (i ≢ c → Rounds enough i c (after es) (segment s 0 u))
    unfolding run
    a = by_same i c (λ p. (0, λ ne. absurd (ne p)))
        (λ apart.
        let r =
        so_often s n (λ count m x. Rounds count i c m x) (λ m. tt) (rounds_more i c)
        (in_rounds (other i c apart)) enough 0 in
        (r.0, λ _. r.1))

    b : (u : ℕ) × SyncedCommits commits c (run (segment s 0 a.0) (after es)) (segment s a.0 u)
    b =
        so_often s n (λ count m x. SyncedCommits count c m x) (λ m. tt) (commits_more c) tries
        commits a.0

    d : (u : ℕ) × (c ≢ j → Rounds enough c j (run (segment s 0 (a.0 + b.0)) (after es))
        (segment s (a.0 + b.0) u))
    d = by_same c j (λ p. (0, λ ne. absurd (ne p)))
        (λ apart.
        let r =
        so_often s n (λ count m x. Rounds count c j m x) (λ m. tt) (rounds_more c j)
        (out_rounds (other c j apart)) enough (a.0 + b.0) in
        (r.0, λ _. r.1))

    abbrev settled_at : ℕ
    settled_at = a.0 + (b.0 + d.0)

    abbrev third : ℕ → List Event
    third later = segment s (a.0 + b.0) (d.0 + later)

    third-rounds : (later : ℕ) → c ≢ j
        → Rounds enough c j (run (segment s a.0 b.0) (run (segment s 0 a.0) (after es)))
        (third later)
    third-rounds later ne =
        subst (λ (x : List Event). Rounds enough c j
        (run (segment s a.0 b.0) (run (segment s 0 a.0) n)) x)
        (sym (segment_append s d.0 later (a.0 + b.0)))
        (rounds-then c j enough (run (segment s a.0 b.0) (run (segment s 0 a.0) n))
        (segment s (a.0 + b.0) d.0) (segment s ((a.0 + b.0) + d.0) later)
        (subst (λ (x : Net). Rounds enough c j x (segment s (a.0 + b.0) d.0)) (at_time s n a.0 b.0)
        (d.1 ne)))

    parts : (later : ℕ) → segment s 0 ((a.0 + (b.0 + d.0)) + later) ≡ segment s 0 a.0
        ++ (segment s a.0 b.0 ++ third later)
    parts later =
        let time : (a.0 + (b.0 + d.0)) + later ≡ a.0 + (b.0 + (d.0 + later)) = omega arith in
        let same : 0 + a.0 ≡ a.0 = omega arith in
        ap (segment s 0) time ∙ segment_append s a.0 (b.0 + (d.0 + later)) 0
        ∙ ap (λ (l : List Event). segment s 0 a.0 ++ l)
        (ap (λ (x : ℕ). segment s x (b.0 + (d.0 + later))) same
        ∙ segment_append s b.0 (d.0 + later) a.0)

    settles-by :
        (later : ℕ) (k : PlainEntry) → Memᴰ k (entries_of ((after es).hut i).durable)
        → Memᴰ k (committed_of ((run (segment s 0 ((a.0 + (b.0 + d.0)) + later)) (after es)).hut
        j).durable)
    settles-by later k m =
        let all =
        subst (λ (l : List Event). makings (es ++ l) < capacity) (parts later)
        (few ((a.0 + (b.0 + d.0)) + later)) in
        let most =
        bound (makings (es ++ (segment s 0 a.0 ++ (segment s a.0 b.0 ++ third later)))) all in
        let is =
        ap (λ (l : List Event). run l n) (parts later)
        ∙ run-append (segment s 0 a.0) (segment s a.0 b.0 ++ third later) n
        ∙ run-append (segment s a.0 b.0) (third later) (run (segment s 0 a.0) n) in
        subst (λ (x : Net). Memᴰ k (committed_of (x.hut j).durable)) (sym is)
        (synced_settles es (segment s 0 a.0) (segment s a.0 b.0) (third later) all enough most.0 i c
        j low mid lt a.1 commits most.1 b.1 (third-rounds later) k m)

-- what holds of each of some numbers from some time on holds of all of them from some time on
all_from : (P : ℕ → ℕ → Type 0) → (n most : ℕ) → n ≤ most
    → ((i : ℕ) → i < most → (time : ℕ) × ((later : ℕ) → P i (time + later))) → (time : ℕ)
    × ((later i : ℕ) → i < n → P i (time + later))
all_from P zero most le each = (0, λ later i lt. absurd (omega arith))
all_from P (suc n) most le each =
    let r = all_from P n most (omega arith) each in
    let x = each n (omega arith) in (
      r.0 + x.0,
      λ later i lt. by_same i n
          (λ p.
          let time : x.0 + (r.0 + later) ≡ (r.0 + x.0) + later = omega arith in
          subst (λ (y : ℕ). P y ((r.0 + x.0) + later)) (sym p)
          (subst (P n) time (x.1 (r.0 + later))))
          (λ apart.
          let time : r.0 + (x.0 + later) ≡ (r.0 + x.0) + later = omega arith in
          subst (P i) time (r.1 (x.0 + later) i (below i n lt apart))),
    )

pub fair_run_settles : Always FairRunSettles
fair_run_settles es s few c mid tries rounds =
    let pairs =
    all_from (λ i t. (j : ℕ) → j < huts → Settles i j t) huts huts (omega arith)
    (λ i low. let f = from i low in (f.0, λ later j lt. f.1 later j lt)) in
    (pairs.0, λ later i j low lt k m. pairs.1 later i low j lt k m)
  where
    -- what hut i had synced is committed for good in hut j after so many events
    Settles : ℕ → ℕ → ℕ → Type 0
    Settles i j t =
        (k : PlainEntry) → Memᴰ k (entries_of ((after es).hut i).durable)
        → Memᴰ k (committed_of ((run (segment s 0 t) (after es)).hut j).durable)

    bound : (m : ℕ) → m < capacity → (2 * m < 128 * MAX_LETTER_ENTRIES) × (m ≤ CAPACITY)
    bound m lt = (omega arith, omega arith)

    pair : (i : ℕ) → i < huts → (j : ℕ) → j < huts → (time : ℕ)
        × ((later : ℕ) → Settles i j (time + later))
    pair i low j lt =
        let to : i ≢ c → RoundsAgain i c (after es) s = λ ne. (rounds i low ne).0 in
        let back : c ≢ j → RoundsAgain c j (after es) s = λ ne. (rounds j lt (λ p. ne (sym p))).1 in (
          settled_at es 128 CAPACITY bound s few i c j low mid lt to tries back,
          settles-by es 128 CAPACITY bound s few i c j low mid lt to tries back,
        )

    from : (i : ℕ) → i < huts → (time : ℕ) × ((later j : ℕ) → j < huts → Settles i j (time + later))
    from i low = all_from (λ j t. Settles i j t) huts huts (omega arith) (pair i low)

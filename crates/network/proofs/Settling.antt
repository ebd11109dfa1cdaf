-- What a hut had synced is committed for good in every hut, after enough rounds and commits.
use Rattle.std.proofs.Common.{◌≡◌, ℕ, zero, suc, ◌+◌, ◌<◌, ◌≤◌, ◌⊎◌, true, List, [], ◌∷◌, ◌++◌, length, sym, refl, ap, ◌∙◌, subst, inl, inr, arith, length-append}
use mathlib.Core.List.Memᴰ
use Rattle.bookings.specs.Plain.{PlainEntry}
use Rattle.journal.specs.History.{PlainRecord, state_in}
use Rattle.replica.specs.Model.{is_primary}
use Rattle.network.specs.Net.{Commits, Event, Net, Syncs, after, huts, run, step}
use Rattle.network.specs.Promise.{Always, makings}
use Rattle.network.specs.Replicas.{committed_of, entries_of, tentative_of}
use Rattle.network.specs.Rounds.{SyncedCommits, SyncedSettles}
use Rattle.network.proofs.Histories.{log_once}
use Rattle.network.proofs.Holds.{Becomes, Holds, durables, histories, huts_of}
use Rattle.network.proofs.Marks.{◌∈◌}
use Rattle.network.proofs.Moves.{move_older}
use Rattle.network.proofs.Parts.{committed_older}
use Rattle.network.proofs.Room.{known_own}
use Rattle.network.proofs.Rounds.{durable-valid, durable_is, got_valid, rounds-got}
use Rattle.network.proofs.Safety.{after_holds, entries_made, leads_here, made-few}
use Rattle.network.proofs.Sorting.{no_more}
use Rattle.network.proofs.Steps.{run_becomes, step_becomes}
use Rattle.network.proofs.Valid.{log_older}
use Rattle.network.proofs.Walk.{makings-append, run-append}
use Rattle.network.proofs.WalksSettle.{all_committed, commit-more, none_long}
use Rattle.network.specs.Walks.{Commit}
use Rattle.network.proofs.LastingCommits.{as_many-committed, committed_on, lasting, lasting_here, lasting_more}

module _ (c : ℕ) (low : c < huts) where
  -- the primary commits, and syncs
  abbrev committing : Net → Net
  committing n = step (Syncs c) (step (Commits c) n)

  commit-holds : {every : List PlainEntry} (n : Net) → Holds every n
      → Becomes every (step (Commits c) n) (committing n)
  commit-holds n I =
      step_becomes (Syncs c) (step (Commits c) n) (step_becomes (Commits c) n I).holds

  -- what it knew is committed for good, or one more is
  commit-lasts :
      {every : List PlainEntry} (n : Net) → Holds every n → is_primary (state_in (n.hut c)) ≡ true
      → (k : PlainEntry) → k ∈ entries_of (durables n c)
      → (k ∈ committed_of (durables (committing n) c))
      ⊎ (suc (lasting n c) ≤ lasting (committing n) c)
  commit-lasts {every} n I primary k d = go (tentative_of (histories n c)) refl
    where
      is : durables (committing n) c ≡ histories (step (Commits c) n) c
      is = durable_is (step (Commits c) n) c low

      go : (ts : List PlainEntry) → tentative_of (histories n c) ≡ ts
          → (k ∈ committed_of (durables (committing n) c))
          ⊎ (suc (lasting n c) ≤ lasting (committing n) c)
      go [] q =
          let known =
          log_older every (durables n) c (durables n c) (histories n c) ((huts_of n I).part c)
          (I.valid c) k d in
          let p =
          committed_older (histories n c) (histories (step (Commits c) n) c)
          (move_older (Commit c) n c) in
          let here =
          Memᴰ.append_left p.0 (subst (λ (l : List PlainEntry). k ∈ l)
          (all_committed (histories n c) q) known) in
          inl (subst (λ (rs : List PlainRecord). k ∈ committed_of rs) (sym is)
          (subst (λ (l : List PlainEntry). k ∈ l) (sym p.1) here))
      go (e ∷ ts) q =
          let one = commit-more c low n I (leads_here n I c primary) e ts q in
          inr (omega (
            arith,
            one,
            lasting_here n I c,
            ap (λ (rs : List PlainRecord). length (committed_of rs)) is,
          ))

  commits-last :
      (count : ℕ) {every : List PlainEntry} (n : Net) → Holds every n → (es : List Event)
      → SyncedCommits count c n es → (k : PlainEntry) → k ∈ entries_of (durables n c)
      → (k ∈ committed_of (durables (run es n) c)) ⊎ (lasting n c + count ≤ lasting (run es n) c)
  unfolding run
  commits-last zero n I es r k d =
      let b = run_becomes es n I in
      inr (omega (arith, lasting_more n (run es n) c (b.2.grows c)))
  commits-last (suc count) {every} n I es (before, rest, q, primary, more) k d =
      subst (λ (m : Net). (k ∈ committed_of (durables m c))
      ⊎ (lasting n c + suc count ≤ lasting m c)) (sym is)
      (elim (commit-lasts n1 a.2.holds primary k known-then) [
        | inl g ↦ inl (committed_on n2 end c k (later.2.grows c) g)
        | inr l ↦ elim (commits-last count n2 b.holds rest more k known-after) [
          | inl g ↦ inl g
          | inr m ↦ inr (omega (arith, l, m, lasting_more n n1 c (a.2.grows c)))
        ]
      ])
    where
      n1 : Net
      n1 = run before n

      a : (made : List PlainEntry) × (length made ≤ length every + makings before)
          × Becomes made n (run before n)
      a = run_becomes before n I

      n2 : Net
      n2 = committing (run before n)

      b : Becomes a.0 (step (Commits c) (run before n)) (committing (run before n))
      b = commit-holds n1 a.2.holds

      later : (made : List PlainEntry) × (length made ≤ length a.0 + makings rest)
          × Becomes made (committing (run before n)) (run rest (committing (run before n)))
      later = run_becomes rest n2 b.holds

      end : Net
      end = run rest (committing (run before n))

      known-then : k ∈ entries_of (durables (run before n) c)
      known-then =
          (got_valid a.0 (durables n1) c (durables n c) (durables n1 c) (a.2.grows c)
          (durable-valid n1 a.2.holds c)).1 k d

      known-after : k ∈ entries_of (durables (committing (run before n)) c)
      known-after =
          let m1 = step (Commits c) n1 in
          let first = step_becomes (Commits c) n1 a.2.holds in
          let between =
          (got_valid a.0 (durables m1) c (durables n1 c) (durables m1 c) (first.grows c)
          (durable-valid m1 first.holds c)).1 k known-then in
          (got_valid a.0 (durables n2) c (durables m1 c) (durables n2 c) (b.grows c)
          (durable-valid n2 b.holds c)).1 k between

      is : run es n ≡ run rest (committing (run before n))
      is = ap (λ (l : List Event). run l n) q ∙ run-append before (Commits c ∷ Syncs c ∷ rest) n

  -- as often as entries were ever made: all that it knew is committed for good
  all-commits-last :
      (count : ℕ) {every : List PlainEntry} (n : Net) → Holds every n → (es : List Event)
      → length every + makings es ≤ count → SyncedCommits count c n es
      → (k : PlainEntry) → k ∈ entries_of (durables n c) → k ∈ committed_of (durables (run es n) c)
  all-commits-last count n I es enough r k d = elim (commits-last count n I es r k d) [
    | inl g ↦ g
    | inr l ↦
        let m = run es n in
        let b = run_becomes es n I in
        let known =
        (got_valid b.0 (durables m) c (durables n c) (durables m c) (b.2.grows c)
        (durable-valid m b.2.holds c)).1 k d in
        let valid = durable-valid m b.2.holds c in
        let fits =
        no_more (entries_of (durables m c)) b.0 (log_once b.0 (durables m) c (durables m c) valid)
        (λ x u. (known_own m b.2.holds c x
        (log_older b.0 (durables m) c (durables m c) (histories m c) ((huts_of m b.2.holds).part c)
        (b.2.holds.valid c) x u)).1) in
        let none =
        none_long (tentative_of (durables m c))
        (omega (
          arith,
          l,
          enough,
          b.1,
          fits,
          length-append (committed_of (durables m c)) (tentative_of (durables m c)),
        )) in
        subst (λ (l : List PlainEntry). k ∈ l) (all_committed (durables m c) none) known
  ]

pub synced_settles : Always SyncedSettles
synced_settles es first second third few count much i c j low mid lt r1 commits all r2 r3 k d =
    as_many-committed n3 e3.2.holds c j (durables n2 c) (e3.2.grows c)
    (rounds-got c j mid lt count n2 e2.2.holds third (omega (arith, few, made, e1.1, e2.1, sum))
    (omega (arith, much, made, e1.1, e2.1, sum)) r3).0 k
    (all-commits-last c mid commits n1 e1.2.holds second (omega (arith, all, made, e1.1, sum)) r2 k
    ((rounds-got i c low mid count (after es) (after_holds es) first (omega (arith, few, made, sum))
    (omega (arith, much, made, sum)) r1).1 k d))
  where
    made : length (entries_made es) ≤ makings es
    made = made-few es

    n1 : Net
    n1 = run first (after es)

    e1 : (made : List PlainEntry) × (length made ≤ length (entries_made es) + makings first)
        × Becomes made (after es) (run first (after es))
    e1 = run_becomes first (after es) (after_holds es)

    n2 : Net
    n2 = run second (run first (after es))

    e2 : (made : List PlainEntry) × (length made ≤ length e1.0 + makings second)
        × Becomes made (run first (after es)) (run second (run first (after es)))
    e2 = run_becomes second n1 e1.2.holds

    n3 : Net
    n3 = run third (run second (run first (after es)))

    e3 : (made : List PlainEntry) × (length made ≤ length e2.0 + makings third)
        × Becomes made (run second (run first (after es)))
        (run third (run second (run first (after es))))
    e3 = run_becomes third n2 e2.2.holds

    sum : makings (es ++ (first ++ (second ++ third))) ≡ makings
        es + (makings first + (makings second + makings third))
    sum =
        omega (
          arith,
          makings-append es (first ++ (second ++ third)),
          makings-append first (second ++ third),
          makings-append second third,
        )

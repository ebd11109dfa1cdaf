-- Each round of letters brings all that its writer has, or 1,024 items that were not there.
use Rattle.std.proofs.Common.{◌≡◌, ◌≢◌, ℕ, zero, suc, ◌+◌, ◌*◌, ◌<◌, ◌≤◌, ◌⊎◌, ltb, List, [], ◌∷◌, ◌++◌, length, sym, ap, ◌∙◌, subst, inl, inr, arith, length-append, lt→ltb}
use Rattle.bookings.specs.Plain.{PlainEntry}
use Rattle.entry_log.specs.declared.waiting.TheConstants.{MAX_LETTER_ENTRIES}
use Rattle.journal.specs.History.{Kept, PlainRecord, history_of, synced}
use Rattle.replica.specs.Model.{capacity}
use Rattle.network.specs.Items.{items_taken}
use Rattle.network.specs.Late.{before_letter, late_letter, letter_taken, letter_written, said_by}
use Rattle.network.specs.Net.{Event, Net, Syncs, Takes, Writes, after, huts, run, step, with_hut}
use Rattle.network.specs.Promise.{Always, makings}
use Rattle.network.specs.Replicas.{committed_in, committed_of, entries_of, tentative_of, vector_in}
use Rattle.network.specs.Rounds.{Rounds, RoundsBring, round}
use Rattle.network.proofs.Histories.{log_once}
use Rattle.network.proofs.Holds.{Becomes, Holds, durables, histories, huts_of}
use Rattle.network.proofs.LateGrowth.{letter-grows, measure}
use Rattle.network.proofs.LateRuns.{coming, few-made, first, letter-said, mine-last, said-holds, second, taken_is, theirs-last}
use Rattle.network.proofs.Parts.{Older, committed_older, older_self, older_trans}
use Rattle.network.proofs.Room.{known_own, once_log}
use Rattle.network.proofs.Safety.{after_holds, made-few}
use Rattle.network.proofs.Sorting.{no_more}
use Rattle.network.proofs.Steps.{run_becomes}
use Rattle.network.proofs.Tests.{by_same, cond_yes}
use Rattle.network.proofs.Valid.{Valid, log_older, valid_older}
use Rattle.network.proofs.Walk.{makings-append, run-append}
use Rattle.network.proofs.WalksAgree.{other}
use Rattle.network.proofs.WalksBring.{Got, got_older, got_trans}
use Rattle.network.proofs.Whole.{hut_self}

-- what is synced is durable
pub durable_is : (n : Net) (j : ℕ) → j < huts → durables (step (Syncs j) n) j ≡ histories n j
durable_is n j lt =
    ap (λ (m : Net). (m.hut j).durable)
    (cond_yes (ltb j huts) (with_hut j (synced (n.hut j)) n) n (lt→ltb j huts lt))
    ∙ ap (λ (k : Kept). k.durable) (hut_self j (synced (n.hut j)) n)

-- the records that are durable are valid, and more of them say no less
pub durable-valid : {every : List PlainEntry} (n : Net) → Holds every n → (j : ℕ)
    → Valid every (durables n) j (durables n j)
durable-valid {every} n I j =
    valid_older every (durables n) j (durables n j) (histories n j) ((huts_of n I).part j)
    (I.valid j)

pub got_valid : (every : List PlainEntry) (d : ℕ → List PlainRecord) (j : ℕ)
    (a b : List PlainRecord) → Older a b → Valid every d j b → Got a b
got_valid every d j a b o v =
    let p = committed_older a b o in
    (omega (arith, ap length p.1, length-append (committed_of a) p.0), log_older every d j a b o v)

pub measure_older : (every : List PlainEntry) (d : ℕ → List PlainRecord) (j : ℕ)
    (a b : List PlainRecord) → Older a b → Valid every d j b → measure a ≤ measure b
measure_older every d j a b o v =
    let g = got_valid every d j a b o v in
    omega (
      arith,
      g.0,
      no_more (entries_of a) (entries_of b)
          (log_once every d j a (valid_older every d j a b o v)) g.1,
    )

-- all that can be known, twice
measure_most : {every : List PlainEntry} (n : Net) → Holds every n → (j : ℕ)
    → measure (durables n j) ≤ 2 * length every
measure_most {every} n I j =
    let rs = histories n j in
    let fits = no_more (entries_of rs) every (once_log n I j) (λ k m. (known_own n I j k m).1) in
    omega (
      arith,
      fits,
      measure_older every (durables n) j (durables n j) rs ((huts_of n I).part j)
          (I.valid j),
      length-append (committed_of rs) (tentative_of rs),
    )

module _
    {every : List PlainEntry} (n : Net) (I : Holds every n) (between later : List Event) (i j : ℕ)
    (low : i < huts) (lt : j < huts) where
  round_is : run (round n between later i j) n ≡ step (Syncs j) (letter_taken n between later i j)
  unfolding run
  round_is =
      let end = Takes j (length (before_letter n between j).sent) ∷ Syncs j ∷ [] in
      let writes = Writes i (length (committed_in (said_by n j))) (vector_in (said_by n j)) in
      run-append between (writes ∷ (later ++ end)) (step (Syncs j) n)
      ∙ run-append later end (letter_written n between i j)

  round_makings : makings (round n between later i j) ≡ makings between + makings later
  unfolding makings
  round_makings =
      let end = Takes j (length (before_letter n between j).sent) ∷ Syncs j ∷ [] in
      let writes = Writes i (length (committed_in (said_by n j))) (vector_in (said_by n j)) in
      omega (arith, makings-append between (writes ∷ (later ++ end)), makings-append later end)

  -- what hut j has for good when the round is over
  round_leaves : durables (run (round n between later i j) n) j ≡ history_of
      (items_taken (late_letter n between i j) ((coming n I between later i j low lt).hut j))
  round_leaves =
      ap (λ (m : Net). durables m j) round_is ∙ durable_is (letter_taken n between later i j) j lt
      ∙ ap history_of (taken_is n I between later i j low lt)

  -- what hut i had synced is in what it writes
  writer-has : (rs : List PlainRecord) → Older rs (durables n i)
      → Got rs (history_of ((before_letter n between j).hut i))
  writer-has rs o =
      let m = before_letter n between j in
      let f = (first n I between later i j low lt).2 in
      got_older m f.holds i rs
      (older_trans rs (durables m i) (histories m i)
      (older_trans rs (durables (step (Syncs j) n) i) (durables m i)
      (older_trans rs (durables n i) (durables (step (Syncs j) n) i) o
      ((said-holds n I between later i j low lt).grows i)) (f.grows i))
      ((huts_of m f.holds).part i))

  -- what hut j had synced is in what it says
  reader-has : measure (durables n j) ≤ measure (history_of (said_by n j))
  reader-has =
      let m = step (Syncs j) n in
      let s = said-holds n I between later i j low lt in
      measure_older every (durables m) j (durables n j) (histories m j)
      (older_trans (durables n j) (durables m j) (histories m j) (s.grows j)
      ((huts_of m s.holds).part j)) (s.holds.valid j)

  pub one-round :
      length every + (makings between + makings later) < capacity → (rs : List PlainRecord)
      → Older rs (durables n i)
      → Got rs (durables (run (round n between later i j) n) j)
      ⊎ (measure (durables n j) + MAX_LETTER_ENTRIES ≤ measure (durables (run (round n between later i j) n) j))
  one-round few rs o =
      let k = (before_letter n between j).hut i in
      let m = coming n I between later i j low lt in
      let end = history_of (items_taken (late_letter n between i j) (m.hut j)) in
      let s = second n I between later i j low lt in
      subst (λ (x : List PlainRecord). Got rs x ⊎ (measure (durables n j) + MAX_LETTER_ENTRIES ≤ measure x))
      (sym round_leaves)
      (elim (letter-grows m s.2.holds (few-made n I between later i j low lt few) i j k
      (theirs-last n I between later i j low lt) (history_of (said_by n j))
      (mine-last n I between later i j low lt) (letter-said n I between later i j low lt)) [
        | inl g ↦ inl (got_trans rs (history_of k) end (writer-has rs o) g)
        | inr l ↦ inr (omega (arith, l, reader-has))
      ])

module _ (i j : ℕ) (low : i < huts) (lt : j < huts) where
  rounds-grow :
      (count : ℕ) {every : List PlainEntry} (n : Net) → Holds every n → (es : List Event)
      → length every + makings es < capacity → Rounds count i j n es
      → (rs : List PlainRecord) → Older rs (durables n i) → Got rs (durables (run es n) j)
      ⊎ (measure (durables n j) + count * MAX_LETTER_ENTRIES ≤ measure (durables (run es n) j))
  rounds-grow zero n I es few r rs o =
      let m = run es n in
      let b = run_becomes es n I in
      inr (omega (
        arith,
        measure_older b.0 (durables m) j (durables n j) (durables m j)
            (b.2.grows j) (durable-valid m b.2.holds j),
      ))
  rounds-grow (suc count) {every} n I es few (before, between, later, rest, q, more) rs o =
      subst (λ (m : Net). Got rs (durables m j)
      ⊎ (measure (durables n j) + suc count * MAX_LETTER_ENTRIES ≤ measure (durables m j))) (sym is)
      (elim (one-round n1 a.2.holds between later i j low lt
      (omega (arith, few, a.1, parts, middle)) rs o1) [
        | inl g ↦
            let c = run_becomes rest n2 b.2.holds in
            inl (got_trans rs (durables n2 j) (durables end j) g
            (got_valid c.0 (durables end) j (durables n2 j) (durables end j) (c.2.grows j)
            (durable-valid end c.2.holds j)))
        | inr l ↦ elim (rounds-grow count n2 b.2.holds rest (omega (arith, few, a.1, b.1, parts))
            more rs (older_trans rs (durables n1 i) (durables n2 i) o1 (b.2.grows i))) [
              | inl g ↦ inl g
              | inr m ↦
                  inr (omega (
                    arith,
                    l,
                    m,
                    measure_older a.0 (durables n1) j (durables n j)
                        (durables n1 j) (a.2.grows j) (durable-valid n1 a.2.holds j),
                  ))
            ]
      ])
    where
      n1 : Net
      n1 = run before n

      a : (made : List PlainEntry) × (length made ≤ length every + makings before)
          × Becomes made n (run before n)
      a = run_becomes before n I

      n2 : Net
      n2 = run (round (run before n) between later i j) (run before n)

      b : (made : List PlainEntry)
          × (length made ≤ length a.0 + makings (round (run before n) between later i j))
          × Becomes made (run before n) (run (round (run before n) between later i j)
          (run before n))
      b = run_becomes (round n1 between later i j) n1 a.2.holds

      end : Net
      end = run rest (run (round (run before n) between later i j) (run before n))

      o1 : Older rs (durables (run before n) i)
      o1 = older_trans rs (durables n i) (durables n1 i) o (a.2.grows i)

      is : run es n ≡ run rest (run (round (run before n) between later i j) (run before n))
      is =
          ap (λ (l : List Event). run l n) q
          ∙ run-append before (round n1 between later i j ++ rest) n
          ∙ run-append (round n1 between later i j) rest n1

      middle : makings (round (run before n) between later i j) ≡ makings between + makings later
      middle = round_makings n1 a.2.holds between later i j low lt

      parts : makings es ≡ makings before + (makings
          (round (run before n) between later i j) + makings rest)
      parts =
          omega (
            arith,
            ap makings q,
            makings-append before (round n1 between later i j ++ rest),
            makings-append (round n1 between later i j) rest,
          )

  -- enough of them bring all
  pub rounds-got :
      (count : ℕ) {every : List PlainEntry} (n : Net) → Holds every n → (es : List Event)
      → length every + makings es < capacity
      → 2 * (length every + makings es) < count * MAX_LETTER_ENTRIES → (i ≢ j → Rounds count i j n es)
      → Got (durables n i) (durables (run es n) j)
  rounds-got count n I es few much r = by_same i j here (λ apart. between (r (other i j apart)))
    where
      here : i ≡ j → Got (durables n i) (durables (run es n) j)
      here p =
          let b = run_becomes es n I in
          let m = run es n in
          subst (λ (x : ℕ). Got (durables n i) (durables m x)) p
          (got_valid b.0 (durables m) i (durables n i) (durables m i) (b.2.grows i)
          (durable-valid m b.2.holds i))

      between : Rounds count i j n es → Got (durables n i) (durables (run es n) j)
      between r = elim (rounds-grow count n I es few r (durables n i) (older_self (durables n i))) [
        | inl g ↦ g
        | inr l ↦
            let b =
            run_becomes es n I in absurd (omega
            (arith, l, much, b.1, measure_most (run es n) b.2.holds j))
      ]

pub rounds_bring : Always RoundsBring
rounds_bring es later few count much i j low lt r =
    let sum = makings-append es later in
    rounds-got i j low lt count (after es) (after_holds es) later
    (omega (arith, few, sum, made-few es)) (omega (arith, much, sum, made-few es)) (λ _. r)

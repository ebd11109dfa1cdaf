-- Of enough walks from one hut to another one brings all, since there is no room for so many records.
use Rattle.std.proofs.Common.{◌≡◌, ℕ, suc, ◌+◌, ◌*◌, ◌<◌, ◌≤◌, ◌⊎◌, ◌&&◌, Bool, true, false, cond, eqb, eqb→eq, List, [], ◌∷◌, length, sym, ap, ◌∙◌, subst, inl, inr, arith, length-append, length-take}
use Rattle.std.proofs.lemmas.Bool.{cases_lt}
use Rattle.std.proofs.lemmas.List.{drop_all}
use Rattle.bookings.specs.Plain.{PlainEntry}
use Rattle.entry_log.specs.declared.waiting.TheConstants.{MAX_LETTER_ENTRIES}
use Rattle.journal.specs.History.{Committed, Kept, PlainRecord, Tentative, history_of}
use Rattle.replica.specs.Model.{capacity}
use Rattle.network.specs.Items.{Letter, items_taken, takes}
use Rattle.network.specs.Net.{Net, after, huts}
use Rattle.network.specs.Promise.{AllTaken, Always, exchange, lacking, letter_to}
use Rattle.network.specs.Replicas.{committed_in, committed_of, entries_of, tentative_of, vector_in}
use Rattle.network.specs.Walks.{Commit, Move, Walk, WalksBring, move, moved, walks}
use Rattle.network.proofs.Exchange.{exchange-left, exchange_reader}
use Rattle.network.proofs.Histories.{log_once}
use Rattle.network.proofs.Holds.{Holds, durables, histories}
use Rattle.network.proofs.Letters.{letter-first}
use Rattle.network.proofs.Lists.{by_cons, front_not_nil}
use Rattle.network.proofs.Logs.{log_new}
use Rattle.network.proofs.Marks.{◌∈◌, ◌⊆◌}
use Rattle.network.proofs.Moves.{move_becomes, move_older, moved_becomes, moved_older}
use Rattle.network.proofs.Next.{next}
use Rattle.network.proofs.Parts.{Older, committed_older, older_self, older_trans}
use Rattle.network.proofs.Room.{known_own, once_log}
use Rattle.network.proofs.Safety.{after_holds, made-few}
use Rattle.network.proofs.Sorting.{no_more}
use Rattle.network.proofs.Taken.{takes-taken}
use Rattle.network.proofs.Tests.{Apart, and_has, apart_turned, by_same, cond_by}
use Rattle.network.proofs.Valid.{Valid, log_keeps, log_older, new_fresh}
use Rattle.network.proofs.Whole.{letter-whole, made_fewer}

-- each record adds an entry to the log, or to what is committed
record_count :
    (every : List PlainEntry) (d : ℕ → List PlainRecord) (j : ℕ) (rs : List PlainRecord)
    → Valid every d j rs
    → length rs ≤ length (entries_of rs) + length (committed_of rs)
record_count every d j [] v = omega arith
record_count every d j (Tentative e ∷ rs) v =
    let more =
    no_more (e ∷ entries_of rs) (entries_of (Tentative e ∷ rs))
    (new_fresh every d j e rs v.0, log_once every d j rs v.1)
    (λ k m. by_cons m (λ q. subst (λ (x : PlainEntry). x ∈ entries_of (Tentative e ∷ rs)) (sym q)
    (log_new (Tentative e) rs)) (log_keeps every d j (Tentative e) rs v.0 k)) in
    omega (arith, more, record_count every d j rs v.1)
record_count every d j (Committed e ∷ rs) v =
    let more =
    no_more (entries_of rs) (entries_of (Committed e ∷ rs)) (log_once every d j rs v.1)
    (log_keeps every d j (Committed e) rs v.0) in
    omega (arith, more, record_count every d j rs v.1, length-append (committed_of rs) (e ∷ []))

-- so there are no more than twice as many as entries were ever made
pub records_few : {every : List PlainEntry} (n : Net) → Holds every n → (j : ℕ)
    → length (histories n j) ≤ 2 * length every
records_few {every} n I j =
    let rs = histories n j in
    let fits = no_more (entries_of rs) every (once_log n I j) (λ k m. (known_own n I j k m).1) in
    omega (
      arith,
      record_count every (durables n) j rs (I.valid j),
      fits,
      length-append (committed_of rs) (tentative_of rs),
    )

-- a letter that is taken whole adds as many records as it has items
taken_length : (l : Letter) (k : Kept) → AllTaken l k
    → length (history_of (items_taken l k)) ≡ length (history_of k) + length l
unfolding items_taken
taken_length [] k t = omega arith
taken_length (w ∷ ws) k t =
    let one : length (history_of (takes w k)) ≡ suc (length (history_of k)) =
    ap (λ (x : Kept). length (history_of x)) (takes-taken w k t.0) in
    omega (arith, one, taken_length ws (takes w k) t.1)

-- what was known with some records is known with others, with as many committed
abbrev pub Got : List PlainRecord → List PlainRecord → Type 0
Got rs ss = (length (committed_of rs) ≤ length (committed_of ss)) × (entries_of rs ⊆ entries_of ss)

pub got_older : {every : List PlainEntry} (n : Net) → Holds every n
    → (j : ℕ) (rs : List PlainRecord) → Older rs (histories n j) → Got rs (histories n j)
got_older {every} n I j rs o =
    let p = committed_older rs (histories n j) o in (
      omega (arith, ap length p.1, length-append (committed_of rs) p.0),
      log_older every (durables n) j rs (histories n j) o (I.valid j),
    )

pub got_trans : (a b c : List PlainRecord) → Got a b → Got b c → Got a c
got_trans a b c p q = (omega (arith, p.0, q.0), λ k m. q.1 k (p.1 k m))

-- walks are counted one by one
pub walks_one : (i j : ℕ) (m : Move) (ms : List Move)
    → walks i j (m ∷ ms) ≡ walks i j (m ∷ []) + walks i j ms
unfolding walks
walks_one i j (Commit a) ms = omega arith
walks_one i j (Walk a b) ms = both (eqb a i && eqb b j) (walks i j ms)
  where
    both : (t : Bool) (x : ℕ) → cond t (suc x) x ≡ cond t 1 0 + x
    both true x = omega arith
    both false x = omega arith

module _
    {every : List PlainEntry} (few : length every < capacity) (i j : ℕ) (low : i < huts)
    (lt : j < huts) (apart : Apart i j) where
  -- one walk brings all, or 1,024 records
  walk-brings : (n : Net) → Holds every n → Got (histories n i) (histories (exchange n i j) j)
      ⊎ (length (histories n j) + MAX_LETTER_ENTRIES ≤ length (histories (exchange n i j) j))
  walk-brings n I =
      elim (cases_lt MAX_LETTER_ENTRIES (length (lacking n i j))) [
        | inl more ↦
            let first =
            letter-first (length (committed_in (n.hut j))) (vector_in (n.hut j)) (n.hut i) in
            let long : length (letter_to n i j) ≡ MAX_LETTER_ENTRIES =
            ap length first ∙ length-take MAX_LETTER_ENTRIES (lacking n i j) ∙ omega (arith, more) in
            let is =
            ap (λ (k : Kept). length (history_of k))
            (exchange_reader n i j low lt (apart_turned i j apart)) in
            inr (omega (
              arith,
              is,
              long,
              taken_length (letter_to n i j) (n.hut j)
                  (letter-whole n I few i j apart).0,
            ))
        | inr le ↦
            inl (all (exchange-left i j low lt n I few apart ∙ drop_all MAX_LETTER_ENTRIES (lacking n i j) le))
      ]
    where
      all : lacking (exchange n i j) i j ≡ [] → Got (histories n i) (histories (exchange n i j) j)
      all q =
          let b = move_becomes (Walk i j) n I in
          let here =
          got_older (exchange n i j) b.holds i (histories n i) (move_older (Walk i j) n i) in
          elim (next (exchange n i j) b.holds few i j) [
            | inl p ↦
                got_trans (histories n i) (histories (exchange n i j) i)
                (histories (exchange n i j) j) here p.1
            | inr f ↦ absurd (front_not_nil f.w [] f.ws (sym q ∙ f.is))
          ]

  move-brings : (m : Move) (n : Net) → Holds every n → Got (histories n i) (histories (move m n) j)
      ⊎ (length (histories n j) + walks i j (m ∷ []) * MAX_LETTER_ENTRIES ≤ length (histories (move m n) j))
  unfolding walks
  move-brings (Commit a) n I = inr (longer (Commit a) n)
    where
      longer : (m : Move) (n : Net) → length (histories n j) + 0 ≤ length (histories (move m n) j)
      longer m n =
          let o =
          move_older m n j in omega (arith, ap length o.1, length-append o.0 (histories n j))
  move-brings (Walk a b) n I =
      cond_by (λ (x : ℕ). Got (histories n i) (histories (move (Walk a b) n) j)
      ⊎ (length (histories n j) + x * MAX_LETTER_ENTRIES ≤ length (histories (move (Walk a b) n) j)))
      (eqb a i && eqb b j) 1 0
      (λ t.
      let s = and_has (eqb a i) (eqb b j) t in
      subst (λ (x : ℕ). Got (histories n i) (histories (exchange n x b) j)
      ⊎ (length (histories n j) + MAX_LETTER_ENTRIES ≤ length (histories (exchange n x b) j)))
      (sym (eqb→eq a i s.0))
      (subst (λ (y : ℕ). Got (histories n i) (histories (exchange n i y) j)
      ⊎ (length (histories n j) + MAX_LETTER_ENTRIES ≤ length (histories (exchange n i y) j)))
      (sym (eqb→eq b j s.1))
      (walk-brings n I)))
      (λ _. let o = move_older (Walk a b) n j in inr
      (omega (arith, ap length o.1, length-append o.0 (histories n j))))

  moves-bring :
      (ms : List Move) (n : Net) → Holds every n → (rs : List PlainRecord)
      → Older rs (histories n i)
      → Got rs (histories (moved ms n) j)
      ⊎ (length (histories n j) + walks i j ms * MAX_LETTER_ENTRIES ≤ length (histories (moved ms n) j))
  unfolding moved walks
  moves-bring [] n I rs o = inr (omega arith)
  moves-bring (m ∷ ms) n I rs o =
      elim (move-brings m n I) [
        | inl g ↦
            let all = moved_becomes ms (move m n) next_holds in
            let later =
            got_older (moved ms (move m n)) all.holds j (histories (move m n) j)
            (moved_older ms (move m n) j) in
            inl (got_trans rs (histories (move m n) j) (histories (moved ms (move m n)) j)
            (got_trans rs (histories n i) (histories (move m n) j) (got_older n I i rs o) g) later)
        | inr l ↦ elim (moves-bring ms (move m n) next_holds rs
            (older_trans rs (histories n i) (histories (move m n) i) o (move_older m n i))) [
              | inl g ↦ inl g
              | inr r ↦ inr (omega (arith, l, r, walks_one i j m ms))
            ]
      ]
    where
      next_holds : Holds every (move m n)
      next_holds = (move_becomes m n I).holds

-- all that is known, whatever other walks there are
pub walks-got :
    {every : List PlainEntry} → length every < capacity → (count : ℕ)
    → 2 * length every < count * MAX_LETTER_ENTRIES → (i j : ℕ) → i < huts → j < huts → (ms : List Move)
    → (Apart i j → count ≤ walks i j ms)
    → (n : Net) → Holds every n → Got (histories n i) (histories (moved ms n) j)
walks-got {every} few count much i j low lt ms enough n I =
    by_same i j (λ p. subst (λ (x : ℕ). Got (histories n i) (histories (moved ms n) x)) p
    (got_older (moved ms n) all i (histories n i) (moved_older ms n i)))
    (λ apart. elim (moves-bring few i j low lt apart ms n I (histories n i)
    (older_self (histories n i))) [
      | inl g ↦ g
      | inr l ↦ absurd (omega (arith, l, much, enough apart, records_few (moved ms n) all j))
    ])
  where
    all : Holds every (moved ms n)
    all = (moved_becomes ms n I).holds

pub walks_bring : Always WalksBring
walks_bring es few count much i j low lt ms enough =
    walks-got (made_fewer es few) count (omega (arith, much, made-few es)) i j low lt ms
    (λ _. enough) (after es) (after_holds es)

-- What a replica does can be replayed, and a history has two records an entry at most.
use Rattle.std.proofs.Common.{◌≡◌, ℕ, zero, suc, ◌+◌, ◌<◌, ◌≤◌, Bool, true, false, cond, not, eqb, leb, List, [], ◌∷◌, length, get_or, replicate, Some, None, Option, refl, ap, ◌∙◌, subst, inl, inr, arith, length-append}
use Rattle.std.proofs.lemmas.Bool.{cases_Bool, eq-eqb, eqb-true, not-false, or_parts, leb-false, le-leb}
use Rattle.bookings.specs.Books.{named_by, same_mark}
use Rattle.bookings.specs.Plain.{PlainMark, PlainKind, PlainEntry}
use Rattle.bookings.proofs.Find.{same_is}
use Rattle.bookings.specs.declared.book.TheConstants.{CAPACITY}
use Rattle.bookings.specs.declared.limits.TheConstants.{HUTS}
use Rattle.entry_log.specs.Logs.{PlainLog, all_of, has, first_entry, add_tentative, into}
use Rattle.entry_log.specs.Order.{Once, times}
use Rattle.entry_log.specs.Vectors.{vector_of, covers, covers_from, no_stamps}
use Rattle.entry_log.proofs.Putting.{times-append, times-into, has_none, none_has, same_self, one_more, none_more}
use Rattle.entry_log.proofs.Settling.{settled_once}
use Rattle.replica.specs.Model.{State, entry_made, next_mark, no_room, names_unknown, make_refusal, take_tentative_refusal, take_committed_refusal}
use Rattle.replica.proofs.Committing.{known_length, new_length}
use Rattle.replica.proofs.Making.{above_new}
use Rattle.replica.proofs.Taking.{tentative-length}
use Rattle.journal.specs.History.{PlainRecord, Tentative, Committed, log_of, state_with}
use Rattle.journal.specs.Keeping.{most_records}
use Rattle.journal.specs.Records.{replay_refusal, Stands}
use Rattle.replica.specs.declared.head.TheConstants.{LAST_STAMP}

-- a refusal that comes first is not made
past : (b : Bool) (n : ℕ) (rest : Option ℕ) → cond b (Some n) rest ≡ None → (b ≡ false) × (rest ≡ None)
past true n rest q = absurd (let z : ◌≡◌ {A = ℕ} 0 1 = cc in omega arith)
past false n rest q = (refl, q)

pass : (b : Bool) (n : ℕ) (rest : Option ℕ) → b ≡ false → rest ≡ None → cond b (Some n) rest ≡ None
pass b n rest off q = rw off q

-- every vector covers no stamps
covers-zeros : (v : List ℕ) (h n k : ℕ) → covers_from v (replicate k 0) h n ≡ true
covers-zeros v h zero k = refl
covers-zeros v h (suc n) k = rw (zero-at k h, le-leb 0 (get_or v h 0) (omega arith)) (covers-zeros v (suc h) n k)
  where
    zero-at : (k h : ℕ) → ◌≡◌ {A = ℕ} (get_or (replicate k 0) h 0) 0
    zero-at zero h = refl
    zero-at (suc k) zero = refl
    zero-at (suc k) (suc h) = zero-at k h

covers_none : (v : List ℕ) → covers v no_stamps ≡ true
unfolding covers no_stamps
covers_none v = covers-zeros v 0 HUTS HUTS

-- a tentative entry that is new and has room
tentative-stands : (e : PlainEntry) (s : State) → has e.mark (all_of s.log) ≡ false → no_room s e.mark.stamp ≡ false → replay_refusal (Tentative e) s ≡ None
tentative-stands e s new room =
    pass (has e.mark (all_of s.log)) 3 _ new
    (pass (not (covers (vector_of (all_of s.log)) no_stamps)) 5 _ (ap not (covers_none (vector_of (all_of s.log)))) (pass (no_room s e.mark.stamp) 8 None room refl))

pub make-stands : (kind : PlainKind) (s : State) → make_refusal kind s ≡ None → replay_refusal (Tentative (entry_made kind s)) s ≡ None
make-stands kind s q =
    tentative-stands (entry_made kind s) s (above_new (next_mark s) (all_of s.log) (omega arith))
    (past (no_room s (next_mark s).stamp) 8 (cond (names_unknown (named_by kind) s) (Some 9) None) q).0

module _ (e : PlainEntry) (stood : List ℕ) (s : State) (q : take_tentative_refusal e stood s ≡ None) where
  after_known : (has e.mark (all_of s.log) ≡ false) × (cond {A = Option ℕ} (not (covers (vector_of (all_of s.log)) stood)) (Some 5) (cond (no_room s e.mark.stamp) (Some 8) None) ≡ None)
  after_known = past (has e.mark (all_of s.log)) 3 _ q

  tentative_room : no_room s e.mark.stamp ≡ false
  tentative_room = (past (no_room s e.mark.stamp) 8 None (past (not (covers (vector_of (all_of s.log)) stood)) 5 _ after_known.1).1).0

  pub taken-stands : replay_refusal (Tentative e) s ≡ None
  taken-stands = tentative-stands e s after_known.0 tentative_room

-- a committed entry: it is not committed yet, and is known or has room
module _ (place : ℕ) (m : PlainMark) (s : State) (q : take_committed_refusal place m s ≡ None) where
  after-committed : (has m s.log.committed ≡ false) × (cond {A = Option ℕ} (not (eqb place (length s.log.committed))) (Some 4) (cond (has m s.log.tentative) None (cond (no_room s m.stamp) (Some 8) None)) ≡ None)
  after-committed = past (has m s.log.committed) 3 _ q

  after-place : (not (eqb place (length s.log.committed)) ≡ false) × (cond {A = Option ℕ} (has m s.log.tentative) None (cond (no_room s m.stamp) (Some 8) None) ≡ None)
  after-place = past (not (eqb place (length s.log.committed))) 4 _ after-committed.1

  pub settled-stands : take_committed_refusal (length s.log.committed) m s ≡ None
  settled-stands = subst (λ (p : ℕ). take_committed_refusal p m s ≡ None) (eqb-true place (length s.log.committed) (not-false (eqb place (length s.log.committed)) after-place.0)) q

pub commit_stands :
    (e : PlainEntry) (s : State) → Once (all_of s.log) → first_entry s.log.tentative ≡ Some e → replay_refusal (Committed e) s ≡ None
commit_stands e s once first =
    pass (has e.mark s.log.committed) 3 _ (none_has e.mark s.log.committed (omega (arith, once e.mark, times-append e.mark s.log.committed s.log.tentative, is-there s.log.tentative first)))
    (pass (not (eqb (length s.log.committed) (length s.log.committed))) 4 _ (ap not (eq-eqb (length s.log.committed) (length s.log.committed) refl))
    (known s.log.tentative first))
  where
    is-there : (ts : List PlainEntry) → first_entry ts ≡ Some e → 1 ≤ times e.mark ts
    is-there [] q = absurd (let z : ◌≡◌ {A = ℕ} 0 1 = cc in omega arith)
    is-there (t ∷ ts) q =
        let same : t ≡ e = cc in
        omega (arith, one_more e.mark t.mark (ap (λ (x : PlainEntry). same_mark e.mark x.mark) same ∙ same_self e.mark))

    known : (ts : List PlainEntry) → first_entry ts ≡ Some e → cond {A = Option ℕ} (has e.mark ts) None (cond (no_room s e.mark.stamp) (Some 8) None) ≡ None
    known ts q = elim (cases_Bool (has e.mark ts)) [ inl t ↦ rw t refl | inr f ↦ absurd (omega (arith, is-there ts q, has_none e.mark ts f)) ]

-- COUNTING

into_once : (e : PlainEntry) (l : PlainLog) → Once (all_of l) → has e.mark (all_of l) ≡ false → Once (all_of (add_tentative e l))
into_once e l once new m =
    let before = once m in
    let split = times-append m l.committed l.tentative in
    let joined = times-append m l.committed (into e l.tentative) in
    let put = times-into m e l.tentative in
    elim (cases_Bool (same_mark m e.mark)) [
      | inl t ↦ omega (arith, before, split, joined, put, one_more m e.mark t, none-there m t)
      | inr f ↦ omega (arith, before, split, joined, put, none_more m e.mark f)
    ]
  where
    none-there : (m : PlainMark) → same_mark m e.mark ≡ true → times m (all_of l) ≡ 0
    none-there m t = let same : m ≡ e.mark = same_is m e.mark t in ap (λ (n : PlainMark). times n (all_of l)) same ∙ has_none e.mark (all_of l) new

pub history_once : (hut : ℕ) (rs : List PlainRecord) → Stands hut rs → Once (all_of (log_of rs))
history_once hut [] ok = λ m. omega arith
history_once hut (Tentative e ∷ rs) ok = into_once e (log_of rs) (history_once hut rs ok.2) (after_known e no_stamps (state_with hut rs) ok.1).0
history_once hut (Committed e ∷ rs) ok =
    settled_once (log_of rs).committed (log_of rs).tentative e (history_once hut rs ok.2) (after-committed (length (log_of rs).committed) e.mark (state_with hut rs) ok.1).0

-- each record is of an entry that is in the log, or that is committed
records_counted : (hut : ℕ) (rs : List PlainRecord) → Stands hut rs → length rs ≤ length (log_of rs).committed + length (all_of (log_of rs))
records_counted hut [] ok = omega arith
records_counted hut (Tentative e ∷ rs) ok = omega (arith, records_counted hut rs ok.2, tentative-length e (log_of rs))
records_counted hut (Committed e ∷ rs) ok =
    let before = records_counted hut rs ok.2 in
    let more = length-append (log_of rs).committed (e ∷ []) in
    elim (cases_Bool (has e.mark (log_of rs).tentative)) [
      | inl t ↦ omega (arith, before, more, known_length e (log_of rs) t (history_once hut rs ok.2))
      | inr f ↦ omega (arith, before, more, new_length e (log_of rs) f)
    ]

room_below : (s : State) (stamp : ℕ) → no_room s stamp ≡ false → length (all_of s.log) < CAPACITY
room_below s stamp room = leb-false CAPACITY (length (all_of s.log)) (or_parts (leb CAPACITY (length (all_of s.log))) (leb LAST_STAMP stamp) room).0

-- no record takes an entry out of the log
log_grows : (hut : ℕ) (r : PlainRecord) (rs : List PlainRecord) → Stands hut rs → length (all_of (log_of rs)) ≤ length (all_of (log_of (r ∷ rs)))
log_grows hut (Tentative e) rs ok = omega (arith, tentative-length e (log_of rs))
log_grows hut (Committed e) rs ok =
    elim (cases_Bool (has e.mark (log_of rs).tentative)) [
      | inl t ↦ omega (arith, known_length e (log_of rs) t (history_once hut rs ok))
      | inr f ↦ omega (arith, new_length e (log_of rs) f)
    ]

-- a committed entry that was not known had room
unknown_room : (e : PlainEntry) (s : State) → has e.mark s.log.tentative ≡ false → replay_refusal (Committed e) s ≡ None → no_room s e.mark.stamp ≡ false
unknown_room e s new q = (past (no_room s e.mark.stamp) 8 None (unknown new (after-place (length s.log.committed) e.mark s q).1)).0
  where
    unknown : has e.mark s.log.tentative ≡ false → cond {A = Option ℕ} (has e.mark s.log.tentative) None (cond (no_room s e.mark.stamp) (Some 8) None) ≡ None → cond {A = Option ℕ} (no_room s e.mark.stamp) (Some 8) None ≡ None
    unknown f after = rw f at after

-- a history that can stand has no more entries than a replica can have
pub log_bounded : (hut : ℕ) (rs : List PlainRecord) → Stands hut rs → length (all_of (log_of rs)) ≤ CAPACITY
log_bounded hut [] ok = omega arith
log_bounded hut (Tentative e ∷ rs) ok =
    let room = tentative_room e no_stamps (state_with hut rs) ok.1 in
    omega (arith, tentative-length e (log_of rs), room_below (state_with hut rs) e.mark.stamp room)
log_bounded hut (Committed e ∷ rs) ok =
    elim (cases_Bool (has e.mark (log_of rs).tentative)) [
      | inl t ↦ omega (arith, log_bounded hut rs ok.2, known_length e (log_of rs) t (history_once hut rs ok.2))
      | inr f ↦ omega (arith, new_length e (log_of rs) f, room_below (state_with hut rs) e.mark.stamp (unknown_room e (state_with hut rs) f ok.1))
    ]

-- there is room for a record that can stand
pub records_few :
    (hut : ℕ) (r : PlainRecord) (rs : List PlainRecord) → Stands hut rs → replay_refusal r (state_with hut rs) ≡ None → length (all_of (log_of (r ∷ rs))) ≤ CAPACITY → length rs < most_records
records_few hut (Tentative e) rs ok q few =
    let room = tentative_room e no_stamps (state_with hut rs) q in
    omega (arith, records_counted hut rs ok, length-append (log_of rs).committed (log_of rs).tentative, room_below (state_with hut rs) e.mark.stamp room)
records_few hut (Committed e) rs ok q few =
    let counted = records_counted hut rs ok in
    let parts = length-append (log_of rs).committed (log_of rs).tentative in
    elim (cases_Bool (has e.mark (log_of rs).tentative)) [
      | inl t ↦ omega (arith, counted, parts, few, log_grows hut (Committed e) rs ok, has-length e.mark (log_of rs).tentative t)
      | inr f ↦ omega (arith, counted, parts, room_below (state_with hut rs) e.mark.stamp (unknown_room e (state_with hut rs) f q))
    ]
  where
    has-length : (m : PlainMark) (ts : List PlainEntry) → has m ts ≡ true → 1 ≤ length ts
    has-length m [] t = absurd (let z : ◌≡◌ {A = ℕ} 0 1 = cc in omega arith)
    has-length m (x ∷ ts) t = omega arith

-- What it means that a call is not refused, and when it is not.
use Rattle.std.proofs.Common.{◌≡◌, ℕ, ◌<◌, Bool, true, false, cond, not, T, eqb, leb, List, length, Some, None, Option, sym, refl, ◌∙◌, subst, inl, inr, arith, le→leb, eqb→eq, leb→le}
use lib.Dec.{not_T}
use Rattle.std.proofs.lemmas.Bool.{cases_lt, eq-eqb}
use Rattle.bookings.specs.Books.{named_by}
use Rattle.bookings.specs.Plain.{PlainEntry, PlainKind, PlainMark}
use Rattle.journal.specs.History.{Kept, unless}
use Rattle.entry_log.specs.Logs.{all_of, has}
use Rattle.entry_log.specs.Vectors.{covers, vector_of}
use Rattle.replica.specs.Model.{State, capacity, is_full, last_stamp, make_refusal, names_unknown, next_mark, no_room, take_committed_refusal, take_tentative_refusal}
use Rattle.network.proofs.Marks.{Fresh, fresh-has, has-fresh}
use Rattle.network.proofs.Tests.{by_test, cond_no, cond_yes, not_not, or_either, or_first, or_second, true_T}

-- a refusal that comes first is not made
past : (b : Bool) (n : ℕ) (rest : Option ℕ) → cond b (Some n) rest ≡ None → (T b → ⊥) × (rest ≡ None)
past true n rest q = absurd (let z : ◌≡◌ {A = ℕ} 0 1 = cc in omega arith)
past false n rest q = (λ t. t, q)

pass : (b : Bool) (n : ℕ) (rest : Option ℕ) → (T b → ⊥) → rest ≡ None → cond b (Some n) rest ≡ None
pass true n rest never q = absurd (never tt)
pass false n rest never q = q

-- there is room for one entry more, and its stamp may be used
abbrev pub Room : State → ℕ → Type 0
Room s stamp = (length (all_of s.log) < capacity) × (stamp < last_stamp)

less_from : (a b : ℕ) → (T (leb a b) → ⊥) → b < a
less_from a b never = elim (cases_lt b a) [ inl l ↦ l | inr l ↦ absurd (never (le→leb a b l)) ]

room_from : (s : State) (stamp : ℕ) → (T (no_room s stamp) → ⊥) → Room s stamp
room_from s stamp never = (
  less_from capacity (length (all_of s.log)) (λ t. never (or_first (is_full s) (leb last_stamp stamp) t)),
  less_from last_stamp stamp (λ t. never (or_second (is_full s) (leb last_stamp stamp) t)),
)

room_tells : (s : State) (stamp : ℕ) → Room s stamp → T (no_room s stamp) → ⊥
room_tells s stamp r t =
    or_either (is_full s) (leb last_stamp stamp) t (λ u. omega (arith, r.0, leb→le capacity (length (all_of s.log)) u)) (λ u. omega (arith, r.1, leb→le last_stamp stamp u))

-- an entry is made: its stamp may be used, and the mark that it names is known
named_known : (o : Option PlainMark) (s : State) → (T (names_unknown o s) → ⊥) → (m : PlainMark) → o ≡ Some m → T (has m (all_of s.log))
named_known None s never m q = absurd (let z : ◌≡◌ {A = ℕ} 0 1 = cc in omega arith)
named_known (Some n) s never m q =
    let same : n ≡ m = cc in
    subst (λ (x : PlainMark). T (has x (all_of s.log))) same (by_test (has n (all_of s.log)) (λ t. t) (λ f. absurd (never (not_T (has n (all_of s.log)) f))))

pub make_allowed :
    (kind : PlainKind) (s : State) → make_refusal kind s ≡ None
    → ((next_mark s).stamp < last_stamp) × ((m : PlainMark) → named_by kind ≡ Some m → T (has m (all_of s.log)))
make_allowed kind s q =
    let a = past (no_room s (next_mark s).stamp) 8 (cond (names_unknown (named_by kind) s) (Some 9) None) q in
    let b = past (names_unknown (named_by kind) s) 9 None a.1 in
    ((room_from s (next_mark s).stamp a.0).1, named_known (named_by kind) s b.0)

-- a tentative entry is taken: it is new, and all that stood before it is known
pub tentative_allowed :
    (e : PlainEntry) (stood : List ℕ) (s : State) → take_tentative_refusal e stood s ≡ None
    → Fresh e.mark (all_of s.log) × (covers (vector_of (all_of s.log)) stood ≡ true)
tentative_allowed e stood s q =
    let c = covers (vector_of (all_of s.log)) stood in
    let room : Option ℕ = cond (no_room s e.mark.stamp) (Some 8) None in
    let a = past (has e.mark (all_of s.log)) 3 (cond (not c) (Some 5) room) q in
    let b = past (not c) 5 room a.1 in
    (has-fresh e.mark (all_of s.log) a.0, not_not c b.0)

pub tentative_allows :
    (e : PlainEntry) (stood : List ℕ) (s : State) → Fresh e.mark (all_of s.log) → covers (vector_of (all_of s.log)) stood ≡ true → Room s e.mark.stamp
    → take_tentative_refusal e stood s ≡ None
tentative_allows e stood s new known room =
    pass (has e.mark (all_of s.log)) 3 _ (fresh-has e.mark (all_of s.log) new)
    (pass (not (covers (vector_of (all_of s.log)) stood)) 5 _ (subst (λ (b : Bool). T (not b) → ⊥) (sym known) (λ t. t))
    (pass (no_room s e.mark.stamp) 8 None (room_tells s e.mark.stamp room) refl))

-- a committed entry is taken: it is not yet committed, and comes next
pub committed_allowed :
    (place : ℕ) (m : PlainMark) (s : State) → take_committed_refusal place m s ≡ None → Fresh m s.log.committed × (place ≡ length s.log.committed)
committed_allowed place m s q =
    let next = eqb place (length s.log.committed) in
    let room : Option ℕ = cond (has m s.log.tentative) None (cond (no_room s m.stamp) (Some 8) None) in
    let a = past (has m s.log.committed) 3 (cond (not next) (Some 4) room) q in
    let b = past (not next) 4 room a.1 in
    (has-fresh m s.log.committed a.0, eqb→eq place (length s.log.committed) (true_T next (not_not next b.0)))

pub committed_allows :
    (place : ℕ) (m : PlainMark) (s : State) → Fresh m s.log.committed → place ≡ length s.log.committed → (Fresh m s.log.tentative → Room s m.stamp)
    → take_committed_refusal place m s ≡ None
committed_allows place m s new next room =
    pass (has m s.log.committed) 3 _ (fresh-has m s.log.committed new)
    (pass (not (eqb place (length s.log.committed))) 4 _ (subst (λ (b : Bool). T (not b) → ⊥) (sym (eq-eqb place (length s.log.committed) next)) (λ t. t))
    (by_test (has m s.log.tentative) (λ t. cond_yes (has m s.log.tentative) None _ t)
    (λ f. cond_no (has m s.log.tentative) None _ f ∙ pass (no_room s m.stamp) 8 None (room_tells s m.stamp (room (has-fresh m s.log.tentative f))) refl)))

-- what holds of both ways holds of a call that may be refused
pub unless_by : (Q : Kept → Type 0) (refusal : Option ℕ) (was is : Kept) → (refusal ≡ None → Q is) → Q was → Q (unless refusal was is)
unless_by Q None was is f g = f refl
unless_by Q (Some number) was is f g = g

-- An entry is put into a list, or taken out: what the list then has, and that it stays sorted.
use Rattle.std.proofs.Common.{◌≡◌, ℕ, zero, suc, ◌+◌, ◌<◌, ◌≤◌, true, false, cond, List, [], ◌∷◌, ◌++◌, length, get_or, take, drop, refl, ap, ⊎_elim, arith}
use Rattle.std.proofs.lemmas.Bool.{and_parts, and_from, or_parts, or_from, cond_both, cases_Bool, eq-eqb}
use Rattle.std.specs.List.{insert, remove}
use Rattle.bookings.specs.Books.{same_mark}
use Rattle.bookings.specs.Plain.{PlainMark, PlainEntry}
use Rattle.entry_log.specs.Order.{before, all_behind, ascends, times}
use Rattle.entry_log.specs.Logs.{has, without, spot, into}
use Rattle.entry_log.proofs.Marks.{before_else, behind_through}

-- put in at its spot
pub into-spot : (e : PlainEntry) (es : List PlainEntry) → into e es ≡ insert es (spot e.mark es) e
into-spot e [] = refl
into-spot e (f ∷ fs) =
    ⊎_elim (λ t. rw t refl) (λ t. rw t (ap (λ l. f ∷ l) (into-spot e fs))) (cases_Bool (before e.mark f.mark))

behind_into : (m : PlainMark) (e : PlainEntry) (es : List PlainEntry) → all_behind m es ≡ true → before m e.mark ≡ true → all_behind m (into e es) ≡ true
behind_into m e [] all here = and_from _ _ here refl
behind_into m e (f ∷ fs) all here =
    let parts = and_parts (before m f.mark) (all_behind m fs) all in
    cond_both (before e.mark f.mark) (e ∷ f ∷ fs) (f ∷ into e fs) (λ l. all_behind m l ≡ true) (λ _. and_from _ _ here all)
    (λ _. and_from _ _ parts.0 (behind_into m e fs parts.1 here))

pub into-ascends : (e : PlainEntry) (es : List PlainEntry) → ascends es ≡ true → has e.mark es ≡ false → ascends (into e es) ≡ true
into-ascends e [] sorted new = refl
into-ascends e (f ∷ fs) sorted new =
    let parts = and_parts (all_behind f.mark fs) (ascends fs) sorted in
    let news = or_parts (same_mark e.mark f.mark) (has e.mark fs) new in
    cond_both (before e.mark f.mark) (e ∷ f ∷ fs) (f ∷ into e fs) (λ l. ascends l ≡ true)
    (λ is. and_from _ _ (and_from _ _ is (behind_through e.mark f.mark fs is parts.0)) sorted)
    (λ is. and_from _ _ (behind_into f.mark e fs parts.0 (before_else e.mark f.mark is news.0)) (into-ascends e fs parts.1 news.1))

-- how often a mark stands
pub times-append : (m : PlainMark) (xs ys : List PlainEntry) → times m (xs ++ ys) ≡ times m xs + times m ys
times-append m [] ys = omega arith
times-append m (x ∷ xs) ys = let rest = times-append m xs ys in omega arith

pub times-into : (m : PlainMark) (e : PlainEntry) (es : List PlainEntry) → times m (into e es) ≡ times m (e ∷ es)
times-into m e [] = refl
times-into m e (f ∷ fs) =
    let rest = times-into m e fs in
    cond_both (before e.mark f.mark) (e ∷ f ∷ fs) (f ∷ into e fs) (λ l. times m l ≡ times m (e ∷ f ∷ fs)) (λ _. refl) (λ _. omega arith)

pub has_none : (m : PlainMark) (es : List PlainEntry) → has m es ≡ false → times m es ≡ 0
has_none m [] new = refl
has_none m (e ∷ es) new = let parts = or_parts (same_mark m e.mark) (has m es) new in rw (parts.0, has_none m es parts.1) refl

pub same_self : (m : PlainMark) → same_mark m m ≡ true
same_self m = and_from _ _ (eq-eqb m.stamp m.stamp refl) (eq-eqb m.hut m.hut refl)

-- a mark that is the same counts as one
pub one_more : (m n : PlainMark) → same_mark m n ≡ true → ◌≡◌ {A = ℕ} (cond (same_mark m n) 1 0) 1
one_more m n same = rw same refl

pub none_more : (m n : PlainMark) → same_mark m n ≡ false → ◌≡◌ {A = ℕ} (cond (same_mark m n) 1 0) 0
none_more m n other = rw other refl

pub none_has : (m : PlainMark) (es : List PlainEntry) → times m es ≡ 0 → has m es ≡ false
none_has m [] none = refl
none_has m (e ∷ es) none =
    ⊎_elim (λ t. absurd (omega (arith, one_more m e.mark t))) (λ t. rw t (none_has m es (omega arith)))
    (cases_Bool (same_mark m e.mark))

-- a mark that stands at a place stands at least once
pub some_times : (m : PlainMark) (es : List PlainEntry) (p : ℕ) (d : PlainEntry) → p < length es → same_mark m (get_or es p d).mark ≡ true → 1 ≤ times m es
some_times m [] p d h same = absurd (omega arith)
some_times m (e ∷ es) zero d h same = rw same (omega arith)
some_times m (e ∷ es) (suc p) d h same = omega (arith, some_times m es p d (omega arith) same)

-- taken out
pub without_none : (m : PlainMark) (es : List PlainEntry) → has m es ≡ false → without m es ≡ es
without_none m [] new = refl
without_none m (e ∷ es) new =
    let parts = or_parts (same_mark m e.mark) (has m es) new in rw parts.0 (ap (λ l. e ∷ l) (without_none m es parts.1))

pub without_removed :
    (m : PlainMark) (es : List PlainEntry) (p : ℕ) (d : PlainEntry) → times m es ≤ 1 → p < length es → same_mark m (get_or es p d).mark ≡ true → without m es ≡ remove es p
without_removed m [] p d once h is = absurd (omega arith)
without_removed m (e ∷ es) zero d once h is =
    let none : times m es ≡ 0 = omega (arith, one_more m e.mark is) in
    rw is (without_none m es (none_has m es none))
without_removed m (e ∷ es) (suc p) d once h is =
    let later = some_times m es p d (omega arith) is in
    ⊎_elim (λ t. absurd (omega (arith, one_more m e.mark t)))
    (λ t. rw t (ap (λ l. e ∷ l) (without_removed m es p d (omega arith) (omega arith) is)))
    (cases_Bool (same_mark m e.mark))

pub times-without : (n m : PlainMark) (es : List PlainEntry) → times n (without m es) ≤ times n es
times-without n m [] = omega arith
times-without n m (e ∷ es) =
    let rest = times-without n m es in
    cond_both (same_mark m e.mark) (without m es) (e ∷ without m es) (λ l. times n l ≤ times n (e ∷ es)) (λ _. omega arith) (λ _. omega arith)

pub times_gone : (m : PlainMark) (es : List PlainEntry) → times m (without m es) ≡ 0
times_gone m [] = refl
times_gone m (e ∷ es) =
    let rest = times_gone m es in
    cond_both (same_mark m e.mark) (without m es) (e ∷ without m es) (λ l. times m l ≡ 0) (λ _. rest) (λ other. rw other (omega arith))

behind_without : (n m : PlainMark) (es : List PlainEntry) → all_behind n es ≡ true → all_behind n (without m es) ≡ true
behind_without n m [] all = refl
behind_without n m (e ∷ es) all =
    let parts = and_parts (before n e.mark) (all_behind n es) all in
    cond_both (same_mark m e.mark) (without m es) (e ∷ without m es) (λ l. all_behind n l ≡ true) (λ _. behind_without n m es parts.1)
    (λ _. and_from _ _ parts.0 (behind_without n m es parts.1))

pub without-ascends : (m : PlainMark) (es : List PlainEntry) → ascends es ≡ true → ascends (without m es) ≡ true
without-ascends m [] sorted = refl
without-ascends m (e ∷ es) sorted =
    let parts = and_parts (all_behind e.mark es) (ascends es) sorted in
    cond_both (same_mark m e.mark) (without m es) (e ∷ without m es) (λ l. ascends l ≡ true) (λ _. without-ascends m es parts.1)
    (λ _. and_from _ _ (behind_without e.mark m es parts.0) (without-ascends m es parts.1))

-- a mark that a list does not have, its end does not have
pub has-drop : (m : PlainMark) (n : ℕ) (es : List PlainEntry) → has m es ≡ false → has m (drop n es) ≡ false
has-drop m zero es new = new
has-drop m (suc n) [] new = refl
has-drop m (suc n) (e ∷ es) new = has-drop m n es (or_parts (same_mark m e.mark) (has m es) new).1

-- a mark that no entry of a list has
pub has_nowhere : (m : PlainMark) (es : List PlainEntry) → ((k : ℕ) (d : PlainEntry) → k < length es → same_mark m (get_or es k d).mark ≡ false) → has m es ≡ false
has_nowhere m [] none = refl
has_nowhere m (e ∷ es) none = rw (none 0 e (omega arith)) (has_nowhere m es (λ k d h. none (suc k) d (omega arith)))

pub has-take : (m : PlainMark) (n : ℕ) (es : List PlainEntry) → has m es ≡ false → has m (take n es) ≡ false
has-take m zero es new = refl
has-take m (suc n) [] new = refl
has-take m (suc n) (e ∷ es) new = let parts = or_parts (same_mark m e.mark) (has m es) new in rw parts.0 (has-take m n es parts.1)

pub has_both : (m : PlainMark) (xs ys : List PlainEntry) → has m xs ≡ false → has m ys ≡ false → has m (xs ++ ys) ≡ false
has_both m [] ys front back = back
has_both m (x ∷ xs) ys front back = let parts = or_parts (same_mark m x.mark) (has m xs) front in rw parts.0 (has_both m xs ys parts.1 back)

-- taking out an entry that stands once leaves one fewer
pub length_without : (m : PlainMark) (es : List PlainEntry) → has m es ≡ true → times m es ≤ 1 → length (without m es) + 1 ≡ length es
length_without m [] there few = absurd (let z : ◌≡◌ {A = ℕ} 0 1 = cc in omega arith)
length_without m (e ∷ es) there few =
    ⊎_elim
    (λ same.
    let none : times m es ≡ 0 = omega (arith, one_more m e.mark same) in
    let rest = ap length (without_none m es (none_has m es none)) in
    rw same (omega arith))
    (λ other.
    let rest = length_without m es (rw other at there) (omega (arith, none_more m e.mark other)) in
    rw other (omega arith))
    (cases_Bool (same_mark m e.mark))

pub has_some : (m : PlainMark) (es : List PlainEntry) → has m es ≡ true → 1 ≤ times m es
has_some m [] there = absurd (let z : ◌≡◌ {A = ℕ} 0 1 = cc in omega arith)
has_some m (e ∷ es) there =
    ⊎_elim (λ same. omega (arith, one_more m e.mark same)) (λ other. omega (arith, has_some m es (rw other at there))) (cases_Bool (same_mark m e.mark))

pub has_parts : (m : PlainMark) (xs ys : List PlainEntry) → has m (xs ++ ys) ≡ false → (has m xs ≡ false) × (has m ys ≡ false)
has_parts m [] ys new = (refl, new)
has_parts m (x ∷ xs) ys new =
    let parts = or_parts (same_mark m x.mark) (has m (xs ++ ys)) new in
    let rest = has_parts m xs ys parts.1 in
    (or_from _ _ parts.0 rest.0, rest.1)

-- a mark that stands in a list and not in its first part stands in the second
pub has_second : (m : PlainMark) (xs ys : List PlainEntry) → has m (xs ++ ys) ≡ true → has m xs ≡ false → has m ys ≡ true
has_second m [] ys there new = there
has_second m (x ∷ xs) ys there new = let parts = or_parts (same_mark m x.mark) (has m xs) new in has_second m xs ys (rw parts.0 at there) parts.1

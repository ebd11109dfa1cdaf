-- The highest stamps of a list, as entries come.
use Rattle.std.proofs.Common.{◌≡◌, ℕ, ◌<◌, ◌≤◌, max, true, false, cond, eqb, ◌≢◌, List, [], ◌∷◌, ◌++◌, length, get_or, sym, refl, ap, ◌∙◌, ⊎_elim, arith, length-set}
use Rattle.std.proofs.lemmas.List.FromFn.{length-map-range_with_len, get_or-map-range_with_len}
use Rattle.std.proofs.lemmas.List.{same_lists, get_or_default, get_or-set_same, get_or-set_other}
use Rattle.std.proofs.lemmas.Bool.{cases_eq, cases_Bool, cond_both, eq-eqb, ne_eqb, le-ltb}
use Rattle.bookings.specs.Plain.{PlainMark, PlainEntry}
use Rattle.bookings.specs.declared.limits.TheConstants.{HUTS}
use Rattle.entry_log.specs.Logs.{top, into, has, without}
use Rattle.entry_log.proofs.Putting.{without_none}
use Rattle.bookings.proofs.Find.{same_is}
use Rattle.bookings.specs.Books.{same_mark}
use Rattle.entry_log.specs.Order.{before}
use Rattle.entry_log.specs.Vectors.{highest, vector_of, no_stamps, noted}

pub top-append : (xs ys : List PlainEntry) → top (xs ++ ys) ≡ max (top xs) (top ys)
top-append [] ys = omega arith
top-append (x ∷ xs) ys = let rest = top-append xs ys in omega arith

-- an entry with a stamp above all is put last
pub into_last : (e : PlainEntry) (es : List PlainEntry) → top es < e.mark.stamp → into e es ≡ es ++ e ∷ []
into_last e [] above = refl
into_last e (f ∷ fs) above =
    let later : before e.mark f.mark ≡ false =
    rw (le-ltb e.mark.stamp f.mark.stamp (omega arith), ne_eqb e.mark.stamp f.mark.stamp (λ same. omega arith)) refl in
    rw later (ap (λ l. f ∷ l) (into_last e fs (omega arith)))

-- the stamp of one mark, as the highest of a hut
abbrev pub stamp-at : PlainMark → ℕ → ℕ
stamp-at m h = cond (eqb m.hut h) m.stamp 0

abbrev pub one_stamp : PlainEntry → ℕ → ℕ
one_stamp e h = stamp-at e.mark h

stamp-own : (m : PlainMark) → stamp-at m m.hut ≡ m.stamp
stamp-own m = rw (eq-eqb m.hut m.hut refl) refl

pub highest-cons : (e : PlainEntry) (es : List PlainEntry) (h : ℕ) → highest (e ∷ es) h ≡ max (one_stamp e h) (highest es h)
highest-cons e es h =
    ⊎_elim (λ same. rw (eq-eqb e.mark.hut h same) refl) (λ other. rw (ne_eqb e.mark.hut h other) (omega arith)) (cases_eq e.mark.hut h)

pub highest-append : (xs ys : List PlainEntry) (h : ℕ) → highest (xs ++ ys) h ≡ max (highest xs h) (highest ys h)
highest-append [] ys h = omega arith
highest-append (x ∷ xs) ys h = let rest = highest-append xs ys h in omega (arith, highest-cons x (xs ++ ys) h, highest-cons x xs h)

-- the vector, hut by hut
pub vector_at : (es : List PlainEntry) (h : ℕ) → h < HUTS → get_or (vector_of es) h 0 ≡ highest es h
unfolding vector_of
vector_at es h in-huts = get_or-map-range_with_len (highest es) 0 HUTS h h 0 in-huts (omega arith)

pub vector_long : (es : List PlainEntry) → length (vector_of es) ≡ HUTS
unfolding vector_of
vector_long es = length-map-range_with_len (highest es) 0 HUTS

pub vector_none : no_stamps ≡ vector_of []
unfolding vector_of no_stamps
vector_none = refl

-- two vectors that are alike hut by hut
vectors_same : (v w : List ℕ) → length v ≡ HUTS → length w ≡ HUTS → ((h : ℕ) → h < HUTS → get_or v h 0 ≡ get_or w h 0) → v ≡ w
vectors_same v w long-v long-w each =
    same_lists v w (long-v ∙ sym long-w)
    (λ k d h. get_or_default v k d 0 h ∙ each k (omega arith) ∙ get_or_default w k 0 d (omega arith))

-- with an entry more, wherever it stands
pub vector_more :
    (es fs : List PlainEntry) (e : PlainEntry) → e.mark.hut < HUTS → ((h : ℕ) → highest fs h ≡ highest (e ∷ es) h) → noted e.mark (vector_of es) ≡ vector_of fs
vector_more es fs e in-huts more =
    vectors_same _ _ (length-set (vector_of es) e.mark.hut _ ∙ vector_long es) (vector_long fs)
    (λ h h-in.
    let was = vector_at es h h-in in
    let is = vector_at fs h h-in ∙ more h in
    ⊎_elim
    (λ same.
    let there : e.mark.hut < length (vector_of es) = omega (arith, vector_long es) in
    ap (λ k. get_or (noted e.mark (vector_of es)) k 0) (sym same)
    ∙ get_or-set_same (vector_of es) e.mark.hut _ 0 there
    ∙ let own : get_or (vector_of es) e.mark.hut 0 ≡ highest es h = vector_at es e.mark.hut in-huts ∙ ap (highest es) same in
    let new : highest (e ∷ es) h ≡ max e.mark.stamp (highest es h) = rw (eq-eqb e.mark.hut h same) refl in
    omega arith)
    (λ other.
    let apart : h ≢ e.mark.hut = λ s. other (sym s) in
    get_or-set_other (vector_of es) e.mark.hut h _ 0 apart ∙ was
    ∙ sym (is ∙ rw (ne_eqb e.mark.hut h other) refl))
    (cases_eq e.mark.hut h))

-- put in anywhere, or taken out and put in again
pub top-into : (e : PlainEntry) (es : List PlainEntry) → top (into e es) ≡ top (e ∷ es)
top-into e [] = refl
top-into e (f ∷ fs) =
    let rest = top-into e fs in
    cond_both (before e.mark f.mark) (e ∷ f ∷ fs) (f ∷ into e fs) (λ l. top l ≡ top (e ∷ f ∷ fs)) (λ _. refl) (λ _. omega arith)

pub highest-into : (e : PlainEntry) (es : List PlainEntry) (h : ℕ) → highest (into e es) h ≡ highest (e ∷ es) h
highest-into e [] h = refl
highest-into e (f ∷ fs) h =
    let rest = highest-into e fs h in
    cond_both (before e.mark f.mark) (e ∷ f ∷ fs) (f ∷ into e fs) (λ l. highest l h ≡ highest (e ∷ f ∷ fs) h) (λ _. refl)
    (λ _. omega (arith, highest-cons f (into e fs) h, highest-cons e (f ∷ fs) h, highest-cons f fs h, highest-cons e fs h))

-- an entry with a mark that a list has, in the place of the one with that mark
pub top-without : (m : PlainMark) (es : List PlainEntry) → has m es ≡ true → max m.stamp (top (without m es)) ≡ top es
top-without m [] there = absurd (let z : ◌≡◌ {A = ℕ} 0 1 = cc in omega arith)
top-without m (e ∷ es) there =
    ⊎_elim
    (λ same.
    let stamp : m.stamp ≡ e.mark.stamp = ap (λ (x : PlainMark). x.stamp) (same_is m e.mark same) in
    rw same
    (⊎_elim (λ again. omega (arith, top-without m es again)) (λ new. let rest = ap top (without_none m es new) in omega arith) (cases_Bool (has m es))))
    (λ other.
    let later : has m es ≡ true = rw other at there in
    let rest = top-without m es later in
    rw other (omega arith))
    (cases_Bool (same_mark m e.mark))

pub highest-without : (e : PlainEntry) (es : List PlainEntry) (h : ℕ) → has e.mark es ≡ true → highest (e ∷ without e.mark es) h ≡ highest es h
highest-without e [] h there = absurd (let z : ◌≡◌ {A = ℕ} 0 1 = cc in omega arith)
highest-without e (f ∷ es) h there =
    ⊎_elim
    (λ same.
    let mark = same_is e.mark f.mark same in
    let alike : one_stamp e h ≡ one_stamp f h = ap (λ (m : PlainMark). stamp-at m h) mark in
    rw same
    (⊎_elim (λ again. omega (arith, highest-without e es h again, highest-cons f es h, highest-cons e (without e.mark es) h))
    (λ new. let rest = ap (λ l. highest l h) (without_none e.mark es new) in omega (arith, highest-cons f es h, highest-cons e (without e.mark es) h))
    (cases_Bool (has e.mark es))))
    (λ other.
    let later : has e.mark es ≡ true = rw other at there in
    let rest = highest-without e es h later in
    rw other (omega (arith, highest-cons e (f ∷ without e.mark es) h, highest-cons f (without e.mark es) h, highest-cons e (without e.mark es) h, highest-cons f es h)))
    (cases_Bool (same_mark e.mark f.mark))

-- a mark that stands in a list has a stamp no higher than the highest of its hut
pub has_low : (m : PlainMark) (es : List PlainEntry) → has m es ≡ true → m.stamp ≤ highest es m.hut
has_low m [] there = absurd (let z : ◌≡◌ {A = ℕ} 0 1 = cc in omega arith)
has_low m (e ∷ es) there =
    ⊎_elim
    (λ same.
    let mark = same_is m e.mark same in
    let own : one_stamp e m.hut ≡ m.stamp = ap (λ (x : PlainMark). stamp-at x m.hut) (sym mark) ∙ stamp-own m in
    omega (arith, highest-cons e es m.hut))
    (λ other. omega (arith, has_low m es (rw other at there), highest-cons e es m.hut))
    (cases_Bool (same_mark m e.mark))

pub vector_same : (es fs : List PlainEntry) → ((h : ℕ) → highest es h ≡ highest fs h) → vector_of es ≡ vector_of fs
vector_same es fs same =
    vectors_same (vector_of es) (vector_of fs) (vector_long es) (vector_long fs) (λ h in-huts. vector_at es h in-huts ∙ same h ∙ sym (vector_at fs h in-huts))

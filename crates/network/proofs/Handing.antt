-- A hut that is in front hands all that it has over to another, which then has the same log, and is in front.
use Rattle.std.proofs.Common.{◌≡◌, ℕ, ◌<◌, Bool, true, false, T, List, length, sym, refl, ap, ◌∙◌, subst, inl, inr, arith}
use Rattle.bookings.specs.Plain.{PlainEntry, PlainMark}
use Rattle.entry_log.specs.Logs.{PlainLog, has}
use Rattle.journal.specs.History.{PlainRecord}
use Rattle.replica.specs.Model.{leader}
use Rattle.network.specs.Net.{Event, after, huts}
use Rattle.network.specs.Replicas.{committed_of, entries_of, tentative_of}
use Rattle.network.proofs.Fetch.{fetch}
use Rattle.network.proofs.Gather.{Front, Led, led_self, many}
use Rattle.network.proofs.Marks.{◌⊆◌, has_one, one_has}
use Rattle.network.proofs.Parts.{prefix_full}
use Rattle.network.proofs.Safety.{after_holds, hist, order_in}
use Rattle.network.proofs.Same.{same_log}
use Rattle.network.proofs.Tests.{Apart, apart_turned, by_same}
use Rattle.network.proofs.Walk.{InLog, Only, Roomy, WalkTo, stay, walk-map}

-- who leads is one of the sixteen
pub leader_low : (es : List PlainEntry) → leader es < huts
unfolding leader
leader_low es = omega arith

both_ways : (a b : Bool) → (T a → T b) → (T b → T a) → a ≡ b
both_ways true true f g = refl
both_ways false false f g = refl
both_ways true false f g = absurd (f tt)
both_ways false true f g = absurd (g tt)

-- who knows the same has the same marks
has_same : (a b : List PlainEntry) → a ⊆ b → b ⊆ a → (m : PlainMark) → has m a ≡ has m b
has_same a b f g m =
    both_ways (has m a) (has m b)
    (λ t. let w = has_one m a t in subst (λ (x : PlainMark). T (has x b)) w.2 (one_has w.0 b (f w.0 w.1)))
    (λ t. let w = has_one m b t in subst (λ (x : PlainMark). T (has x a)) w.2 (one_has w.0 a (g w.0 w.1)))

-- two huts with as many committed have the same committed
pub as_many : (es : List Event) (i j : ℕ) → many es i ≡ many es j → committed_of (hist es i) ≡ committed_of (hist es j)
as_many es i j q = elim (order_in (after es) (after_holds es) i j) [
  | inl p ↦ sym (prefix_full (committed_of (hist es i)) (committed_of (hist es j)) p (omega (arith, q)))
  | inr p ↦ prefix_full (committed_of (hist es j)) (committed_of (hist es i)) p (omega (arith, q))
]

-- what hut c had, hut d has, and is in front
abbrev pub Handed : ℕ → ℕ → List Event → List Event → Type 0
Handed c d es on =
    Front d on × (committed_of (hist on d) ≡ committed_of (hist es c)) × (tentative_of (hist on d) ≡ tentative_of (hist es c))
    × ((k : PlainEntry) → InLog k (hist es c) → InLog k (hist on d))

pub hand_over : (c d : ℕ) (es : List Event) → Roomy es → Front c es → d < huts → WalkTo es (Handed c d es)
hand_over c d es few f low =
    by_same d c (λ p. stay (subst (λ (x : ℕ). Handed c x es es) (sym p) (f, refl, refl, λ k u. u)))
    (λ apart. walk-map (fetch c d f.0 low (apart_turned d c apart) es few) (λ on h.
    let same : hist on c ≡ hist es c = h.0.only c (apart_turned d c apart) in
    let count : many on c ≡ many es c = ap (λ (rs : List PlainRecord). length (committed_of rs)) same in
    let all : many on d ≡ many on c = omega (arith, h.1.0, count, h.0.short (many es c) (f.1 d low).1 (omega arith)) in
    let up : (k : PlainEntry) → InLog k (hist es c) → InLog k (hist on d) = λ k u. h.1.1 k (subst (InLog k) (sym same) u) in
    let down : (k : PlainEntry) → InLog k (hist on d) → InLog k (hist on c) =
    λ k u. subst (InLog k) (sym same) (elim (h.0.from k u) [ inl a ↦ (f.1 d low).0 k a | inr b ↦ b ]) in
    let log = (same_log on d c (has_same (entries_of (hist on d)) (entries_of (hist on c)) down h.1.1) all).0 in (
      (
        low,
        λ i lt. by_same i d (λ p. subst (Led d on) (sym p) (led_self d on))
            (λ a. (λ k u. up k ((f.1 i lt).0 k (subst (InLog k) (h.0.only i a) u)), omega (arith, all, count, (f.1 i lt).1, ap (λ (rs : List PlainRecord). length (committed_of rs)) (h.0.only i a)))),
      ),
      as_many on d c all ∙ ap committed_of same,
      ap (λ (l : PlainLog). l.tentative) log ∙ ap tentative_of same,
      up,
    )))

-- the same, and nobody else has written anything, and hut c stays in front
pub hand_back :
    (c d : ℕ) (es : List Event) → Roomy es → Front c es → d < huts → Apart d c
    → WalkTo es (λ on. Only d es on × Front c on × (committed_of (hist on d) ≡ committed_of (hist es c)) × (tentative_of (hist on d) ≡ tentative_of (hist es c)))
hand_back c d es few f low apart =
    walk-map (fetch c d f.0 low (apart_turned d c apart) es few) (λ on h.
    let same : hist on c ≡ hist es c = h.0.only c (apart_turned d c apart) in
    let count : many on c ≡ many es c = ap (λ (rs : List PlainRecord). length (committed_of rs)) same in
    let all : many on d ≡ many on c = omega (arith, h.1.0, count, h.0.short (many es c) (f.1 d low).1 (omega arith)) in
    let down : (k : PlainEntry) → InLog k (hist on d) → InLog k (hist on c) =
    λ k u. subst (InLog k) (sym same) (elim (h.0.from k u) [ inl a ↦ (f.1 d low).0 k a | inr b ↦ b ]) in
    let log = (same_log on d c (has_same (entries_of (hist on d)) (entries_of (hist on c)) down h.1.1) all).0 in (
      h.0.only,
      (
        f.0,
        λ i lt. by_same i d (λ p. subst (Led c on) (sym p) (down, omega (arith, all)))
            (λ a. (λ k u. subst (InLog k) (sym same) ((f.1 i lt).0 k (subst (InLog k) (h.0.only i a) u)), omega (arith, count, (f.1 i lt).1, ap (λ (rs : List PlainRecord). length (committed_of rs)) (h.0.only i a)))),
      ),
      as_many on d c all ∙ ap committed_of same,
      ap (λ (l : PlainLog). l.tentative) log ∙ ap tentative_of same,
    ))

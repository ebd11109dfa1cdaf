-- A hut comes to know all that any hut knows, and to have as many committed, by letters from each.
use Rattle.std.proofs.Common.{◌≡◌, ℕ, ◌<◌, ◌≤◌, List, length, refl, ap, ◌∙◌, subst, arith}
use Rattle.bookings.specs.Plain.{PlainEntry}
use Rattle.journal.specs.History.{PlainRecord}
use Rattle.network.specs.Net.{Event, huts}
use Rattle.network.specs.Replicas.{committed_of}
use Rattle.network.proofs.Fetch.{fetch}
use Rattle.network.proofs.Safety.{hist}
use Rattle.network.proofs.Tests.{by_same}
use Rattle.network.proofs.Walk.{InLog, Only, Roomy, WalkTo, each_hut, stay, walk-map}

-- how many a hut has committed
abbrev pub many : List Event → ℕ → ℕ
many es i = length (committed_of (hist es i))

-- hut c knows all that hut i knows, and has as many committed
abbrev pub Led : ℕ → List Event → ℕ → Type 0
Led c es i = ((k : PlainEntry) → InLog k (hist es i) → InLog k (hist es c)) × (many es i ≤ many es c)

-- only hut c has written anything, and it has lost nothing
abbrev pub Learned : ℕ → List Event → List Event → Type 0
Learned c es on = Only c es on × ((k : PlainEntry) → InLog k (hist es c) → InLog k (hist on c)) × (many es c ≤ many on c)

-- it is so of all huts
abbrev pub Front : ℕ → List Event → Type 0
Front c es = (c < huts) × ((i : ℕ) → i < huts → Led c es i)

pub led_self : (c : ℕ) (es : List Event) → Led c es c
led_self c es = (λ k d. d, omega arith)

learned_none : (c : ℕ) (es : List Event) → Learned c es es
learned_none c es = (λ x a. refl, λ k d. d, omega arith)

learned_on : (c : ℕ) (es on end : List Event) → Learned c es on → Learned c on end → Learned c es end
learned_on c es on end p q = (λ x n. q.0 x n ∙ p.0 x n, λ k d. q.1 k (p.1 k d), omega (arith, p.2, q.2))

-- what hut c knew of a hut it knows when it has learned more
pub led_kept : (c : ℕ) (es on : List Event) → Learned c es on → (i : ℕ) → Led c es i → Led c on i
led_kept c es on l i led =
    by_same i c (λ p. subst (Led c on) (sym_of p) (led_self c on))
    (λ a. (λ k d. l.1 k (led.0 k (subst (InLog k) (l.0 i a) d)), omega (arith, led.1, l.2, ap (λ (rs : List PlainRecord). length (committed_of rs)) (l.0 i a))))
  where
    sym_of : i ≡ c → c ≡ i
    sym_of p = subst (λ (x : ℕ). x ≡ i) p refl

-- hut i's letters bring hut c all that it knows
gather_hut : (c : ℕ) → c < huts → (es : List Event) → Roomy es → (i : ℕ) → i < huts → WalkTo es (λ on. Learned c es on × Led c on i)
gather_hut c low es few i lt =
    by_same i c (λ p. stay (learned_none c es, subst (Led c es) (subst (λ (x : ℕ). x ≡ i) p refl) (led_self c es)))
    (λ apart. walk-map (fetch i c lt low apart es few) (λ on h. ((h.0.only, h.0.kept, h.0.grown), (h.1.1, h.1.0))))

-- all huts
pub gather : (c : ℕ) → c < huts → (es : List Event) → Roomy es → WalkTo es (λ on. Learned c es on × Front c on)
gather c low es few =
    walk-map
    (each_hut (Learned c es) (Led c)
    (λ on more h d lt. walk-map (gather_hut c low on more d lt) (λ end g. (learned_on c es on end h g.0, g.1, λ i a. led_kept c on end g.0 i)))
    huts (omega arith) es few (learned_none c es))
    (λ on h. (h.0, (low, h.1)))

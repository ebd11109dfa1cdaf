-- From every state handing on and committing alone can bring all replicas to one log, all of it committed, with every entry that lasts.
use Rattle.std.proofs.Common.{◌≡◌, ℕ, ◌<◌, List, [], ◌++◌, sym, refl, ap, ◌∙◌, subst, append-nil, arith}
use mathlib.Core.List.{Memᴰ}
use Rattle.bookings.specs.Plain.{PlainEntry}
use Rattle.journal.specs.History.{history_of}
use Rattle.network.specs.Lasting.{Lasting}
use Rattle.network.specs.Net.{Event, Net, huts, start}
use Rattle.network.specs.Promise.{Always, CanAgree, all_hand_on}
use Rattle.network.specs.Replicas.{committed_of, entries_of, tentative_of}
use Rattle.network.proofs.Gather.{Front, Learned, gather}
use Rattle.network.proofs.Knowing.{known_here, made-own, maker_knows}
use Rattle.network.proofs.Lasting.{lasting_known}
use Rattle.network.proofs.Safety.{All, hist}
use Rattle.network.proofs.Settle.{settle}
use Rattle.network.proofs.Spread.{Agreed, spread}
use Rattle.network.proofs.Tests.{T_true, by_same}
use Rattle.network.proofs.Walk.{InLog, Roomy, WalkTo, run-append, then_on, walk-map}

-- what is known anywhere is known to one of the sixteen, its maker
known_below_huts : (es : List Event) (i : ℕ) (k : PlainEntry) → InLog k (hist es i) → (h : ℕ) × (h < huts) × InLog k (hist es h)
known_below_huts es i k d =
    let w = known_here (All es) i k d in
    (k.mark.hut, (made-own (All es) k w.0 w.1).hut, maker_knows (All es) k w.0 w.1)

-- all huts agree with one, which has as committed all that any hut knew
abbrev pub Done : List Event → List Event → Type 0
Done es on = (p : ℕ) × (p < huts) × ((i : ℕ) → i < huts → Agreed p on i) × ((i : ℕ) (k : PlainEntry) → InLog k (hist es i) → Memᴰ k (committed_of (hist on p)))

-- what one of the sixteen knew, hut 0 knows when it has heard from all
all_known : (es on : List Event) → Learned 0 es on → Front 0 on → (k : PlainEntry) → (h : ℕ) × (h < huts) × InLog k (hist es h) → InLog k (hist on 0)
all_known es on l f k (x, lt, d) = by_same x 0 (λ p. l.1 k (subst (λ (y : ℕ). InLog k (hist es y)) p d)) (λ a. (f.1 x lt).0 k (subst (InLog k) (sym (l.0 x a)) d))

-- the phases: hut 0 hears from all, all is committed by whoever leads then, and all take it over
agree_all : (es : List Event) → Roomy es → WalkTo es (Done es)
agree_all es few =
    then_on few (gather 0 (omega arith) es few)
    (λ on more h.
    then_on more (settle (tentative_of (hist on 0)) 0 on more h.1 refl)
    (λ next still g.
    walk-map (spread g.0 next still g.1 g.2)
    (λ end s.
    let all : entries_of (hist next g.0) ≡ committed_of (hist end g.0) =
    ap entries_of (sym s.0.0) ∙ ap (λ (l : List PlainEntry). committed_of (hist end g.0) ++ l) s.0.1 ∙ append-nil (committed_of (hist end g.0)) in
    (g.0, g.1.0, s.1, λ i k d. subst (Memᴰ k) all (g.3 k (all_known es on h.0 h.1 k (known_below_huts es i k d)))))))

-- the law: `after (es ++ later)` is `run later (after es)`
pub can_agree : Always CanAgree
can_agree es few =
    let w = agree_all es few in
    let is = run-append es w.later start in
    let p = w.there.0 in
    let zero = (w.there.2 0 (omega arith)).1 in (
      w.later,
      T_true (all_hand_on w.later) w.walk,
      subst (λ (n : Net). (i : ℕ) → i < huts → (tentative_of (history_of (n.hut i)) ≡ []) × (committed_of (history_of (n.hut i)) ≡ committed_of (history_of (n.hut 0)))) is
          (λ i lt. ((w.there.2 i lt).0, (w.there.2 i lt).1 ∙ sym zero)),
      subst (λ (n : Net). (k : PlainEntry) → Lasting es k → Memᴰ k (committed_of (history_of (n.hut 0)))) is
          (λ k l. let s = lasting_known es k l in subst (Memᴰ k) (sym zero) (w.there.3 s.0 k s.1)),
    )

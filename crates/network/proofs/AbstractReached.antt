-- What holds of every page that is reached, and the laws of such pages.
use Rattle.std.proofs.Common.{refl, inl, arith}
use Rattle.network.specs.Abstract.{Page, Reached, Steps, blank, none, then}
use Rattle.network.specs.AbstractLaws.{AbstractCausal, AbstractFinal, AbstractGaps, AbstractSame, AbstractSound, Lasts}
use Rattle.network.proofs.AbstractKeeps.{Invariant}
use Rattle.network.proofs.AbstractLaws.{causal_in, no_gaps_in, same_in}
use Rattle.network.proofs.AbstractMoves.{step_keeps}
use Rattle.network.proofs.Lists.{front_not_nil, none_in}
use Rattle.network.proofs.Parts.{prefix_self, prefix_trans}

blank_kept : Invariant blank
blank_kept =
    record {
      sound =
          record {
            closed = λ i. (λ e m. none_in m, λ k m. none_in m);
            lasting = λ i. (λ e m. none_in m, λ k m. none_in m);
            kept = λ i k m. none_in m;
            firm = λ i. omega arith;
            behind = λ front back e q. absurd (front_not_nil e front back q);
            lower = λ i e k m. none_in m;
            once = λ i j e f m. none_in m;
            own = λ i j e f m. none_in m;
          };
      home = λ j e m. none_in m;
      lasting = λ j e m. none_in m;
      least = λ j. omega arith;
      within = λ j. omega arith;
      had = inl refl;
      inked = λ e m. none_in m;
    }

reached_kept : (a : Page) → Reached a → Invariant a
reached_kept a none = blank_kept
reached_kept a (then {b = c} r s) = (step_keeps c a s (reached_kept c r)).0

pub abstract_sound : AbstractSound
abstract_sound a r = (reached_kept a r).sound

pub abstract_causal : AbstractCausal
abstract_causal a r = causal_in a (abstract_sound a r)

pub abstract_same : AbstractSame
abstract_same a r = same_in a (abstract_sound a r)

pub abstract_gaps : AbstractGaps
abstract_gaps a r = no_gaps_in a (abstract_sound a r)

pub steps_trans : (a b c : Page) → Steps a b → Steps b c → Steps a c
steps_trans a b c p none = p
steps_trans a b c p (then {b = d} q s) = then (steps_trans a b d p q) s

lasts_self : (a : Page) → Lasts a a
lasts_self a = record { committed = prefix_self a.committed; count = λ i. omega arith; set = λ i k m. m }

lasts_trans : (a b c : Page) → Lasts a b → Lasts b c → Lasts a c
lasts_trans a b c p q =
    record {
      committed = prefix_trans a.committed b.committed c.committed p.committed q.committed;
      count = λ i. omega (arith, p.count i, q.count i);
      set = λ i k m. q.set i k (p.set i k m);
    }

-- along the steps, each from a page that is reached
reached_on : (a b : Page) → Reached a → Steps a b → Reached b × Lasts a b
reached_on a b r none = (r, lasts_self a)
reached_on a b r (then {b = c} ss s) =
    let p = reached_on a c r ss in
    (then p.0 s, lasts_trans a c b p.1 (step_keeps c b s (reached_kept c p.0)).1)

pub abstract_final : AbstractFinal
abstract_final a b r ss = (reached_on a b r ss).1

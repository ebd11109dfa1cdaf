use Rattle.std.proofs.Common.{◌≡◌, List, [], ◌∷◌, ◌++◌, map, length, vec_items, sym, refl, ap, ◌∙◌, subst, arith, rules}
use Rattle.std.proofs.lemmas.List.{map-append}
use Rattle.std.proofs.lemmas.Result.{err_from_is_err_and}
use Rattle.journal.specs.Keeping.{InStep}
use Rattle.letters.specs.Items.{PlainItem, left, plain_item}
use Rattle.network.specs.Items.{refusal_of}
use Rattle.network.specs.Taking.{plain_outcome, outcome_of}
use Rattle.network.proofs.TakingOn.{Midway, midway_none, midway_more, midway_fails, midway_taken, midway_told}
use Rattle.network.proofs.takes.take_all.Goals as goal

no_items : {A : Type 0} (xs : List A) → length xs ≡ 0 → xs ≡ []
no_items [] h = refl
no_items (x ∷ xs) h = absurd (omega arith)

pub loop-item-init : goal.loop-item-init
loop-item-init g c = (
  λ k in_step. subst (λ (ws : List PlainItem). Midway (InStep g.J.Journal.keeps c.args.keeper.now) (left c.args.letter) ws (map plain_outcome (vec_items c.args.outcomes.now)) k) (ap left (sym c.into_iter-item-iterator.ensures.into_iter_gives))
      (midway_none _ _ _ k (ap (map plain_outcome) (no_items (vec_items c.args.outcomes.now) (search rules))) in_step),
  omega arith,
  search rules,
  refl,
)

pub loop-item-preserved : goal.loop-item-preserved
loop-item-preserved g c = (
  λ k in_step. midway_more _ _ _ _ _ _ _ (plain_item c.in-Some.item) k (c.loop-item.invariant.0 k in_step) c.in-Some.ensures.steps c.in_ok-outcome.ensures.kept
      (λ m kept. ap (map plain_outcome) c.push_reserved.ensures.items ∙ map-append plain_outcome (vec_items c.loop-item.outcomes) (c.in_ok-outcome.outcome ∷ [])
      ∙ ap (λ o. map plain_outcome (vec_items c.loop-item.outcomes) ++ o ∷ []) (c.in_ok-outcome.ensures.answer ∙ ap (λ s. outcome_of (plain_item c.in-Some.item) (refusal_of (plain_item c.in-Some.item) s)) kept.state)),
  omega (arith, c.in_ok-outcome.ensures.room, c.loop-item.invariant.1),
  omega (arith, c.push_reserved.ensures.len, c.push_reserved.ensures.capacity, c.loop-item.invariant.2, ap length c.in-Some.ensures.steps),
  c.push_reserved.ensures.capacity ∙ c.loop-item.invariant.3,
)

pub returns-in_err-outcome-clause-kept : goal.returns-in_err-outcome-clause-kept
returns-in_err-outcome-clause-kept g c =
    let p = err_from_is_err_and c.from_residual.result c.from_residual.ensures.1 in
    rw p.1
    (λ k in_step found stopped. midway_fails _ _ _ _ _ (plain_item c.in-Some.item) k found (c.loop-item.invariant.0 k in_step) c.in-Some.ensures.steps
    (λ m kept. c.in_err-outcome.ensures.kept m kept found stopped))

pub returns : goal.returns
returns g c = record {
  kept = λ k in_step. midway_taken _ _ _ _ k (c.loop-item.invariant.0 k in_step) c.in-None.ensures.steps.0;
  answer = λ k in_step. midway_told _ _ _ _ k (c.loop-item.invariant.0 k in_step) c.in-None.ensures.steps.0;
  room = c.loop-item.invariant.1;
  sure = λ k in_step roomy. refl;
  capacity = c.loop-item.invariant.3;
}
